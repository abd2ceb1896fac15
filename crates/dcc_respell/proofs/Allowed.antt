-- A text whose expressions are written otherwise is writable as it was.
use Rattle.std.proofs.Common.{◌≡◌, ℕ, Bool, true, false, ◌&&◌, ◌||◌, not, List, [], ◌∷◌, ◌++◌, map, Option, Some, None, refl, sym, ap, ap₂, ◌∙◌}
use Rattle.std.specs.Prelude.{option_map, nat_le, is_some}
use Rattle.std.specs.List.{list_all, list_any, flat_map}
use Rattle.std.proofs.lemmas.Bool.{and_parts, and_from}
use Rattle.std.proofs.lemmas.List.Folds.{list_all-append}
use Rattle.std.proofs.lemmas.Grind.{flat_map-append}
use Rattle.dcc_c.specs.Token.{same_bytes}
use Rattle.dcc_c.specs.Grammar.{Around, in_block, in_loop, in_switch, outermost, has_arm, is_name}
use Rattle.dcc_c.specs.Tree.{Word, Expr, Stmt, Assign, Call, If, While, DoWhile, Forever, Switch, Break, Continue, Goto, Label, Empty, Return, Lines, no_lines, line, Arms, no_arms, arm, Function, Tree}
use Rattle.dcc_c.specs.Parts.{stmts_in, inner_stmts, arm_stmts, label_of}
use Rattle.dcc_c.specs.Dos.{dos_names}
use Rattle.dcc_c.specs.Rules.{declared_in, is_switch_value, differ, all_differ, names_of, known_names, own_variables, is_number, goto_of, allows_labels, signature_of, signature_in, cases_of, at_most_one, allows_stmt, shallow_stmt, IsAllowedFunction, AreAllowed, IsAllowed}
use Rattle.dcc_c.specs.Rules as rules
use Rattle.dcc_c.proofs.Writable.{is_writable_expr, is_writable_place, is_place_if, is_value_if, is_label, are_cases, has_no_case, is_small, is_writable_stmt, are_writable_lines, are_writable_arms, is_writable_default, is_writable_function, is_writable_param, is_writable_local, IsWritable}
use Rattle.dcc_respell.specs.Writing.{Writing, stmt_by, lines_by, arms_by, function_by, text_by, MayStand}

-- Lists that statements have.

module _ (w : Writing) where
  module _ {A : Type 0} (part : Stmt → List A) (same : (stmt : Stmt) → part (stmt_by w stmt) ≡ part stmt) where
    joined : (xs ys us vs : List Stmt) → flat_map part xs ≡ flat_map part us → flat_map part ys ≡ flat_map part vs → flat_map part (xs ++ ys) ≡ flat_map part (us ++ vs)
    joined xs ys us vs first second = flat_map-append part xs ys ∙ ap₂ (λ a b. a ++ b) first second ∙ sym (flat_map-append part us vs)

    mutual
      lines-same : (lines : Lines) → flat_map part (stmts_in (lines_by w lines)) ≡ flat_map part (stmts_in lines)
      lines-same no_lines = refl
      lines-same (line stmt at lines) =
          ap₂ (λ a b. a ++ b) (same stmt) (joined (inner_stmts (stmt_by w stmt)) (stmts_in (lines_by w lines)) (inner_stmts stmt) (stmts_in lines) (inner-same stmt) (lines-same lines))

      inner-same : (stmt : Stmt) → flat_map part (inner_stmts (stmt_by w stmt)) ≡ flat_map part (inner_stmts stmt)
      inner-same (If e body otherwise) =
          joined (stmts_in (lines_by w body)) (stmts_in (lines_by w otherwise)) (stmts_in body) (stmts_in otherwise) (lines-same body) (lines-same otherwise)
      inner-same (While e body) = lines-same body
      inner-same (DoWhile body e) = lines-same body
      inner-same (Forever body) = lines-same body
      inner-same (Switch e arms last) =
          joined (arm_stmts (arms_by w arms)) (arm_stmts (arms_by w last)) (arm_stmts arms) (arm_stmts last) (arms-same arms) (arms-same last)
      inner-same (Assign place e) = refl
      inner-same (Call place function arguments depth) = refl
      inner-same Break = refl
      inner-same Continue = refl
      inner-same (Goto word) = refl
      inner-same (Label word) = refl
      inner-same Empty = refl
      inner-same (Return e) = refl

      arms-same : (arms : Arms) → flat_map part (arm_stmts (arms_by w arms)) ≡ flat_map part (arm_stmts arms)
      arms-same no_arms = refl
      arms-same (arm cases body arms) =
          joined (stmts_in (lines_by w body)) (arm_stmts (arms_by w arms)) (stmts_in body) (arm_stmts arms) (lines-same body) (arms-same arms)

  label-same : (stmt : Stmt) → label_of (stmt_by w stmt) ≡ label_of stmt
  label-same (If e body otherwise) = refl
  label-same (While e body) = refl
  label-same (DoWhile body e) = refl
  label-same (Forever body) = refl
  label-same (Switch e arms last) = refl
  label-same (Assign place e) = refl
  label-same (Call place function arguments depth) = refl
  label-same Break = refl
  label-same Continue = refl
  label-same (Goto word) = refl
  label-same (Label word) = refl
  label-same Empty = refl
  label-same (Return e) = refl

  goto-same : (stmt : Stmt) → goto_of (stmt_by w stmt) ≡ goto_of stmt
  goto-same (If e body otherwise) = refl
  goto-same (While e body) = refl
  goto-same (DoWhile body e) = refl
  goto-same (Forever body) = refl
  goto-same (Switch e arms last) = refl
  goto-same (Assign place e) = refl
  goto-same (Call place function arguments depth) = refl
  goto-same Break = refl
  goto-same Continue = refl
  goto-same (Goto word) = refl
  goto-same (Label word) = refl
  goto-same Empty = refl
  goto-same (Return e) = refl

  pub labels-allowed : (lines : Lines) → allows_labels (lines_by w lines) ≡ allows_labels lines
  labels-allowed lines =
      ap₂ (λ labels gotos. all_differ labels && list_all (λ name. list_any (same_bytes name) labels) gotos) (lines-same label_of label-same lines) (lines-same goto_of goto-same lines)

  -- What each statement passes that passed another test, all of them pass.
  module _ (p q : Stmt → Bool) (passes : (stmt : Stmt) → p stmt ≡ true → q (stmt_by w stmt) ≡ true) where
    all-both : (xs ys us vs : List Stmt) → (list_all p xs ≡ true → list_all q us ≡ true) → (list_all p ys ≡ true → list_all q vs ≡ true) → list_all p (xs ++ ys) ≡ true → list_all q (us ++ vs) ≡ true
    all-both xs ys us vs first second all =
        let parts = and_parts (list_all p xs) (list_all p ys) (sym (list_all-append p xs ys) ∙ all) in
        list_all-append q us vs ∙ and_from (list_all q us) (list_all q vs) (first parts.0) (second parts.1)

    mutual
      pub all-lines : (lines : Lines) → list_all p (stmts_in lines) ≡ true → list_all q (stmts_in (lines_by w lines)) ≡ true
      all-lines no_lines all = refl
      all-lines (line stmt at lines) all =
          let first = and_parts (p stmt) (list_all p (inner_stmts stmt ++ stmts_in lines)) all in
          and_from (q (stmt_by w stmt)) (list_all q (inner_stmts (stmt_by w stmt) ++ stmts_in (lines_by w lines))) (passes stmt first.0)
          (all-both (inner_stmts stmt) (stmts_in lines) (inner_stmts (stmt_by w stmt)) (stmts_in (lines_by w lines)) (all-inner stmt) (all-lines lines) first.1)

      all-inner : (stmt : Stmt) → list_all p (inner_stmts stmt) ≡ true → list_all q (inner_stmts (stmt_by w stmt)) ≡ true
      all-inner (If e body otherwise) all =
          all-both (stmts_in body) (stmts_in otherwise) (stmts_in (lines_by w body)) (stmts_in (lines_by w otherwise)) (all-lines body) (all-lines otherwise) all
      all-inner (While e body) all = all-lines body all
      all-inner (DoWhile body e) all = all-lines body all
      all-inner (Forever body) all = all-lines body all
      all-inner (Switch e arms last) all =
          all-both (arm_stmts arms) (arm_stmts last) (arm_stmts (arms_by w arms)) (arm_stmts (arms_by w last)) (all-arms arms) (all-arms last) all
      all-inner (Assign place e) all = refl
      all-inner (Call place function arguments depth) all = refl
      all-inner Break all = refl
      all-inner Continue all = refl
      all-inner (Goto word) all = refl
      all-inner (Label word) all = refl
      all-inner Empty all = refl
      all-inner (Return e) all = refl

      all-arms : (arms : Arms) → list_all p (arm_stmts arms) ≡ true → list_all q (arm_stmts (arms_by w arms)) ≡ true
      all-arms no_arms all = refl
      all-arms (arm cases body arms) all =
          all-both (stmts_in body) (arm_stmts arms) (stmts_in (lines_by w body)) (arm_stmts (arms_by w arms)) (all-lines body) (all-arms arms) all

  -- Arms.

  cases-same : (arms : Arms) → cases_of (arms_by w arms) ≡ cases_of arms
  cases-same no_arms = refl
  cases-same (arm cases body arms) = ap (λ ns. cases ++ ns) (cases-same arms)

  most-same : (arms : Arms) → at_most_one (arms_by w arms) ≡ at_most_one arms
  most-same no_arms = refl
  most-same (arm cases body no_arms) = refl
  most-same (arm cases body (arm others lines arms)) = refl

  has-same : (arms : Arms) → has_arm (arms_by w arms) ≡ has_arm arms
  has-same no_arms = refl
  has-same (arm cases body arms) = refl

  label-told : (stmt : Stmt) → is_label (stmt_by w stmt) ≡ is_label stmt
  label-told (If e body otherwise) = refl
  label-told (While e body) = refl
  label-told (DoWhile body e) = refl
  label-told (Forever body) = refl
  label-told (Switch e arms last) = refl
  label-told (Assign place e) = refl
  label-told (Call place function arguments depth) = refl
  label-told Break = refl
  label-told Continue = refl
  label-told (Goto word) = refl
  label-told (Label word) = refl
  label-told Empty = refl
  label-told (Return e) = refl

-- What is written so may stand in the second function, however deep it is.
pub record MayBeWritten (tree after : Tree) (f g : Function) (w : Writing) : Type 0 where
  pub test : (e : Expr) → is_number (declared_in tree f) e ≡ true → is_number (declared_in after g) (w.test e) ≡ true
  pub choice : (e : Expr) → is_switch_value (declared_in tree f) e ≡ true → is_switch_value (declared_in after g) (w.choice e) ≡ true
  pub value : (place e : Expr) → allows_stmt tree f (Assign place e) ≡ true → allows_stmt after g (stmt_by w (Assign place e)) ≡ true
  pub call : (place : Option Expr) (function : Word) (es : List Expr) (depth : ℕ) → allows_stmt tree f (Call place function es depth) ≡ true → allows_stmt after g (stmt_by w (Call place function es depth)) ≡ true
  pub returned : (e : Expr) → allows_stmt tree f (Return (Some e)) ≡ true → allows_stmt after g (stmt_by w (Return (Some e))) ≡ true
  pub test_written : (e : Expr) → is_writable_expr e ≡ true → is_writable_expr (w.test e) ≡ true
  pub choice_written : (e : Expr) → is_writable_expr e ≡ true → is_writable_expr (w.choice e) ≡ true
  pub place_written : (place : Expr) → is_writable_place place ≡ true → is_writable_place (w.place place) ≡ true
  pub value_written : (place e : Expr) → is_writable_expr e ≡ true → is_writable_expr (w.value place e) ≡ true
  pub arguments_written : (function : Word) (es : List Expr) → list_all is_writable_expr es ≡ true → list_all is_writable_expr (w.arguments function es) ≡ true
  pub returned_written : (e : Expr) → is_writable_expr e ≡ true → is_writable_expr (w.returned e) ≡ true

but-for-depth : (tree after : Tree) (f g : Function) (w : Writing) → MayStand tree after f g w → MayBeWritten tree after f g w
but-for-depth tree after f g w may = record {
  test = may.test;
  choice = may.choice;
  value = may.value;
  call = may.call;
  returned = may.returned;
  test_written = may.test_written;
  choice_written = may.choice_written;
  place_written = may.place_written;
  value_written = may.value_written;
  arguments_written = may.arguments_written;
  returned_written = may.returned_written;
}

-- One function.

module _ (tree after : Tree) (f g : Function) (w : Writing) (result : g.result ≡ f.result) (may : MayBeWritten tree after f g w) where
  pub own-allowed : (stmt : Stmt) → allows_stmt tree f stmt ≡ true → allows_stmt after g (stmt_by w stmt) ≡ true
  own-allowed (Assign place e) is = may.value place e is
  own-allowed (Call place function es depth) is = may.call place function es depth is
  own-allowed (If e body otherwise) is = may.test e is
  own-allowed (While e body) is = may.test e is
  own-allowed (DoWhile body e) is = may.test e is
  own-allowed (Forever body) is = refl
  own-allowed (Switch e arms last) is =
      let parts = and_parts (is_switch_value (declared_in tree f) e) (differ (cases_of arms) && at_most_one last) is in
      and_from (is_switch_value (declared_in after g) (w.choice e)) (differ (cases_of (arms_by w arms)) && at_most_one (arms_by w last)) (may.choice e parts.0)
      (ap₂ (λ cs b. differ cs && b) (cases-same w arms) (most-same w last) ∙ parts.1)
  own-allowed Break is = refl
  own-allowed Continue is = refl
  own-allowed (Goto word) is = refl
  own-allowed (Label word) is = refl
  own-allowed Empty is = refl
  own-allowed (Return None) is = ap (λ o. not (is_some o)) result ∙ is
  own-allowed (Return (Some e)) is = may.returned e is

  place-if : (place : Option Expr) → is_place_if place ≡ true → is_place_if (option_map w.place place) ≡ true
  place-if None is = refl
  place-if (Some place) is = may.place_written place is

  value-if : (e : Option Expr) → is_value_if e ≡ true → is_value_if (option_map w.returned e) ≡ true
  value-if None is = refl
  value-if (Some e) is = may.returned_written e is

  mutual
    stmt-writable : (around : Around) (stmt : Stmt) → is_writable_stmt around stmt ≡ true → is_writable_stmt around (stmt_by w stmt) ≡ true
    stmt-writable around (Assign place e) is =
        let parts = and_parts (is_writable_place place) (is_writable_expr e) is in
        and_from (is_writable_place (w.place place)) (is_writable_expr (w.value place e)) (may.place_written place parts.0) (may.value_written place e parts.1)
    stmt-writable around (Call place function es depth) is =
        let one = and_parts (is_place_if place) (is_name function && (list_all is_writable_expr es && is_small depth)) is in
        let two = and_parts (is_name function) (list_all is_writable_expr es && is_small depth) one.1 in
        let three = and_parts (list_all is_writable_expr es) (is_small depth) two.1 in
        and_from (is_place_if (option_map w.place place)) (is_name function && (list_all is_writable_expr (w.arguments function es) && is_small depth)) (place-if place one.0)
        (and_from (is_name function) (list_all is_writable_expr (w.arguments function es) && is_small depth) two.0
        (and_from (list_all is_writable_expr (w.arguments function es)) (is_small depth) (may.arguments_written function es three.0) three.1))
    stmt-writable around (If e body otherwise) is =
        let one = and_parts (is_writable_expr e) (are_writable_lines (in_block around) false body && are_writable_lines (in_block around) false otherwise) is in
        let two = and_parts (are_writable_lines (in_block around) false body) (are_writable_lines (in_block around) false otherwise) one.1 in
        and_from (is_writable_expr (w.test e)) (are_writable_lines (in_block around) false (lines_by w body) && are_writable_lines (in_block around) false (lines_by w otherwise)) (may.test_written e one.0)
        (and_from (are_writable_lines (in_block around) false (lines_by w body)) (are_writable_lines (in_block around) false (lines_by w otherwise)) (lines-writable (in_block around) false body two.0) (lines-writable (in_block around) false otherwise two.1))
    stmt-writable around (While e body) is =
        let one = and_parts (is_writable_expr e) (are_writable_lines (in_loop around) false body) is in
        and_from (is_writable_expr (w.test e)) (are_writable_lines (in_loop around) false (lines_by w body)) (may.test_written e one.0) (lines-writable (in_loop around) false body one.1)
    stmt-writable around (DoWhile body e) is =
        let one = and_parts (is_writable_expr e) (are_writable_lines (in_loop around) false body) is in
        and_from (is_writable_expr (w.test e)) (are_writable_lines (in_loop around) false (lines_by w body)) (may.test_written e one.0) (lines-writable (in_loop around) false body one.1)
    stmt-writable around (Forever body) is = lines-writable (in_loop around) false body is
    stmt-writable around (Switch e arms last) is =
        let one = and_parts (is_writable_expr e) ((has_arm arms || has_arm last) && (are_writable_arms (in_switch around) arms && is_writable_default (in_switch around) last)) is in
        let two = and_parts (has_arm arms || has_arm last) (are_writable_arms (in_switch around) arms && is_writable_default (in_switch around) last) one.1 in
        let three = and_parts (are_writable_arms (in_switch around) arms) (is_writable_default (in_switch around) last) two.1 in
        and_from (is_writable_expr (w.choice e)) ((has_arm (arms_by w arms) || has_arm (arms_by w last)) && (are_writable_arms (in_switch around) (arms_by w arms) && is_writable_default (in_switch around) (arms_by w last))) (may.choice_written e one.0)
        (and_from (has_arm (arms_by w arms) || has_arm (arms_by w last)) (are_writable_arms (in_switch around) (arms_by w arms) && is_writable_default (in_switch around) (arms_by w last)) (ap₂ (λ a b. a || b) (has-same w arms) (has-same w last) ∙ two.0)
        (and_from (are_writable_arms (in_switch around) (arms_by w arms)) (is_writable_default (in_switch around) (arms_by w last)) (arms-writable (in_switch around) arms three.0) (default-writable (in_switch around) last three.1)))
    stmt-writable around Break is = is
    stmt-writable around Continue is = is
    stmt-writable around (Goto word) is = is
    stmt-writable around (Label word) is = is
    stmt-writable around Empty is = refl
    stmt-writable around (Return e) is = value-if e is

    pub lines-writable : (around : Around) (labelled : Bool) (lines : Lines) → are_writable_lines around labelled lines ≡ true → are_writable_lines around labelled (lines_by w lines) ≡ true
    lines-writable around labelled no_lines is = is
    lines-writable around labelled (line stmt at lines) is =
        let one = and_parts (nat_le around.blocks 200) (is_writable_stmt around stmt && are_writable_lines around (is_label stmt) lines) is in
        let two = and_parts (is_writable_stmt around stmt) (are_writable_lines around (is_label stmt) lines) one.1 in
        and_from (nat_le around.blocks 200) (is_writable_stmt around (stmt_by w stmt) && are_writable_lines around (is_label (stmt_by w stmt)) (lines_by w lines)) one.0
        (and_from (is_writable_stmt around (stmt_by w stmt)) (are_writable_lines around (is_label (stmt_by w stmt)) (lines_by w lines)) (stmt-writable around stmt two.0)
        (ap (λ b. are_writable_lines around b (lines_by w lines)) (label-told w stmt) ∙ lines-writable around (is_label stmt) lines two.1))

    arms-writable : (around : Around) (arms : Arms) → are_writable_arms around arms ≡ true → are_writable_arms around (arms_by w arms) ≡ true
    arms-writable around no_arms is = refl
    arms-writable around (arm cases body arms) is =
        let one = and_parts (nat_le around.blocks 200) (are_cases cases && (are_writable_lines around false body && are_writable_arms around arms)) is in
        let two = and_parts (are_cases cases) (are_writable_lines around false body && are_writable_arms around arms) one.1 in
        let three = and_parts (are_writable_lines around false body) (are_writable_arms around arms) two.1 in
        and_from (nat_le around.blocks 200) (are_cases cases && (are_writable_lines around false (lines_by w body) && are_writable_arms around (arms_by w arms))) one.0
        (and_from (are_cases cases) (are_writable_lines around false (lines_by w body) && are_writable_arms around (arms_by w arms)) two.0
        (and_from (are_writable_lines around false (lines_by w body)) (are_writable_arms around (arms_by w arms)) (lines-writable around false body three.0) (arms-writable around arms three.1)))

    default-writable : (around : Around) (arms : Arms) → is_writable_default around arms ≡ true → is_writable_default around (arms_by w arms) ≡ true
    default-writable around no_arms is = refl
    default-writable around (arm cases body arms) is =
        let one = and_parts (nat_le around.blocks 200) (has_no_case cases && (are_writable_lines around false body && not (has_arm arms))) is in
        let two = and_parts (has_no_case cases) (are_writable_lines around false body && not (has_arm arms)) one.1 in
        let three = and_parts (are_writable_lines around false body) (not (has_arm arms)) two.1 in
        and_from (nat_le around.blocks 200) (has_no_case cases && (are_writable_lines around false (lines_by w body) && not (has_arm (arms_by w arms)))) one.0
        (and_from (has_no_case cases) (are_writable_lines around false (lines_by w body) && not (has_arm (arms_by w arms))) two.0
        (and_from (are_writable_lines around false (lines_by w body)) (not (has_arm (arms_by w arms))) (lines-writable around false body three.0) (ap not (has-same w arms) ∙ three.1)))

-- Texts.

module _ (writing : Function → Writing) (tree : Tree) where
  abbrev after : Tree
  after = text_by writing tree

  -- each function may be written so
  abbrev pub AllMayStand : List Function → Type 0
  AllMayStand [] = Unit {0}
  AllMayStand (f ∷ functions) = MayStand tree after f (function_by writing f) (writing f) × AllMayStand functions

  names-same : (functions : List Function) → map (λ (f : Function). f.name) (map (function_by writing) functions) ≡ map (λ (f : Function). f.name) functions
  names-same [] = refl
  names-same (f ∷ functions) = ap (λ names. f.name ∷ names) (names-same functions)

  known-same : known_names after ≡ known_names tree
  known-same = ap (λ names. map (λ g. g.name) tree.globals ++ (names ++ dos_names)) (names-same tree.functions)

  one-function : (f : Function) → MayStand tree after f (function_by writing f) (writing f) → IsAllowedFunction tree f → IsAllowedFunction after (function_by writing f)
  one-function f may allowed = record {
    own_names = ap (λ names. all_differ (names_of (own_variables f) ++ names)) known-same ∙ allowed.own_names;
    labels = labels-allowed (writing f) f.body ∙ allowed.labels;
    types = all-lines (writing f) (allows_stmt tree f) (allows_stmt after (function_by writing f)) (own-allowed tree after f (function_by writing f) (writing f) refl (but-for-depth tree after f (function_by writing f) (writing f) may)) f.body allowed.types;
    arrays = allowed.arrays;
    depth = all-lines (writing f) (shallow_stmt 200) (shallow_stmt 200) may.shallow f.body allowed.depth;
  }

  all-functions : (functions : List Function) → AllMayStand functions → AreAllowed tree functions → AreAllowed after (map (function_by writing) functions)
  all-functions [] may are = rules.no_more
  all-functions (f ∷ functions) may (rules.one_more first others) = rules.one_more (one-function f may.0 first) (all-functions functions may.1 others)

  all-writable : (functions : List Function) → AllMayStand functions → list_all is_writable_function functions ≡ true → list_all is_writable_function (map (function_by writing) functions) ≡ true
  all-writable [] may all = refl
  all-writable (f ∷ functions) may all =
      let first = and_parts (is_writable_function f) (list_all is_writable_function functions) all in
      let one = and_parts (is_name f.name) (list_all is_writable_param f.params && (list_all is_writable_local f.locals && are_writable_lines outermost false f.body)) first.0 in
      let two = and_parts (list_all is_writable_param f.params) (list_all is_writable_local f.locals && are_writable_lines outermost false f.body) one.1 in
      let three = and_parts (list_all is_writable_local f.locals) (are_writable_lines outermost false f.body) two.1 in
      and_from (is_writable_function (function_by writing f)) (list_all is_writable_function (map (function_by writing) functions))
      (and_from (is_name f.name) (list_all is_writable_param f.params && (list_all is_writable_local f.locals && are_writable_lines outermost false (lines_by (writing f) f.body))) one.0
      (and_from (list_all is_writable_param f.params) (list_all is_writable_local f.locals && are_writable_lines outermost false (lines_by (writing f) f.body)) two.0
      (and_from (list_all is_writable_local f.locals) (are_writable_lines outermost false (lines_by (writing f) f.body)) three.0 (lines-writable tree after f (function_by writing f) (writing f) refl (but-for-depth tree after f (function_by writing f) (writing f) may.0) outermost false f.body three.1))))
      (all-writable functions may.1 first.1)

  -- a text stays writable
  pub written-writable : AllMayStand tree.functions → IsWritable tree → IsWritable after
  written-writable may is =
      let rules = is.allowed in record {
        version = is.version;
        globals = is.globals;
        functions = all-writable tree.functions may is.functions;
        allowed = record {
          start = function_by writing rules.start;
          others = map (function_by writing) rules.others;
          first = ap (map (function_by writing)) rules.first;
          name = rules.name;
          no_params = rules.no_params;
          no_result = rules.no_result;
          names = ap all_differ known-same ∙ rules.names;
          functions = all-functions tree.functions may rules.functions;
          lo = rules.lo;
          hi = rules.hi;
          globals = rules.globals;
          apart = rules.apart;
          off_stack = rules.off_stack;
        };
      }
