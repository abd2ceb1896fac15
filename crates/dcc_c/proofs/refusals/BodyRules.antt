-- The statements of a function that have been read to their ends are allowed where nothing offends in them.
use Rattle.std.proofs.Common.{◌≡◌, ℕ, suc, Bool, true, false, ◌&&◌, ◌==◌, List, [], ◌∷◌, ◌++◌, length, map, Option, Some, None, refl, sym, ap, ◌∙◌}
use Rattle.std.proofs.lemmas.List.{map-append}
use Rattle.std.proofs.lemmas.Bool.{eqb-true}
use Rattle.std.specs.Prelude.{not, is_some, option_map, if◌then◌else◌}
use Rattle.std.specs.List.{list_all}
use Rattle.dcc_c.specs.Tree.{Word, Expr, Return, Arms, no_arms, arm, Function, Tree}
use Rattle.dcc_c.specs.Types.{promoted_type}
use Rattle.dcc_c.specs.Typing.{Declared, declared_as, type_of, place_type}
use Rattle.dcc_c.specs.Dos.{Signature}
use Rattle.dcc_c.specs.Grammar.{is_among}
use Rattle.dcc_c.specs.Rules.{fits, is_number, call_fits, declared_in, is_word_base, is_switch_value, signature_in, cases_of, differ, at_most_one, allows_stmt, goto_of}
use Rattle.dcc_c.specs.Kinds.{of_name, of_type, offence, only_if}
use Rattle.dcc_c.specs.Partial.{NumberAt, PartialExpr, place_of, PartialCall, PartialStmt, AssignOf, CallOf, IfOf, WhileOf, DoWhileOf, ForeverOf, SwitchOf, BreakOf, ContinueOf, GotoOf, LabelOf, EmptyOf, ReturnOf, PartialArms, no_cases, cases}
use Rattle.dcc_c.specs.Known.{Known, known_as}
use Rattle.dcc_c.specs.Offences.{BodyContext, is_switch_type, switch_offences, expr_offences, own_offences, case_offences, case_numbers, default_offences, inner_offences, arms_inner, test_offences, signature_offences, call_offences, place_if, arguments_inner, callee_offences}
use Rattle.dcc_c.specs.Stripped.{plain_expr, plain_numbers, plain_stmt, plain_lines, case_arms, default_arms}
use Rattle.dcc_c.specs.Complete.{is_complete_expr, is_complete_place, is_complete_if, is_complete_place_if, is_complete_stmt, is_complete_lines, are_complete_arms}
use Rattle.dcc_c.proofs.refusals.ExprRules.{none-both, none-only, true-false, both-empty, and-both, expr-typed, expr-clean}
use Rattle.dcc_c.proofs.refusals.StmtRules.{number-of-test, test-of-number, assignment-fits, not-true}
use Rattle.dcc_c.proofs.refusals.CallRules.{fitting-assignment, HasSignature, call-fits, fitting-call, allowed-known, return-fits, fitting-return}
use Rattle.dcc_c.proofs.refusals.WalkRules.{OwnClean}
use Rattle.dcc_c.proofs.refusals.ListRules.{cases-differ, differ-cases}

-- What a scene knows is what a function of a tree knows.
pub record IsScene (tree : Tree) (f : Function) (scene : BodyContext) : Type 0 where
  pub names : scene.names ≡ declared_in tree f
  pub result : scene.result ≡ f.result
  pub has_result : scene.has_result ≡ is_some scene.result
  -- a function that is known, and no variable's name, has its signature in the tree
  pub known : (word : Word) (k : Known) → declared_as scene.names word ≡ None → known_as scene.functions word ≡ Some k →
      (signature : Signature) × (k.signature ≡ Some signature) × (signature_in tree word ≡ Some signature)

-- From the tree to the scene: the tree's functions are known, and are no variables' names.
abbrev pub Knows : Tree → BodyContext → Type 0
Knows tree scene = (word : Word) (signature : Signature) → signature_in tree word ≡ Some signature → HasSignature scene word signature

not-empty : {A : Type 0} {x : A} {xs : List A} → x ∷ xs ≡ [] → ⊥
not-empty e = absurd cc

-- Switches.

switch-allowed : (scene : BodyContext) (e : PartialExpr) → is_complete_expr e ≡ true → switch_offences scene e true ≡ [] → is_switch_value scene.names (plain_expr e) ≡ true
switch-allowed scene e whole none =
    let both = none-both (expr_offences scene e) _ none in
    let t = expr-typed scene e whole both.0 in
    ap (λ o. elim o [ Some type ↦ not type.pointer && is_word_base (promoted_type type.base) | None ↦ false ]) t.is
    ∙ not-true (is_switch_type t.type) (none-only (true && not (is_switch_type t.type)) (offence of_type (place_of e))
    (ap (λ o. elim o [ Some type ↦ only_if (true && not (is_switch_type type)) (offence of_type (place_of e)) | None ↦ [] ]) (sym t.told) ∙ both.1))

allowed-switch : (scene : BodyContext) (e : PartialExpr) → is_complete_expr e ≡ true → is_switch_value scene.names (plain_expr e) ≡ true → switch_offences scene e true ≡ []
allowed-switch scene e whole fit = elim (type_of scene.names (plain_expr e)) as (λ o. type_of scene.names (plain_expr e) ≡ o →
    (elim o [ Some type ↦ not type.pointer && is_word_base (promoted_type type.base) | None ↦ false ]) ≡ true → switch_offences scene e true ≡ []) [
      | Some type ↦ λ is p. let c = expr-clean scene e type whole is in
          both-empty c.none (ap (λ o. elim o [ Some type ↦ only_if (true && not (is_switch_type type)) (offence of_type (place_of e)) | None ↦ [] ]) c.told
          ∙ ap (λ b. only_if (true && not b) (offence of_type (place_of e))) p)
      | None ↦ λ _ bad. absurd cc
    ] refl fit

-- the numbers of the cases
empty-of : {A : Type 0} (xs : List A) → length xs == 0 ≡ true → xs ≡ []
empty-of [] e = refl
empty-of (x ∷ xs) e = absurd (no-successor (eqb-true (suc (length xs)) 0 e)) where
  no-successor : {n : ℕ} → suc n ≡ 0 → ⊥
  no-successor e = absurd cc

pub cases-are : (arms : PartialArms) → are_complete_arms arms ≡ true → cases_of (case_arms arms) ≡ map (λ n. n.value) (case_numbers arms)
cases-are no_cases whole = refl
cases-are (cases numbers None body arms) whole =
    let parts = and-both (is_complete_lines body) (are_complete_arms arms) whole in
    ap (λ ns. plain_numbers numbers ++ ns) (cases-are arms parts.1) ∙ sym (map-append (λ (n : NumberAt). n.value) numbers (case_numbers arms))
cases-are (cases numbers (Some at) body arms) whole =
    let parts = and-both (length numbers == 0) (is_complete_lines body && are_complete_arms arms) whole in
    let others = and-both (is_complete_lines body) (are_complete_arms arms) parts.1 in
    cases-are arms others.1 ∙ ap (λ ns. map (λ (n : NumberAt). n.value) (ns ++ case_numbers arms)) (sym (empty-of numbers parts.0))

has_arm_in : Arms → Bool
has_arm_in no_arms = false
has_arm_in (arm numbers body arms) = true

no-default : (arms : PartialArms) → default_offences true arms ≡ [] → default_arms arms ≡ no_arms
no-default no_cases none = refl
no-default (cases numbers None body arms) none = no-default arms none
no-default (cases numbers (Some at) body arms) none = absurd cc

one-default : (arms : PartialArms) → default_offences false arms ≡ [] → at_most_one (default_arms arms) ≡ true
one-default no_cases none = refl
one-default (cases numbers None body arms) none = one-default arms none
one-default (cases numbers (Some at) body arms) none = rw (no-default arms none) refl

default-none : (arms : PartialArms) → default_arms arms ≡ no_arms → default_offences true arms ≡ []
default-none no_cases e = refl
default-none (cases numbers None body arms) e = default-none arms e
default-none (cases numbers (Some at) body arms) e = absurd cc

default-one : (arms : PartialArms) → at_most_one (default_arms arms) ≡ true → default_offences false arms ≡ []
default-one no_cases e = refl
default-one (cases numbers None body arms) e = default-one arms e
default-one (cases numbers (Some at) body arms) e = default-none arms (alone (default_arms arms) e) where
  alone : (rest : Arms) → at_most_one (arm [] (plain_lines body) rest) ≡ true → rest ≡ no_arms
  alone no_arms e = refl
  alone (arm numbers body rest) e = absurd cc

-- A statement's own parts.

bad-variable : (scene : BodyContext) (at : ℕ) (place : Option PartialExpr) (call : PartialCall) (d : Declared) → declared_as scene.names call.function.word ≡ Some d →
    callee_offences scene at place call ≡ [] → ⊥
bad-variable scene at place call d e none = not-empty (ap (λ (o : Option Declared). if is_some o then offence of_type call.function.at ∷ [] else (elim (known_as scene.functions call.function.word) [ Some k ↦ signature_offences scene at place call k.signature | None ↦ offence of_name call.function.at ∷ [] ])) (sym e) ∙ none)

bad-unknown : (scene : BodyContext) (at : ℕ) (place : Option PartialExpr) (call : PartialCall) → declared_as scene.names call.function.word ≡ None →
    known_as scene.functions call.function.word ≡ None → callee_offences scene at place call ≡ [] → ⊥
bad-unknown scene at place call e found none = not-empty (ap (λ o. elim o [ Some k ↦ signature_offences scene at place call k.signature | None ↦ offence of_name call.function.at ∷ [] ]) (sym found)
    ∙ ap (λ (o : Option Declared). if is_some o then offence of_type call.function.at ∷ [] else (elim (known_as scene.functions call.function.word) [ Some k ↦ signature_offences scene at place call k.signature | None ↦ offence of_name call.function.at ∷ [] ])) (sym e) ∙ none)

abbrev allows_assignment : List Declared → Expr → Expr → Bool
allows_assignment names place e = elim (place_type names place) [ Some to ↦ fits names to e | None ↦ false ]

abbrev call_allowed : List Declared → Option PartialExpr → PartialCall → Option Signature → Bool
call_allowed names place call o = call_fits names (option_map plain_expr place) (map plain_expr call.arguments) o

module _ (tree : Tree) (f : Function) (scene : BodyContext) (is : IsScene tree f scene) where
  -- the names of the function, in place of the scene's
  in-names : (P : List Declared → Bool) → P scene.names ≡ true → P (declared_in tree f) ≡ true
  in-names P e = ap P (sym is.names) ∙ e

  of-names : (P : List Declared → Bool) → P (declared_in tree f) ≡ true → P scene.names ≡ true
  of-names P e = ap P is.names ∙ e

  call-known : (at : ℕ) (place : Option PartialExpr) (call : PartialCall) → call_offences scene at place call ≡ [] →
      (signature : Signature) × HasSignature scene call.function.word signature × (signature_in tree call.function.word ≡ Some signature)
  call-known at place call none =
      let first = none-both (place_if scene place) (arguments_inner scene call.arguments ++ callee_offences scene at place call) none in
      let own = (none-both (arguments_inner scene call.arguments) (callee_offences scene at place call) first.1).1 in
      let word = call.function.word in
      elim (declared_as scene.names word) as (λ o. declared_as scene.names word ≡ o →
      (signature : Signature) × HasSignature scene word signature × (signature_in tree word ≡ Some signature)) [
        | Some d ↦ λ e. absurd (bad-variable scene at place call d e own)
        | None ↦ λ e. elim (known_as scene.functions word) as (λ o. known_as scene.functions word ≡ o →
            (signature : Signature) × HasSignature scene word signature × (signature_in tree word ≡ Some signature)) [
              | Some k ↦ λ found. let s = is.known word k e found in
                  (s.0, record { no_variable = e; known = k; found = found; is = s.1 }, s.2)
              | None ↦ λ found. absurd (bad-unknown scene at place call e found own)
            ] refl
      ] refl

  tested : (at : ℕ) (e : PartialExpr) (done : Bool) → is_complete_expr e && done ≡ true → test_offences scene e done ≡ [] → is_number (declared_in tree f) (plain_expr e) ≡ true
  tested at e done whole none =
      let parts = and-both (is_complete_expr e) done whole in
      in-names (λ names. is_number names (plain_expr e)) (number-of-test scene e parts.0 (ap (λ d. test_offences scene e d) (sym parts.1) ∙ none))

  returned : (at : ℕ) (e : Option PartialExpr) →
      (elim e [ None ↦ not (is_some scene.result) | Some e ↦ (elim scene.result [ Some to ↦ fits scene.names to (plain_expr e) | None ↦ false ]) ]) ≡ true →
      allows_stmt tree f (Return (option_map plain_expr e)) ≡ true
  returned at None e = ap (λ o. not (is_some o)) (sym is.result) ∙ e
  returned at (Some a) e = in-names (λ names. elim f.result [ Some to ↦ fits names to (plain_expr a) | None ↦ false ])
      (ap (λ o. elim o [ Some to ↦ fits scene.names to (plain_expr a) | None ↦ false ]) (sym is.result) ∙ e)

  give : (at : ℕ) (e : Option PartialExpr) → allows_stmt tree f (Return (option_map plain_expr e)) ≡ true →
      (elim e [ None ↦ not (is_some scene.result) | Some e ↦ (elim scene.result [ Some to ↦ fits scene.names to (plain_expr e) | None ↦ false ]) ]) ≡ true
  give at None e = ap (λ o. not (is_some o)) is.result ∙ e
  give at (Some a) e = ap (λ o. elim o [ Some to ↦ fits scene.names to (plain_expr a) | None ↦ false ]) is.result
      ∙ of-names (λ names. elim f.result [ Some to ↦ fits names to (plain_expr a) | None ↦ false ]) e

  test-clean : (e : PartialExpr) (done : Bool) → is_complete_expr e && done ≡ true → is_number (declared_in tree f) (plain_expr e) ≡ true → test_offences scene e done ≡ []
  test-clean e done whole number =
      let parts = and-both (is_complete_expr e) done whole in
      ap (λ d. test_offences scene e d) parts.1 ∙ test-of-number scene e parts.0 (of-names (λ names. is_number names (plain_expr e)) number)

  -- the statement is allowed, where nothing offends in its own parts and in its cases
  pub stmt-allowed : (at blocks : ℕ) (stmt : PartialStmt) → is_complete_stmt stmt ≡ true → own_offences scene at stmt ≡ [] → inner_offences scene blocks stmt ≡ [] →
      allows_stmt tree f (plain_stmt stmt) ≡ true
  stmt-allowed at blocks (AssignOf place None done) whole none inner = absurd (true-false (sym (and-both (is_complete_place place) false whole).1))
  stmt-allowed at blocks (AssignOf place (Some e) done) whole none inner =
      let parts = and-both (is_complete_place place) (is_complete_expr e && done) whole in
      let value = and-both (is_complete_expr e) done parts.1 in
      in-names (λ names. allows_assignment names (plain_expr place) (plain_expr e))
      (assignment-fits scene place e parts.0 value.0 (ap (λ d. own_offences scene at (AssignOf place (Some e) d)) (sym value.1) ∙ none))
  stmt-allowed at blocks (CallOf place call) whole none inner =
      let parts = and-both (is_complete_place_if place) (list_all is_complete_expr call.arguments && call.closed) whole in
      let others = and-both (list_all is_complete_expr call.arguments) call.closed parts.1 in
      let s = call-known at place call none in
      ap (λ o. call_allowed (declared_in tree f) place call o) s.2
      ∙ in-names (λ names. call_allowed names place call (Some s.0)) (call-fits scene at place call s.0 parts.0 others.0 others.1 s.1 none)
  stmt-allowed at blocks (IfOf e done body otherwise) whole none inner =
      let parts = and-both (is_complete_expr e && done) (is_complete_lines body && is_complete_lines otherwise) whole in
      tested at e done parts.0 none
  stmt-allowed at blocks (WhileOf e done body) whole none inner = tested at e done (and-both (is_complete_expr e && done) (is_complete_lines body) whole).0 none
  stmt-allowed at blocks (DoWhileOf body e done) whole none inner = tested at e done (and-both (is_complete_expr e && done) (is_complete_lines body) whole).0 none
  stmt-allowed at blocks (ForeverOf body) whole none inner = refl
  stmt-allowed at blocks (SwitchOf e done arms) whole none inner =
      let parts = and-both (is_complete_expr e && done) (are_complete_arms arms) whole in
      let test = and-both (is_complete_expr e) done parts.0 in
      let numbers = none-both (case_offences [] (case_numbers arms)) (default_offences false arms ++ arms_inner scene blocks arms) inner in
      let defaults = none-both (default_offences false arms) (arms_inner scene blocks arms) numbers.1 in
      rw (in-names (λ names. is_switch_value names (plain_expr e)) (switch-allowed scene e test.0 (ap (λ d. switch_offences scene e d) (sym test.1) ∙ none)))
      (rw (ap differ (cases-are arms parts.1) ∙ cases-differ (case_numbers arms) numbers.0) (one-default arms defaults.0))
  stmt-allowed at blocks BreakOf whole none inner = refl
  stmt-allowed at blocks ContinueOf whole none inner = refl
  stmt-allowed at blocks (GotoOf name) whole none inner = refl
  stmt-allowed at blocks (LabelOf name) whole none inner = refl
  stmt-allowed at blocks EmptyOf whole none inner = refl
  stmt-allowed at blocks (ReturnOf e done) whole none inner =
      let parts = and-both (is_complete_if e) done whole in
      returned at e (return-fits scene at e parts.0 is.has_result (ap (λ d. own_offences scene at (ReturnOf e d)) (sym parts.1) ∙ none))

  -- Nothing offends in a statement that is allowed, and whose `goto` names a label.
  pub stmt-clean : Knows tree scene → (at : ℕ) (stmt : PartialStmt) → is_complete_stmt stmt ≡ true →
      allows_stmt tree f (plain_stmt stmt) && list_all (is_among scene.labels) (goto_of (plain_stmt stmt)) ≡ true → OwnClean scene at stmt
  stmt-clean knows at (AssignOf place None done) whole fit = absurd (true-false (sym (and-both (is_complete_place place) false whole).1))
  stmt-clean knows at (AssignOf place (Some e) done) whole fit =
      let parts = and-both (is_complete_place place) (is_complete_expr e && done) whole in
      let value = and-both (is_complete_expr e) done parts.1 in
      let own = and-both (allows_stmt tree f (plain_stmt (AssignOf place (Some e) done))) true fit in
      record {
        own = ap (λ d. own_offences scene at (AssignOf place (Some e) d)) value.1
            ∙ fitting-assignment scene place e parts.0 value.0 (of-names (λ names. allows_assignment names (plain_expr place) (plain_expr e)) own.0);
        heads = refl;
      }
  stmt-clean knows at (CallOf place call) whole fit =
      let parts = and-both (is_complete_place_if place) (list_all is_complete_expr call.arguments && call.closed) whole in
      let others = and-both (list_all is_complete_expr call.arguments) call.closed parts.1 in
      let own = and-both (allows_stmt tree f (plain_stmt (CallOf place call))) true fit in
      let s = allowed-known (declared_in tree f) (option_map plain_expr place) (map plain_expr call.arguments) (signature_in tree call.function.word) own.0 in
      record {
        own = fitting-call scene at place call s.0 parts.0 others.0 others.1 (knows call.function.word s.0 s.1)
            (of-names (λ names. call_allowed names place call (Some s.0)) (ap (λ o. call_allowed (declared_in tree f) place call o) (sym s.1) ∙ own.0));
        heads = refl;
      }
  stmt-clean knows at (IfOf e done body otherwise) whole fit = record {
    own = test-clean e done (and-both (is_complete_expr e && done) (is_complete_lines body && is_complete_lines otherwise) whole).0
        (and-both (is_number (declared_in tree f) (plain_expr e)) true fit).0;
    heads = refl;
  }
  stmt-clean knows at (WhileOf e done body) whole fit = record {
    own = test-clean e done (and-both (is_complete_expr e && done) (is_complete_lines body) whole).0 (and-both (is_number (declared_in tree f) (plain_expr e)) true fit).0;
    heads = refl;
  }
  stmt-clean knows at (DoWhileOf body e done) whole fit = record {
    own = test-clean e done (and-both (is_complete_expr e && done) (is_complete_lines body) whole).0 (and-both (is_number (declared_in tree f) (plain_expr e)) true fit).0;
    heads = refl;
  }
  stmt-clean knows at (ForeverOf body) whole fit = record { own = refl; heads = refl }
  stmt-clean knows at (SwitchOf e done arms) whole fit =
      let parts = and-both (is_complete_expr e && done) (are_complete_arms arms) whole in
      let test = and-both (is_complete_expr e) done parts.0 in
      let own = and-both (allows_stmt tree f (plain_stmt (SwitchOf e done arms))) true fit in
      let value = and-both (is_switch_value (declared_in tree f) (plain_expr e)) (differ (cases_of (case_arms arms)) && at_most_one (default_arms arms)) own.0 in
      let numbers = and-both (differ (cases_of (case_arms arms))) (at_most_one (default_arms arms)) value.1 in
      record {
        own = ap (λ d. switch_offences scene e d) test.1 ∙ allowed-switch scene e test.0 (of-names (λ names. is_switch_value names (plain_expr e)) value.0);
        heads = both-empty (differ-cases (case_numbers arms) (ap differ (sym (cases-are arms parts.1)) ∙ numbers.0)) (default-one arms numbers.1);
      }
  stmt-clean knows at BreakOf whole fit = record { own = refl; heads = refl }
  stmt-clean knows at ContinueOf whole fit = record { own = refl; heads = refl }
  stmt-clean knows at (GotoOf None) whole fit = absurd cc
  stmt-clean knows at (GotoOf (Some name)) whole fit = record {
    own = ap (λ b. only_if (not b) (offence of_name name.at)) (and-both (is_among scene.labels name.word) true fit).0;
    heads = refl;
  }
  stmt-clean knows at (LabelOf name) whole fit = record { own = refl; heads = refl }
  stmt-clean knows at EmptyOf whole fit = record { own = refl; heads = refl }
  stmt-clean knows at (ReturnOf e done) whole fit =
      let parts = and-both (is_complete_if e) done whole in
      let own = and-both (allows_stmt tree f (plain_stmt (ReturnOf e done))) true fit in
      record {
        own = ap (λ d. own_offences scene at (ReturnOf e d)) parts.1 ∙ fitting-return scene at e parts.0 is.has_result (give at e own.0);
        heads = refl;
      }
