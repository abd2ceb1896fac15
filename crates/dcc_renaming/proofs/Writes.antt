-- A tree with new names that are names can be written where the tree can.
use Rattle.std.proofs.Common.{◌≡◌, Bool, true, false, List, [], ◌∷◌, map, Option, Some, None, refl, ap, ap₂, ◌∙◌}
use Rattle.std.specs.Prelude.{◌&&◌, ◌||◌, not, option_map}
use Rattle.std.specs.List.{list_all}
use Rattle.std.proofs.lemmas.Bool.{and_parts, and_from}
use Rattle.dcc_c.specs.declared.syntax.CUn.{CUn}
use Rattle.dcc_c.specs.declared.syntax.CUn.TheVariants.{Minus, Complement, Not, Deref, AddressOf}
use Rattle.dcc_c.specs.Grammar.{is_name, Around, outermost, in_block, in_loop, in_switch, has_arm}
use Rattle.dcc_c.specs.Tree.{Word, Expr, Number, Name, Unary, Binary, Conditional, Cast, Stmt, Assign, Call, If, While, DoWhile, Forever, Switch, Break, Continue, Goto, Label, Empty, Return, Lines, no_lines, line, Arms, no_arms, arm, Global, Function}
use Rattle.dcc_c.proofs.Writable.{may_take, is_writable_expr, is_place, is_writable_place, is_place_if, is_value_if, is_label, is_writable_stmt, are_writable_lines, are_writable_arms, is_writable_default, is_writable_global, is_writable_param, is_writable_local, is_writable_function}
use Rattle.dcc_renaming.specs.Renamed.{renamed_expr, renamed_stmt, renamed_lines, renamed_arms, renamed_variable, renamed_global, with_names}

both : {a b c d : Bool} → (a ≡ true → c ≡ true) → (b ≡ true → d ≡ true) → (a && b) ≡ true → (c && d) ≡ true
both {a} {b} {c} {d} first second is = let parts = and_parts a b is in and_from c d (first parts.0) (second parts.1)

alike : {a c : Bool} → c ≡ a → a ≡ true → c ≡ true
alike same is = same ∙ is

pub all-kept : {A B : Type 0} (p : A → Bool) (q : B → Bool) (h : A → B) → ((x : A) → p x ≡ true → q (h x) ≡ true) → (xs : List A) → list_all p xs ≡ true → list_all q (map h xs) ≡ true
all-kept p q h each [] all = refl
all-kept p q h each (x ∷ xs) all = both (each x) (all-kept p q h each xs) all

module _ (own : Word → Word) (own-name : (w : Word) → is_name w ≡ true → is_name (own w) ≡ true) where
  take-kept : (operator : CUn) (a : Expr) → may_take operator (renamed_expr own a) ≡ may_take operator a
  take-kept AddressOf (Name word) = refl
  take-kept AddressOf (Number n base) = refl
  take-kept AddressOf (Unary operator a) = refl
  take-kept AddressOf (Binary operator a b) = refl
  take-kept AddressOf (Conditional a b c) = refl
  take-kept AddressOf (Cast type a) = refl
  take-kept Minus a = refl
  take-kept Complement a = refl
  take-kept Not a = refl
  take-kept Deref a = refl

  expr-kept : (e : Expr) → is_writable_expr e ≡ true → is_writable_expr (renamed_expr own e) ≡ true
  expr-kept (Number n base) is = is
  expr-kept (Name word) is = own-name word is
  expr-kept (Unary operator a) is = both (alike (take-kept operator a)) (expr-kept a) is
  expr-kept (Binary operator a b) is = both (expr-kept a) (expr-kept b) is
  expr-kept (Conditional a b c) is = both (expr-kept a) (both (expr-kept b) (expr-kept c)) is
  expr-kept (Cast type a) is = expr-kept a is

  place-is : (e : Expr) → is_place (renamed_expr own e) ≡ is_place e
  place-is (Name word) = refl
  place-is (Unary Deref a) = refl
  place-is (Unary Minus a) = refl
  place-is (Unary Complement a) = refl
  place-is (Unary Not a) = refl
  place-is (Unary AddressOf a) = refl
  place-is (Number n base) = refl
  place-is (Binary operator a b) = refl
  place-is (Conditional a b c) = refl
  place-is (Cast type a) = refl

  place-kept : (e : Expr) → is_writable_place e ≡ true → is_writable_place (renamed_expr own e) ≡ true
  place-kept e is = both (alike (place-is e)) (expr-kept e) is

  place-if-kept : (e : Option Expr) → is_place_if e ≡ true → is_place_if (option_map (renamed_expr own) e) ≡ true
  place-if-kept None is = refl
  place-if-kept (Some e) is = place-kept e is

  value-if-kept : (e : Option Expr) → is_value_if e ≡ true → is_value_if (option_map (renamed_expr own) e) ≡ true
  value-if-kept None is = refl
  value-if-kept (Some e) is = expr-kept e is

  module _ (outer : Word → Word) (outer-name : (w : Word) → is_name w ≡ true → is_name (outer w) ≡ true) where
    label-is : (s : Stmt) → is_label (renamed_stmt own outer s) ≡ is_label s
    label-is (Assign place e) = refl
    label-is (Call place function arguments depth) = refl
    label-is (If e body otherwise) = refl
    label-is (While e body) = refl
    label-is (DoWhile body e) = refl
    label-is (Forever body) = refl
    label-is (Switch e arms last) = refl
    label-is Break = refl
    label-is Continue = refl
    label-is (Goto word) = refl
    label-is (Label word) = refl
    label-is Empty = refl
    label-is (Return e) = refl

    has-arm : (arms : Arms) → has_arm (renamed_arms own outer arms) ≡ has_arm arms
    has-arm no_arms = refl
    has-arm (arm cases body arms) = refl

    mutual
      stmt-kept : (around : Around) (s : Stmt) → is_writable_stmt around s ≡ true → is_writable_stmt around (renamed_stmt own outer s) ≡ true
      stmt-kept around (Assign place e) is = both (place-kept place) (expr-kept e) is
      stmt-kept around (Call place function arguments depth) is =
          both (place-if-kept place) (both (outer-name function) (both (all-kept is_writable_expr is_writable_expr (renamed_expr own) expr-kept arguments) (λ small. small))) is
      stmt-kept around (If e body otherwise) is = both (expr-kept e) (both (lines-kept (in_block around) false body) (lines-kept (in_block around) false otherwise)) is
      stmt-kept around (While e body) is = both (expr-kept e) (lines-kept (in_loop around) false body) is
      stmt-kept around (DoWhile body e) is = both (expr-kept e) (lines-kept (in_loop around) false body) is
      stmt-kept around (Forever body) is = lines-kept (in_loop around) false body is
      stmt-kept around (Switch e arms last) is =
          both (expr-kept e) (both (alike (ap₂ (λ a b. a || b) (has-arm arms) (has-arm last))) (both (arms-kept (in_switch around) arms) (default-kept (in_switch around) last))) is
      stmt-kept around Break is = is
      stmt-kept around Continue is = is
      stmt-kept around (Goto word) is = is
      stmt-kept around (Label word) is = is
      stmt-kept around Empty is = refl
      stmt-kept around (Return e) is = value-if-kept e is

      pub lines-kept : (around : Around) (labelled : Bool) (lines : Lines) → are_writable_lines around labelled lines ≡ true → are_writable_lines around labelled (renamed_lines own outer lines) ≡ true
      lines-kept around labelled no_lines is = is
      lines-kept around labelled (line s at lines) is =
          both (λ near. near) (both (stmt-kept around s)
          (λ more. ap (λ b. are_writable_lines around b (renamed_lines own outer lines)) (label-is s) ∙ lines-kept around (is_label s) lines more)) is

      arms-kept : (around : Around) (arms : Arms) → are_writable_arms around arms ≡ true → are_writable_arms around (renamed_arms own outer arms) ≡ true
      arms-kept around no_arms is = refl
      arms-kept around (arm cases body arms) is = both (λ near. near) (both (λ some. some) (both (lines-kept around false body) (arms-kept around arms))) is

      default-kept : (around : Around) (arms : Arms) → is_writable_default around arms ≡ true → is_writable_default around (renamed_arms own outer arms) ≡ true
      default-kept around no_arms is = refl
      default-kept around (arm cases body arms) is =
          both (λ near. near) (both (λ none. none) (both (lines-kept around false body) (alike (ap not (has-arm arms))))) is

    pub function-kept : (f : Function) → is_writable_function f ≡ true → is_writable_function (with_names own outer f) ≡ true
    function-kept f is =
        both (outer-name f.name) (both (all-kept is_writable_param is_writable_param (renamed_variable own) (λ v. both (own-name v.name) (λ len. len)) f.params)
        (both (all-kept is_writable_local is_writable_local (renamed_variable own) (λ v. both (own-name v.name) (λ kind. kind)) f.locals) (lines-kept outermost false f.body))) is

    pub global-kept : (g : Global) → is_writable_global g ≡ true → is_writable_global (renamed_global outer g) ≡ true
    global-kept g is = both (outer-name g.name) (λ others. others) is
