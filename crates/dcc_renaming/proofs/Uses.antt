-- An allowed function uses no names but those that are declared: new names of these are new names of all.
use Rattle.std.proofs.Common.{◌≡◌, Bool, true, false, List, [], ◌∷◌, ◌++◌, map, Option, Some, None, refl, sym, ap, ap₂, ◌∙◌}
use Rattle.std.specs.Prelude.{◌&&◌, not, if◌then◌else◌, is_some, option_map, option_and_then}
use Rattle.std.specs.List.{list_all}
use Rattle.std.proofs.lemmas.Bool.{and_parts}
use Rattle.std.proofs.lemmas.List.Folds.{list_all-append}
use Rattle.dcc_c.specs.declared.syntax.CType.{CType}
use Rattle.dcc_c.specs.declared.syntax.CUn.TheVariants.{Minus, Complement, Not, Deref, AddressOf}
use Rattle.dcc_c.specs.declared.syntax.CBin.{CBin}
use Rattle.dcc_c.specs.Types.{promoted_type}
use Rattle.dcc_c.specs.Tree.{Word, Expr, Number, Name, Unary, Binary, Conditional, Cast, Stmt, Assign, Call, If, While, DoWhile, Forever, Switch, Break, Continue, Goto, Label, Empty, Return, Lines, no_lines, line, Arms, no_arms, arm, Function, Tree}
use Rattle.dcc_c.specs.Parts.{stmts_in, inner_stmts, arm_stmts}
use Rattle.dcc_c.specs.Typing.{Declared, declared_as, type_of_name, type_of_address, type_of_variable, unary_type, both_types, both_arms_type, tested_type, type_of, place_type}
use Rattle.dcc_c.specs.Dos.{Signature}
use Rattle.dcc_c.specs.Rules.{declared_in, converts, fits, is_number, is_word_base, is_switch_value, fit_all, result_fits, call_fits, signature_in, differ, cases_of, at_most_one, allows_stmt}
use Rattle.dcc_renaming.specs.Renamed.{renamed_expr, renamed_stmt, renamed_lines, renamed_arms}

-- Types.

then-some : {A B : Type 0} (next : A → Option B) (o : Option A) → is_some (option_and_then next o) ≡ true → is_some o ≡ true
then-some next None is = is
then-some next (Some x) is = refl

mapped-some : {A B : Type 0} (g : A → B) (o : Option A) → is_some (option_map g o) ≡ true → is_some o ≡ true
mapped-some g None is = is
mapped-some g (Some x) is = refl

both-some : (operator : CBin) (a b : Option CType) → is_some (both_types operator a b) ≡ true → (is_some a ≡ true) × (is_some b ≡ true)
both-some operator None None is = absurd cc
both-some operator None (Some b) is = absurd cc
both-some operator (Some a) None is = absurd cc
both-some operator (Some a) (Some b) is = (refl, refl)

arms-some : (a b : Option CType) → is_some (both_arms_type a b) ≡ true → (is_some a ≡ true) × (is_some b ≡ true)
arms-some None None is = absurd cc
arms-some None (Some b) is = absurd cc
arms-some (Some a) None is = absurd cc
arms-some (Some a) (Some b) is = (refl, refl)

tested-some : (a type : Option CType) → is_some (tested_type a type) ≡ true → (is_some a ≡ true) × (is_some type ≡ true)
tested-some None type is = absurd cc
tested-some (Some a) type is = by_test a.pointer is where
  by_test : (pointer : Bool) → is_some (if pointer then None else type) ≡ true → (is_some (Some a) ≡ true) × (is_some type ≡ true)
  by_test true none = absurd cc
  by_test false some = (refl, some)

-- a type that passes a test
some-that : (o : Option CType) (p : CType → Bool) → elim o [ Some t ↦ p t | None ↦ false ] ≡ true → is_some o ≡ true
some-that (Some t) p is = refl
some-that None p is = absurd cc

the-type : (o : Option CType) (p : CType → Bool) → elim o [ Some t ↦ p t | None ↦ false ] ≡ true → (t : CType) × (p t ≡ true)
the-type (Some t) p is = (t, is)
the-type None p is = absurd cc

module _ (f g : Word → Word) (names : List Declared) (same : (w : Word) → is_some (declared_as names w) ≡ true → f w ≡ g w) where
  pub expr-same : (e : Expr) → is_some (type_of names e) ≡ true → renamed_expr f e ≡ renamed_expr g e
  expr-same (Number n base) is = refl
  expr-same (Name word) is = ap Name (same word (then-some type_of_name (declared_as names word) is))
  expr-same (Unary AddressOf (Name word)) is = ap (λ w. Unary AddressOf (Name w)) (same word (then-some type_of_address (declared_as names word) is))
  expr-same (Unary AddressOf _) is = absurd cc
  expr-same (Unary Minus a) is = ap (Unary Minus) (expr-same a (then-some (unary_type Minus) (type_of names a) is))
  expr-same (Unary Complement a) is = ap (Unary Complement) (expr-same a (then-some (unary_type Complement) (type_of names a) is))
  expr-same (Unary Not a) is = ap (Unary Not) (expr-same a (then-some (unary_type Not) (type_of names a) is))
  expr-same (Unary Deref a) is = ap (Unary Deref) (expr-same a (then-some (unary_type Deref) (type_of names a) is))
  expr-same (Binary operator a b) is =
      let parts = both-some operator (type_of names a) (type_of names b) is in
      ap₂ (Binary operator) (expr-same a parts.0) (expr-same b parts.1)
  expr-same (Conditional a b c) is =
      let parts = tested-some (type_of names a) (both_arms_type (type_of names b) (type_of names c)) is in
      let arms = arms-some (type_of names b) (type_of names c) parts.1 in
      ap (λ x. Conditional x (renamed_expr f b) (renamed_expr f c)) (expr-same a parts.0)
      ∙ ap₂ (Conditional (renamed_expr g a)) (expr-same b arms.0) (expr-same c arms.1)
  expr-same (Cast type a) is = ap (Cast type) (expr-same a (mapped-some (λ from. type) (type_of names a) is))

  pub place-same : (place : Expr) → is_some (place_type names place) ≡ true → renamed_expr f place ≡ renamed_expr g place
  place-same (Name word) is = ap Name (same word (then-some type_of_variable (declared_as names word) is))
  place-same (Unary Deref a) is = expr-same (Unary Deref a) is
  place-same _ is = absurd cc

  pub fits-same : (to : CType) (e : Expr) → fits names to e ≡ true → renamed_expr f e ≡ renamed_expr g e
  fits-same to e is = expr-same e (some-that (type_of names e) (λ from. converts from to) is)

  pub number-same : (e : Expr) → is_number names e ≡ true → renamed_expr f e ≡ renamed_expr g e
  number-same e is = expr-same e (some-that (type_of names e) (λ type. not type.pointer) is)

  pub switch-same : (e : Expr) → is_switch_value names e ≡ true → renamed_expr f e ≡ renamed_expr g e
  switch-same e is = expr-same e (some-that (type_of names e) (λ type. not type.pointer && is_word_base (promoted_type type.base)) is)

  pub arguments-same : (types : List CType) (es : List Expr) → fit_all names types es ≡ true → map (renamed_expr f) es ≡ map (renamed_expr g) es
  arguments-same [] [] is = refl
  arguments-same [] (e ∷ es) is = absurd cc
  arguments-same (type ∷ types) [] is = refl
  arguments-same (type ∷ types) (e ∷ es) is =
      let parts = and_parts (fits names type e) (fit_all names types es) is in
      ap₂ (λ x l. x ∷ l) (fits-same type e parts.0) (arguments-same types es parts.1)

  pub result-same : (place : Option Expr) (result : Option CType) → result_fits names place result ≡ true → option_map (renamed_expr f) place ≡ option_map (renamed_expr g) place
  result-same None result is = refl
  result-same (Some place) None is = absurd cc
  result-same (Some place) (Some from) is = ap Some (place-same place (some-that (place_type names place) (λ to. converts from to) is))

  -- The parts of a call are the same, and what is called is known.
  pub record IsCallSame (place : Option Expr) (arguments : List Expr) (known : Option Signature) : Type 0 where
    pub place_is : option_map (renamed_expr f) place ≡ option_map (renamed_expr g) place
    pub arguments_are : map (renamed_expr f) arguments ≡ map (renamed_expr g) arguments
    pub is_known : is_some known ≡ true

  pub call-same : (place : Option Expr) (arguments : List Expr) (known : Option Signature) → call_fits names place arguments known ≡ true → IsCallSame place arguments known
  call-same place arguments None is = absurd cc
  call-same place arguments (Some known) is =
      let parts = and_parts (result_fits names place known.result) (fit_all names known.params arguments) is in
      record { place_is = result-same place known.result parts.0; arguments_are = arguments-same known.params arguments parts.1; is_known = refl }

module _ (own own' outer outer' : Word → Word) (tree : Tree) (f : Function)
    (same : (w : Word) → is_some (declared_as (declared_in tree f) w) ≡ true → own w ≡ own' w)
    (calls : (w : Word) → is_some (signature_in tree w) ≡ true → outer w ≡ outer' w) where
  two-parts : (xs ys : List Stmt) → list_all (allows_stmt tree f) (xs ++ ys) ≡ true → (list_all (allows_stmt tree f) xs ≡ true) × (list_all (allows_stmt tree f) ys ≡ true)
  two-parts xs ys all = and_parts (list_all (allows_stmt tree f) xs) (list_all (allows_stmt tree f) ys) (sym (list_all-append (allows_stmt tree f) xs ys) ∙ all)

  return-same : (e : Expr) → allows_stmt tree f (Return (Some e)) ≡ true → renamed_expr own e ≡ renamed_expr own' e
  return-same e is =
      let t = the-type f.result (λ to. fits (declared_in tree f) to e) is in fits-same own own' (declared_in tree f) same t.0 e t.1

  assign-same : (place e : Expr) → allows_stmt tree f (Assign place e) ≡ true → Assign (renamed_expr own place) (renamed_expr own e) ≡ Assign (renamed_expr own' place) (renamed_expr own' e)
  assign-same place e is =
      let some = some-that (place_type (declared_in tree f) place) (λ to. fits (declared_in tree f) to e) is in
      let t = the-type (place_type (declared_in tree f) place) (λ to. fits (declared_in tree f) to e) is in
      ap₂ Assign (place-same own own' (declared_in tree f) same place some) (fits-same own own' (declared_in tree f) same t.0 e t.1)

  mutual
    stmt-same : (stmt : Stmt) → allows_stmt tree f stmt ≡ true → list_all (allows_stmt tree f) (inner_stmts stmt) ≡ true → renamed_stmt own outer stmt ≡ renamed_stmt own' outer' stmt
    stmt-same (Assign place e) is inner = assign-same place e is
    stmt-same (Call place function arguments depth) is inner =
        let c = call-same own own' (declared_in tree f) same place arguments (signature_in tree function) is in
        ap₂ (λ p w. Call p w (map (renamed_expr own) arguments) depth) c.place_is (calls function c.is_known)
        ∙ ap (λ l. Call (option_map (renamed_expr own') place) (outer' function) l depth) c.arguments_are
    stmt-same (If e body otherwise) is inner =
        let parts = two-parts (stmts_in body) (stmts_in otherwise) inner in
        ap (λ x. If x (renamed_lines own outer body) (renamed_lines own outer otherwise)) (number-same own own' (declared_in tree f) same e is)
        ∙ ap₂ (If (renamed_expr own' e)) (lines-same body parts.0) (lines-same otherwise parts.1)
    stmt-same (While e body) is inner = ap₂ While (number-same own own' (declared_in tree f) same e is) (lines-same body inner)
    stmt-same (DoWhile body e) is inner = ap₂ DoWhile (lines-same body inner) (number-same own own' (declared_in tree f) same e is)
    stmt-same (Forever body) is inner = ap Forever (lines-same body inner)
    stmt-same (Switch e arms last) is inner =
        let parts = two-parts (arm_stmts arms) (arm_stmts last) inner in
        let value = (and_parts (is_switch_value (declared_in tree f) e) (differ (cases_of arms) && at_most_one last) is).0 in
        ap (λ x. Switch x (renamed_arms own outer arms) (renamed_arms own outer last)) (switch-same own own' (declared_in tree f) same e value)
        ∙ ap₂ (Switch (renamed_expr own' e)) (arms-same arms parts.0) (arms-same last parts.1)
    stmt-same Break is inner = refl
    stmt-same Continue is inner = refl
    stmt-same (Goto word) is inner = refl
    stmt-same (Label word) is inner = refl
    stmt-same Empty is inner = refl
    stmt-same (Return None) is inner = refl
    stmt-same (Return (Some e)) is inner = ap (λ x. Return (Some x)) (return-same e is)

    pub lines-same : (lines : Lines) → list_all (allows_stmt tree f) (stmts_in lines) ≡ true → renamed_lines own outer lines ≡ renamed_lines own' outer' lines
    lines-same no_lines all = refl
    lines-same (line stmt at lines) all =
        let first = and_parts (allows_stmt tree f stmt) (list_all (allows_stmt tree f) (inner_stmts stmt ++ stmts_in lines)) all in
        let parts = two-parts (inner_stmts stmt) (stmts_in lines) first.1 in
        ap₂ (λ s l. line s at l) (stmt-same stmt first.0 parts.0) (lines-same lines parts.1)

    arms-same : (arms : Arms) → list_all (allows_stmt tree f) (arm_stmts arms) ≡ true → renamed_arms own outer arms ≡ renamed_arms own' outer' arms
    arms-same no_arms all = refl
    arms-same (arm cases body arms) all =
        let parts = two-parts (stmts_in body) (arm_stmts arms) all in
        ap₂ (arm cases) (lines-same body parts.0) (arms-same arms parts.1)
