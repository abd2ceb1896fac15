-- Expressions by names have the types, the values and the addresses that they had, and can be written.
use Rattle.std.proofs.Common.{◌≡◌, ℕ, Bool, true, false, ◌&&◌, ◌||◌, List, ◌++◌, map, Option, Some, None, refl, sym, ap, ap₂, ◌∙◌, subst}
use Rattle.std.specs.Prelude.{if◌then◌else◌, option_and_then, option_map}
use Rattle.std.specs.List.{list_any}
use Rattle.std.proofs.lemmas.Bool.{and_parts, and_from}
use Rattle.std.proofs.lemmas.List.Folds.{list_any-append}
use Rattle.dcc_c.specs.declared.syntax.Base.{Base}
use Rattle.dcc_c.specs.declared.syntax.CType.{CType}
use Rattle.dcc_c.specs.declared.syntax.CUn.{CUn}
use Rattle.dcc_c.specs.declared.syntax.CUn.TheVariants.{Minus, Complement, Not, Deref, AddressOf}
use Rattle.dcc_c.specs.declared.syntax.CBin.{CBin}
use Rattle.dcc_c.specs.declared.syntax.CBin.TheVariants.{Add, Sub}
use Rattle.dcc_c.specs.Types.{plain, pointer_to}
use Rattle.dcc_c.specs.Tree.{Word, Expr, Number, Name, Unary, Binary, Conditional, Cast, Lines, Global}
use Rattle.dcc_c.specs.Parts.{parts_of}
use Rattle.dcc_c.specs.Placement.{is_address_of}
use Rattle.dcc_c.specs.Typing.{Declared, unary_type, both_types, both_arms_type, tested_type, type_of, place_type}
use Rattle.dcc_c.specs.Rules.{is_number}
use Rattle.dcc_c.specs.Value.{Value, converted, Outcome, Gives, Divides, Undefined, and_then, declared_by, Scope, pointed_value, unary_value, chosen, pointed_target, value_of, target_of}
use Rattle.dcc_c.proofs.TypingLaws.{IsOf, ArePlaced, typed-has_value}
use Rattle.dcc_c.proofs.Writable.{may_take, is_writable_expr, is_place, is_writable_place}
use Rattle.dcc_progress.proofs.Bodies.{any_left, any_right}
use Rattle.dcc_progress.proofs.Declarations.{AreAs, Takes, takes-later, typed-as}
use Rattle.dcc_progress.proofs.Values.{Holds}
use Rattle.dcc_named.specs.Named.{pointed_by, pointed, unary_named, named}
use Rattle.dcc_named.proofs.Operands.{some-same, operand-has, cast-has, both-have, three-have, number-typed, binary-same}
use Rattle.dcc_named.proofs.Accesses.{By, AreDeclared, AreNames, pointed-is, by-typed, by-placed, by-taken, by-written, by-place}
use Rattle.dcc_named.proofs.Values.{AreFound, IsNumber, by-same}

module _ (globals : List Global) (names : List Declared) where
  -- what a pointer points to is as it was, or by names
  pointed-either : (P : Expr → Type 0) (e : Expr) → P (Unary Deref e) → ((base : Base) (a h : Expr) → e ≡ Cast (pointer_to base) a → By globals names base a h → P h) → P (pointed globals names e)
  pointed-either P e was other = by (pointed_by globals names e) refl
    where
      by : (o : Option Expr) → pointed_by globals names e ≡ o → P (elim o [ Some h ↦ h | None ↦ Unary Deref e ])
      by None is = was
      by (Some h) is = let f = pointed-is globals names e h is in other f.0 f.1 h f.2 f.3

  -- Types.

  module _ (declared : AreDeclared globals names) where
    deref-type : (base : Base) (a : Expr) (t : CType) → type_of names (Unary Deref (Cast (pointer_to base) a)) ≡ Some t → Some (plain base) ≡ Some t
    deref-type base a t is = by (type_of names a) is
      where
        by : (o : Option CType) → option_and_then (unary_type Deref) (option_map (λ from. pointer_to base) o) ≡ Some t → Some (plain base) ≡ Some t
        by (Some u) is = is
        by None is = absurd cc

    pointed-typed : (e : Expr) (t : CType) → type_of names (Unary Deref e) ≡ Some t → type_of names (pointed globals names e) ≡ Some t
    pointed-typed e t is =
        pointed-either (λ h. type_of names h ≡ Some t) e is
        (λ base a h same by. by-typed globals names declared base by ∙ deref-type base a t (ap (λ x. type_of names (Unary Deref x)) (sym same) ∙ is))

    pointed-placed : (e : Expr) (t : CType) → type_of names (Unary Deref e) ≡ Some t → place_type names (pointed globals names e) ≡ Some t
    pointed-placed e t is =
        pointed-either (λ h. place_type names h ≡ Some t) e is
        (λ base a h same by. by-placed globals names declared base by ∙ deref-type base a t (ap (λ x. type_of names (Unary Deref x)) (sym same) ∙ is))

    abbrev Keeps : Expr → Expr → Type 0
    Keeps e h = (t : CType) → type_of names e ≡ Some t → type_of names h ≡ Some t

    unary-typed : (operator : CUn) (a h : Expr) → Keeps a h → Keeps (Unary operator a) (unary_named globals names operator a h)
    unary-typed AddressOf a h own t is = is
    unary-typed Minus a h own t is = let has = operand-has (unary_type Minus) (type_of names a) t is in ap (option_and_then (unary_type Minus)) (own has.0 has.1) ∙ has.2
    unary-typed Complement a h own t is = let has = operand-has (unary_type Complement) (type_of names a) t is in ap (option_and_then (unary_type Complement)) (own has.0 has.1) ∙ has.2
    unary-typed Not a h own t is = let has = operand-has (unary_type Not) (type_of names a) t is in ap (option_and_then (unary_type Not)) (own has.0 has.1) ∙ has.2
    unary-typed Deref a h own t is = let has = operand-has (unary_type Deref) (type_of names a) t is in pointed-typed h t (ap (option_and_then (unary_type Deref)) (own has.0 has.1) ∙ has.2)

    pub named-typed : (e : Expr) (t : CType) → type_of names e ≡ Some t → type_of names (named globals names e) ≡ Some t
    named-typed (Number n base) t is = is
    named-typed (Name word) t is = is
    named-typed (Unary operator a) t is = unary-typed operator a (named globals names a) (λ u has. named-typed a u has) t is
    named-typed (Binary operator a b) t is =
        let has = both-have operator (type_of names a) (type_of names b) t is in ap₂ (both_types operator) (named-typed a has.0 has.2) (named-typed b has.1 has.3) ∙ has.4
    named-typed (Conditional a b c) t is =
        let has = three-have (type_of names a) (type_of names b) (type_of names c) t is in
        ap₂ tested_type (named-typed a has.0 has.3) (ap₂ both_arms_type (named-typed b has.1 has.4) (named-typed c has.2 has.5)) ∙ has.6
    named-typed (Cast type a) t is = let has = cast-has type (type_of names a) t is in ap (option_map (λ from. type)) (named-typed a has.0 has.1) ∙ ap Some has.2

    pub named-placed : (e : Expr) (t : CType) → place_type names e ≡ Some t → place_type names (named globals names e) ≡ Some t
    named-placed (Name word) t is = is
    named-placed (Unary Deref a) t is =
        let has = operand-has (unary_type Deref) (type_of names a) t is in
        pointed-placed (named globals names a) t (ap (option_and_then (unary_type Deref)) (named-typed a has.0 has.1) ∙ has.2)
    named-placed e t is = absurd cc

  -- Addresses.

  module _ (word : Word) where
    abbrev Taken : Expr → Bool
    Taken e = list_any (is_address_of word) (parts_of e)

    pointed-taken : (e : Expr) → Taken (pointed globals names e) ≡ Taken (Unary Deref e)
    pointed-taken e = pointed-either (λ h. Taken h ≡ Taken (Unary Deref e)) e refl (λ base a h same by. by-taken globals names word base by ∙ ap (λ x. Taken (Unary Deref x)) (sym same))

    unary-taken : (operator : CUn) (a h : Expr) → Taken h ≡ Taken a → Taken (unary_named globals names operator a h) ≡ Taken (Unary operator a)
    unary-taken AddressOf a h same = refl
    unary-taken Minus a h same = same
    unary-taken Complement a h same = same
    unary-taken Not a h same = same
    unary-taken Deref a h same = pointed-taken h ∙ same

    two-taken : (a b g h : Expr) → Taken g ≡ Taken a → Taken h ≡ Taken b → list_any (is_address_of word) (parts_of g ++ parts_of h) ≡ list_any (is_address_of word) (parts_of a ++ parts_of b)
    two-taken a b g h first second =
        list_any-append (is_address_of word) (parts_of g) (parts_of h) ∙ ap₂ (λ x y. x || y) first second ∙ sym (list_any-append (is_address_of word) (parts_of a) (parts_of b))

    three-taken : (a b c g h k : Expr) → Taken g ≡ Taken a → Taken h ≡ Taken b → Taken k ≡ Taken c →
        list_any (is_address_of word) (parts_of g ++ (parts_of h ++ parts_of k)) ≡ list_any (is_address_of word) (parts_of a ++ (parts_of b ++ parts_of c))
    three-taken a b c g h k first second third =
        list_any-append (is_address_of word) (parts_of g) (parts_of h ++ parts_of k) ∙ ap₂ (λ x y. x || y) first (two-taken b c h k second third)
        ∙ sym (list_any-append (is_address_of word) (parts_of a) (parts_of b ++ parts_of c))

    pub named-taken : (e : Expr) → Taken (named globals names e) ≡ Taken e
    named-taken (Number n base) = refl
    named-taken (Name other) = refl
    named-taken (Unary operator a) = unary-taken operator a (named globals names a) (named-taken a)
    named-taken (Binary operator a b) = two-taken a b (named globals names a) (named globals names b) (named-taken a) (named-taken b)
    named-taken (Conditional a b c) = three-taken a b c (named globals names a) (named globals names b) (named globals names c) (named-taken a) (named-taken b) (named-taken c)
    named-taken (Cast type a) = named-taken a

  -- What can be written.

  module _ (are : AreNames globals names) where
    pointed-written : (e : Expr) → is_writable_expr e ≡ true → is_writable_expr (pointed globals names e) ≡ true
    pointed-written e is =
        pointed-either (λ h. is_writable_expr h ≡ true) e is (λ base a h same by. by-written globals names are base by (ap is_writable_expr (sym same) ∙ is))

    unary-written : (operator : CUn) (a h : Expr) → is_writable_expr (Unary operator a) ≡ true → (is_writable_expr a ≡ true → is_writable_expr h ≡ true) → is_writable_expr (unary_named globals names operator a h) ≡ true
    unary-written AddressOf a h is own = is
    unary-written Minus a h is own = own is
    unary-written Complement a h is own = own is
    unary-written Not a h is own = own is
    unary-written Deref a h is own = pointed-written h (own is)

    pub named-written : (e : Expr) → is_writable_expr e ≡ true → is_writable_expr (named globals names e) ≡ true
    named-written (Number n base) is = is
    named-written (Name word) is = is
    named-written (Unary operator a) is = unary-written operator a (named globals names a) is (λ own. named-written a own)
    named-written (Binary operator a b) is =
        let parts = and_parts (is_writable_expr a) (is_writable_expr b) is in
        and_from (is_writable_expr (named globals names a)) (is_writable_expr (named globals names b)) (named-written a parts.0) (named-written b parts.1)
    named-written (Conditional a b c) is =
        let one = and_parts (is_writable_expr a) (is_writable_expr b && is_writable_expr c) is in
        let two = and_parts (is_writable_expr b) (is_writable_expr c) one.1 in
        and_from (is_writable_expr (named globals names a)) (is_writable_expr (named globals names b) && is_writable_expr (named globals names c)) (named-written a one.0)
        (and_from (is_writable_expr (named globals names b)) (is_writable_expr (named globals names c)) (named-written b two.0) (named-written c two.1))
    named-written (Cast type a) is = named-written a is

    named-place : (e : Expr) → is_place e ≡ true → is_place (named globals names e) ≡ true
    named-place (Name word) is = refl
    named-place (Unary Deref a) is = pointed-either (λ h. is_place h ≡ true) (named globals names a) refl (λ base b h same by. by-place globals names base by)
    named-place e is = absurd cc

    pub place-written : (e : Expr) → is_writable_place e ≡ true → is_writable_place (named globals names e) ≡ true
    place-written e is =
        let parts = and_parts (is_place e) (is_writable_expr e) is in
        and_from (is_place (named globals names e)) (is_writable_expr (named globals names e)) (named-place e parts.0) (named-written e parts.1)

  -- Values, in a call of a function with this body.

  module _ (body : Lines) (scope : Scope) (are_as : AreAs body names (map declared_by scope.variables)) (placed : ArePlaced scope.variables) (declared : AreDeclared globals names) (found : AreFound globals names scope) where
    abbrev own_names : List Declared
    own_names = map declared_by scope.variables

    abbrev TakesFor : Expr → Type 0
    TakesFor e = Takes body (parts_of e)

    own-typed : (e : Expr) (t : CType) → TakesFor e → type_of names e ≡ Some t → type_of own_names e ≡ Some t
    own-typed e t takes is = typed-as body names own_names are_as e t takes is

    pub has-value : (e : Expr) (t : CType) → TakesFor e → type_of names e ≡ Some t → IsOf t (value_of scope e)
    has-value e t takes is = typed-has_value scope placed e t (own-typed e t takes is)

    pub named-takes : (e : Expr) → TakesFor e → TakesFor (named globals names e)
    named-takes e takes word any = takes word (sym (named-taken word e) ∙ any)

    left-takes : (xs ys : List Expr) → Takes body (xs ++ ys) → Takes body xs
    left-takes xs ys takes word any = takes word (any_left (is_address_of word) xs ys any)

    right-takes : (xs ys : List Expr) → Takes body (xs ++ ys) → Takes body ys
    right-takes xs ys takes word any = takes word (any_right (is_address_of word) xs ys any)

    is-number : (index : Expr) → is_number names index ≡ true → TakesFor index → IsNumber globals names scope index
    is-number index number takes =
        let typed = number-typed names index number in by typed.0 (value_of scope index) (has-value index (plain typed.0) takes typed.1)
      where
        by : (b : Base) (o : Outcome Value) → IsOf (plain b) o → Holds (λ v. v.type.pointer ≡ false) o
        by b (Gives v) is = ap (λ (t : CType). t.pointer) is
        by b Divides is = tt
        by b Undefined is = absurd is

    abbrev IsSame : Expr → Expr → Type 0
    IsSame h e = (value_of scope h ≡ value_of scope e) × (target_of scope h ≡ target_of scope e)

    -- the operand of a pointer that is cast from a sum
    index-takes : (operator : CBin) (base : Base) (e index other : Expr) → TakesFor e → e ≡ Cast (pointer_to base) (Binary operator index other) → TakesFor index
    index-takes operator base e index other takes same =
        let own = subst TakesFor same takes in
        left-takes (parts_of index) (parts_of other)
        (takes-later body (Binary operator index other) (parts_of index ++ parts_of other) (takes-later body (Cast (pointer_to base) (Binary operator index other)) (parts_of (Binary operator index other)) own))

    pointed-same : (e : Expr) → TakesFor e → IsSame (pointed globals names e) (Unary Deref e)
    pointed-same e takes =
        pointed-either (λ h. IsSame h (Unary Deref e)) e (refl, refl)
        (λ base a h same by.
        subst (λ x. IsSame h (Unary Deref x)) (sym same)
        (by-same globals names scope found base by
        (λ index n type number is. is-number index number (index-takes Add base e index (Number n type) takes (same ∙ ap (Cast (pointer_to base)) is)))
        (λ index n type number is. is-number index number (index-takes Sub base e index (Number n type) takes (same ∙ ap (Cast (pointer_to base)) is)))))

    arms-same : (a b c g h k : Expr) (u v : CType) → value_of scope g ≡ value_of scope a → value_of scope h ≡ value_of scope b → value_of scope k ≡ value_of scope c →
        type_of own_names b ≡ Some u → type_of own_names h ≡ Some u → type_of own_names c ≡ Some v → type_of own_names k ≡ Some v → value_of scope (Conditional g h k) ≡ value_of scope (Conditional a b c)
    arms-same a b c g h k u v first second third b_is h_is c_is k_is =
        let types : both_arms_type (type_of own_names h) (type_of own_names k) ≡ both_arms_type (type_of own_names b) (type_of own_names c) = ap₂ both_arms_type (h_is ∙ sym b_is) (k_is ∙ sym c_is) in
        ap (λ t. and_then (chosen t (value_of scope h) (value_of scope k)) (value_of scope g)) types
        ∙ ap₂ (λ x y. and_then (chosen (both_arms_type (type_of own_names b) (type_of own_names c)) x y) (value_of scope g)) second third
        ∙ ap (and_then (chosen (both_arms_type (type_of own_names b) (type_of own_names c)) (value_of scope b) (value_of scope c))) first

    abbrev KeepsValue : Expr → Type 0
    KeepsValue e = (t : CType) → TakesFor e → type_of names e ≡ Some t → value_of scope (named globals names e) ≡ value_of scope e

    unary-value : (operator : CUn) (a : Expr) → KeepsValue a → KeepsValue (Unary operator a)
    unary-value AddressOf a own t takes is = refl
    unary-value Minus a own t takes is = let has = operand-has (unary_type Minus) (type_of names a) t is in ap (and_then (unary_value Minus)) (own has.0 (takes-later body (Unary Minus a) (parts_of a) takes) has.1)
    unary-value Complement a own t takes is = let has = operand-has (unary_type Complement) (type_of names a) t is in ap (and_then (unary_value Complement)) (own has.0 (takes-later body (Unary Complement a) (parts_of a) takes) has.1)
    unary-value Not a own t takes is = let has = operand-has (unary_type Not) (type_of names a) t is in ap (and_then (unary_value Not)) (own has.0 (takes-later body (Unary Not a) (parts_of a) takes) has.1)
    unary-value Deref a own t takes is =
        let has = operand-has (unary_type Deref) (type_of names a) t is in
        let inner = takes-later body (Unary Deref a) (parts_of a) takes in
        (pointed-same (named globals names a) (named-takes a inner)).0 ∙ ap (and_then (pointed_value scope.memory)) (own has.0 inner has.1)

    arms-value : (a b c : Expr) → KeepsValue a → KeepsValue b → KeepsValue c → KeepsValue (Conditional a b c)
    arms-value a b c first second third t takes is =
        let has = three-have (type_of names a) (type_of names b) (type_of names c) t is in
        let inner = takes-later body (Conditional a b c) (parts_of a ++ (parts_of b ++ parts_of c)) takes in
        let arms = right-takes (parts_of a) (parts_of b ++ parts_of c) inner in
        let b_takes = left-takes (parts_of b) (parts_of c) arms in
        let c_takes = right-takes (parts_of b) (parts_of c) arms in
        arms-same a b c (named globals names a) (named globals names b) (named globals names c) has.1 has.2
        (first has.0 (left-takes (parts_of a) (parts_of b ++ parts_of c) inner) has.3) (second has.1 b_takes has.4) (third has.2 c_takes has.5)
        (own-typed b has.1 b_takes has.4) (own-typed (named globals names b) has.1 (named-takes b b_takes) (named-typed declared b has.1 has.4))
        (own-typed c has.2 c_takes has.5) (own-typed (named globals names c) has.2 (named-takes c c_takes) (named-typed declared c has.2 has.5))

    pub named-value : (e : Expr) → KeepsValue e
    named-value (Number n base) t takes is = refl
    named-value (Name word) t takes is = refl
    named-value (Unary operator a) t takes is = unary-value operator a (λ u h k. named-value a u h k) t takes is
    named-value (Binary operator a b) t takes is =
        let has = both-have operator (type_of names a) (type_of names b) t is in
        let inner = takes-later body (Binary operator a b) (parts_of a ++ parts_of b) takes in
        binary-same scope operator a b (named globals names a) (named globals names b) (named-value a has.0 (left-takes (parts_of a) (parts_of b) inner) has.2) (named-value b has.1 (right-takes (parts_of a) (parts_of b) inner) has.3)
    named-value (Conditional a b c) t takes is = arms-value a b c (λ u h k. named-value a u h k) (λ u h k. named-value b u h k) (λ u h k. named-value c u h k) t takes is
    named-value (Cast type a) t takes is =
        let has = cast-has type (type_of names a) t is in ap (and_then (λ v. Gives (converted type v))) (named-value a has.0 (takes-later body (Cast type a) (parts_of a) takes) has.1)

    -- a place is the same target
    pub named-target : (e : Expr) (t : CType) → TakesFor e → place_type names e ≡ Some t → target_of scope (named globals names e) ≡ target_of scope e
    named-target (Name word) t takes is = refl
    named-target (Unary Deref a) t takes is =
        let has = operand-has (unary_type Deref) (type_of names a) t is in
        let inner = takes-later body (Unary Deref a) (parts_of a) takes in
        (pointed-same (named globals names a) (named-takes a inner)).1 ∙ ap (and_then pointed_target) (named-value a has.0 inner has.1)
    named-target e t takes is = absurd cc
