-- The forms of accesses by names, and their types.
use Rattle.std.proofs.Common.{◌≡◌, ℕ, ◌-◌, ◌≤◌, Bool, true, false, ◌&&◌, ◌||◌, not, List, Option, Some, None, refl, sym, ap, ap₂, ◌∙◌, subst}
use Rattle.std.specs.Prelude.{if◌then◌else◌, option_and_then, option_map, is_some, ◌==◌, ◌%◌, nat_le}
use Rattle.std.specs.List.{list_any}
use Rattle.std.proofs.lemmas.Bool.{and_parts, eqb-true, and_from}
use Rattle.std.proofs.lemmas.List.Folds.{list_any-append}
use Rattle.std.proofs.lemmas.Bool.Decides.{nat_tests}
use Rattle.std.proofs.Common.{◌<◌, arith, [], ◌∷◌}
use Rattle.dcc_c.specs.declared.syntax.Base.{Base}
use Rattle.dcc_c.specs.declared.syntax.Base.TheVariants.{Schar, Uchar, Int, Uint, Long, Ulong}
use Rattle.dcc_c.specs.declared.syntax.CType.{CType}
use Rattle.dcc_c.specs.declared.syntax.CUn.TheVariants.{Deref}
use Rattle.dcc_c.specs.declared.syntax.CBin.{CBin}
use Rattle.dcc_c.specs.declared.syntax.CBin.TheVariants.{Add, Sub}
use Rattle.dcc_c.specs.Types.{same_base, same_type, plain, pointer_to, size_of}
use Rattle.dcc_c.specs.Grammar.{is_name}
use Rattle.dcc_c.specs.Tree.{Word, Expr, Number, Name, Unary, Binary, Conditional, Cast, Global}
use Rattle.dcc_c.specs.Parts.{parts_of}
use Rattle.dcc_c.specs.Placement.{is_address_of}
use Rattle.dcc_c.specs.Typing.{Declared, declared_as, type_of_name, type_of_variable, unary_type, both_types, type_of, place_type}
use Rattle.dcc_c.specs.Rules.{is_number, declared_global}
use Rattle.dcc_c.proofs.TypeLaws.{same_type-decides}
use Rattle.dcc_c.proofs.Writable.{is_writable_expr, is_place}
use Rattle.dcc_named.specs.Named.{begins_at, begins_before, is_scalar, is_bytes, offset_of, counted, number_at, behind, byte_address, reaches, direct_in, indexed_in, direct, indexed, moved_by, moved, accessed, pointed_by}
use Rattle.dcc_named.proofs.Operands.{some-same, number-typed, pointer-is}
use Rattle.dcc_named.proofs.Found.{before-begins}

-- Kinds of global variables.

pub scalar-is : (base : Base) (g : Global) → is_scalar base g ≡ true → (is_some g.len ≡ false) × (g.type ≡ plain base)
scalar-is base g is =
    let parts = and_parts (not (is_some g.len)) (same_type g.type (plain base)) is in
    (not-some (is_some g.len) parts.0, (same_type-decides g.type (plain base)).0 parts.1)
  where
    not-some : (b : Bool) → not b ≡ true → b ≡ false
    not-some false is = refl
    not-some true is = absurd cc

pub bytes-are : (g : Global) → is_bytes g ≡ true → (is_some g.len ≡ true) × (g.type ≡ plain Uchar)
bytes-are g is =
    let parts = and_parts (is_some g.len) (same_type g.type (plain Uchar)) is in
    (parts.0, (same_type-decides g.type (plain Uchar)).0 parts.1)

module _ (globals : List Global) (names : List Declared) where
  -- What an access to a number of a type at an address is by names: a scalar, bytes of an array, or bytes behind those
  -- of an array.
  pub data By (base : Base) : Expr → Expr → Type 0 where
    by_scalar : {n : ℕ} {type : Base} {g : Global} (below : ℕ) → begins_at globals below ≡ Some g → g.at ≡ offset_of n type → is_scalar base g ≡ true → By base (Number n type) (Name g.name)
    by_bytes : {n : ℕ} {type : Base} {g : Global} (below : ℕ) → begins_at globals below ≡ Some g → below ≤ offset_of n type → is_bytes g ≡ true →
        By base (Number n type) (number_at base (byte_address base g.name (offset_of n type - g.at)))
    by_sum : {n : ℕ} {type : Base} {g : Global} {index : Expr} → begins_at globals (offset_of n type) ≡ Some g → is_bytes g ≡ true → is_number names index ≡ true →
        By base (Binary Add index (Number n type)) (number_at base (behind g.name index))
    by_difference : {n : ℕ} {type : Base} {g : Global} {index : Expr} → begins_at globals ((65536 - offset_of n type) % 65536) ≡ Some g → is_bytes g ≡ true → is_number names index ≡ true →
        By base (Binary Sub index (Number n type)) (number_at base (behind g.name index))

  direct-is : (base : Base) (n : ℕ) (type : Base) (h : Expr) → direct globals names base (offset_of n type) ≡ Some h → By base (Number n type) h
  direct-is base n type h is = by (begins_before globals (offset_of n type)) refl is
    where
      here : ℕ
      here = offset_of n type

      chosen : (g : Global) (below : ℕ) → below ≤ here → begins_at globals below ≡ Some g → (p q : Bool) → (g.at == here && is_scalar base g) ≡ p → (is_bytes g && reaches here (size_of (plain base)) g) ≡ q →
          (if p then Some (Name g.name) else if q then Some (number_at base (byte_address base g.name (here - g.at))) else None) ≡ Some h → By base (Number n type) h
      chosen g below before there true q scalar bytes is =
          let parts = and_parts (g.at == here) (is_scalar base g) scalar in
          subst (By base (Number n type)) (some-same is) (by_scalar below there (eqb-true g.at here parts.0) parts.1)
      chosen g below before there false true scalar bytes is =
          subst (By base (Number n type)) (some-same is) (by_bytes below there before (and_parts (is_bytes g) (reaches here (size_of (plain base)) g) bytes).0)
      chosen g below before there false false scalar bytes is = absurd cc

      by : (o : Option Global) → begins_before globals here ≡ o → option_and_then (direct_in base here) o ≡ Some h → By base (Number n type) h
      by (Some g) found is =
          let b = before-begins globals here g found in
          chosen g b.0 b.1 b.2 (g.at == here && is_scalar base g) (is_bytes g && reaches here (size_of (plain base)) g) refl refl is
      by None found is = absurd cc

  indexed-is : (base : Base) (index : Expr) (at : ℕ) (h : Expr) → indexed globals names base index at ≡ Some h →
      (g : Global) × (begins_at globals at ≡ Some g) × (is_bytes g ≡ true) × (is_number names index ≡ true) × (number_at base (behind g.name index) ≡ h)
  indexed-is base index at h is = tested (nat_le 2 at && is_number names index) refl is
    where
      Found : Type 0
      Found = (g : Global) × (begins_at globals at ≡ Some g) × (is_bytes g ≡ true) × (is_number names index ≡ true) × (number_at base (behind g.name index) ≡ h)

      array : (g : Global) → begins_at globals at ≡ Some g → is_number names index ≡ true → (b : Bool) → is_bytes g ≡ b → (if b then Some (number_at base (behind g.name index)) else None) ≡ Some h → Found
      array g there number true bytes is = (g, there, bytes, number, some-same is)
      array g there number false bytes is = absurd cc

      by : (o : Option Global) → begins_at globals at ≡ o → is_number names index ≡ true → option_and_then (indexed_in base index) o ≡ Some h → Found
      by (Some g) there number is = array g there number (is_bytes g) refl is
      by None there number is = absurd cc

      tested : (b : Bool) → (nat_le 2 at && is_number names index) ≡ b → (if b then option_and_then (indexed_in base index) (begins_at globals at) else None) ≡ Some h → Found
      tested true own is = by (begins_at globals at) refl (and_parts (nat_le 2 at) (is_number names index) own).1 is
      tested false own is = absurd cc

  number-is : (base : Base) (operator : CBin) (index : Expr) (n : ℕ) (type : Base) (h : Expr) → moved_by globals names base operator index (offset_of n type) ≡ Some h → By base (Binary operator index (Number n type)) h
  number-is base Add index n type h is =
      let f = indexed-is base index (offset_of n type) h is in subst (By base (Binary Add index (Number n type))) f.4 (by_sum f.1 f.2 f.3)
  number-is base Sub index n type h is =
      let f = indexed-is base index ((65536 - offset_of n type) % 65536) h is in subst (By base (Binary Sub index (Number n type))) f.4 (by_difference f.1 f.2 f.3)
  number-is base operator index n type h is = absurd cc

  moved-is : (base : Base) (operator : CBin) (index other h : Expr) → moved globals names base operator index other ≡ Some h → By base (Binary operator index other) h
  moved-is base operator index (Number n type) h is = number-is base operator index n type h is
  moved-is base operator index other h is = absurd cc

  accessed-is : (base : Base) (a h : Expr) → accessed globals names base a ≡ Some h → By base a h
  accessed-is base (Number n type) h is = direct-is base n type h is
  accessed-is base (Binary operator index other) h is = moved-is base operator index other h is
  accessed-is base a h is = absurd cc

  -- what a pointer points to
  pub pointed-is : (e h : Expr) → pointed_by globals names e ≡ Some h → (base : Base) × (a : Expr) × (e ≡ Cast (pointer_to base) a) × By base a h
  pointed-is (Cast type a) h is = by type.pointer refl is
    where
      by : (p : Bool) → type.pointer ≡ p → (if p then accessed globals names type.base a else None) ≡ Some h → (base : Base) × (b : Expr) × (Cast type a ≡ Cast (pointer_to base) b) × By base b h
      by true pointer is = (type.base, a, ap (λ t. Cast t a) (pointer-is type pointer), accessed-is type.base a h is)
      by false pointer is = absurd cc
  pointed-is e h is = absurd cc

  -- Types.

  -- each global variable is declared by its name
  abbrev pub AreDeclared : Type 0
  AreDeclared = (at : ℕ) (g : Global) → begins_at globals at ≡ Some g → declared_as names g.name ≡ Some (declared_global g)

  array-type : (array : Bool) (type : CType) → array ≡ true → type ≡ plain Uchar → (if not array then Some type else if type.pointer then None else Some (pointer_to type.base)) ≡ Some (pointer_to Uchar)
  array-type array type is same =
      subst (λ t. (if not array then Some t else if t.pointer then None else Some (pointer_to t.base)) ≡ Some (pointer_to Uchar)) (sym same) (ap (λ b. if not b then Some (plain Uchar) else Some (pointer_to Uchar)) is)

  pub bytes-typed : AreDeclared → (at : ℕ) (g : Global) → begins_at globals at ≡ Some g → is_bytes g ≡ true → type_of names (Name g.name) ≡ Some (pointer_to Uchar)
  bytes-typed declared at g there bytes =
      let are = bytes-are g bytes in ap (option_and_then type_of_name) (declared at g there) ∙ array-type (is_some g.len) g.type are.0 are.1

  behind-typed : (name : Word) (index : Expr) (b : Base) → type_of names (Name name) ≡ Some (pointer_to Uchar) → type_of names index ≡ Some (plain b) → type_of names (behind name index) ≡ Some (pointer_to Uchar)
  behind-typed name index b first second = ap₂ (both_types Add) first second

  number-at-typed : (base : Base) (address : Expr) → type_of names address ≡ Some (pointer_to Uchar) → type_of names (number_at base address) ≡ Some (plain base)
  number-at-typed Uchar address has = ap (option_and_then (unary_type Deref)) has
  number-at-typed Schar address has = ap (λ o. option_and_then (unary_type Deref) (option_map (λ from. pointer_to Schar) o)) has
  number-at-typed Int address has = ap (λ o. option_and_then (unary_type Deref) (option_map (λ from. pointer_to Int) o)) has
  number-at-typed Uint address has = ap (λ o. option_and_then (unary_type Deref) (option_map (λ from. pointer_to Uint) o)) has
  number-at-typed Long address has = ap (λ o. option_and_then (unary_type Deref) (option_map (λ from. pointer_to Long) o)) has
  number-at-typed Ulong address has = ap (λ o. option_and_then (unary_type Deref) (option_map (λ from. pointer_to Ulong) o)) has

  byte-typed : (base : Base) (name : Word) (count : ℕ) → type_of names (Name name) ≡ Some (pointer_to Uchar) → type_of names (byte_address base name count) ≡ Some (pointer_to Uchar)
  byte-typed base name count has = by (count == 0 && not (same_base base Uchar))
    where
      by : (b : Bool) → type_of names (if b then Name name else behind name (counted count)) ≡ Some (pointer_to Uchar)
      by true = has
      by false = behind-typed name (counted count) _ has refl

  pub by-typed : AreDeclared → (base : Base) {a h : Expr} → By base a h → type_of names h ≡ Some (plain base)
  by-typed declared base (by_scalar {g = g} below there at scalar) =
      let is = scalar-is base g scalar in
      ap (option_and_then type_of_name) (declared below g there) ∙ ap (λ b. if not b then Some g.type else if g.type.pointer then None else Some (pointer_to g.type.base)) is.0 ∙ ap Some is.1
  by-typed declared base (by_bytes {g = g} below there before bytes) = number-at-typed base _ (byte-typed base g.name _ (bytes-typed declared _ g there bytes))
  by-typed declared base (by_sum {g = g} {index = index} there bytes number) =
      let has = number-typed names index number in number-at-typed base _ (behind-typed g.name index has.0 (bytes-typed declared _ g there bytes) has.1)
  by-typed declared base (by_difference {g = g} {index = index} there bytes number) =
      let has = number-typed names index number in number-at-typed base _ (behind-typed g.name index has.0 (bytes-typed declared _ g there bytes) has.1)

  pub by-placed : AreDeclared → (base : Base) {a h : Expr} → By base a h → place_type names h ≡ Some (plain base)
  by-placed declared base (by_scalar {g = g} below there at scalar) =
      let is = scalar-is base g scalar in
      ap (option_and_then type_of_variable) (declared below g there) ∙ ap (λ b. if b then None else Some g.type) is.0 ∙ ap Some is.1
  by-placed declared base (by_bytes {n} {type} below there before bytes) = by-typed declared base (by_bytes {n = n} {type = type} below there before bytes)
  by-placed declared base (by_sum {n} {type} there bytes number) = by-typed declared base (by_sum {n = n} {type = type} there bytes number)
  by-placed declared base (by_difference {n} {type} there bytes number) = by-typed declared base (by_difference {n = n} {type = type} there bytes number)

  -- Addresses.

  module _ (word : Word) where
    abbrev Taken : Expr → Bool
    Taken e = list_any (is_address_of word) (parts_of e)

    number-at-taken : (base : Base) (address : Expr) → Taken (number_at base address) ≡ Taken address
    number-at-taken Uchar address = refl
    number-at-taken Schar address = refl
    number-at-taken Int address = refl
    number-at-taken Uint address = refl
    number-at-taken Long address = refl
    number-at-taken Ulong address = refl

    byte-taken : (base : Base) (name : Word) (count : ℕ) → Taken (byte_address base name count) ≡ false
    byte-taken base name count = by (count == 0 && not (same_base base Uchar))
      where
        by : (b : Bool) → Taken (if b then Name name else behind name (counted count)) ≡ false
        by true = refl
        by false = refl

    or-false : (b : Bool) → b ≡ (b || false)
    or-false true = refl
    or-false false = refl

    pub by-taken : (base : Base) {a h : Expr} → By base a h → Taken h ≡ Taken (Unary Deref (Cast (pointer_to base) a))
    by-taken base (by_scalar below there at scalar) = refl
    by-taken base (by_bytes {g = g} below there before bytes) = number-at-taken base _ ∙ byte-taken base g.name _
    by-taken base (by_sum {n} {type = type} {index = index} there bytes number) =
        number-at-taken base _ ∙ or-false (Taken index) ∙ sym (list_any-append (is_address_of word) (parts_of index) (Number n type ∷ []))
    by-taken base (by_difference {n} {type = type} {index = index} there bytes number) =
        number-at-taken base _ ∙ or-false (Taken index) ∙ sym (list_any-append (is_address_of word) (parts_of index) (Number n type ∷ []))

  -- What can be written.

  -- the names of the global variables are names of the grammar
  abbrev pub AreNames : Type 0
  AreNames = (at : ℕ) (g : Global) → begins_at globals at ≡ Some g → is_name g.name ≡ true

  number-at-written : (base : Base) (address : Expr) → is_writable_expr (number_at base address) ≡ is_writable_expr address
  number-at-written Uchar address = refl
  number-at-written Schar address = refl
  number-at-written Int address = refl
  number-at-written Uint address = refl
  number-at-written Long address = refl
  number-at-written Ulong address = refl

  counted-written : (count : ℕ) → count < 65536 → is_writable_expr (counted count) ≡ true
  counted-written count few = by (nat_le count 32767) refl
    where
      by : (b : Bool) → nat_le count 32767 ≡ b → is_writable_expr (Number count (if b then Int else Uint)) ≡ true
      by true small = grind (arith, nat_tests)
      by false large = grind (arith, nat_tests)

  byte-written : (base : Base) (name : Word) (count : ℕ) → count < 65536 → is_name name ≡ true → is_writable_expr (byte_address base name count) ≡ true
  byte-written base name count few named = by (count == 0 && not (same_base base Uchar))
    where
      by : (b : Bool) → is_writable_expr (if b then Name name else behind name (counted count)) ≡ true
      by true = named
      by false = and_from (is_name name) (is_writable_expr (counted count)) named (counted-written count few)

  pub by-written : AreNames → (base : Base) {a h : Expr} → By base a h → is_writable_expr a ≡ true → is_writable_expr h ≡ true
  by-written named base (by_scalar {g = g} below there at scalar) is = named _ g there
  by-written named base (by_bytes {n} {type = type} {g = g} below there before bytes) is =
      number-at-written base _ ∙ byte-written base g.name (offset_of n type - g.at) (few n type g.at) (named _ g there)
    where
      few : (n : ℕ) (type : Base) (at : ℕ) → offset_of n type - at < 65536
      few n type at = omega arith
  by-written named base (by_sum {n} {type = type} {g = g} {index = index} there bytes number) is =
      number-at-written base _ ∙ and_from (is_name g.name) (is_writable_expr index) (named _ g there) (and_parts (is_writable_expr index) (is_writable_expr (Number n type)) is).0
  by-written named base (by_difference {n} {type = type} {g = g} {index = index} there bytes number) is =
      number-at-written base _ ∙ and_from (is_name g.name) (is_writable_expr index) (named _ g there) (and_parts (is_writable_expr index) (is_writable_expr (Number n type)) is).0

  pub by-place : (base : Base) {a h : Expr} → By base a h → is_place h ≡ true
  by-place base (by_scalar below there at scalar) = refl
  by-place base (by_bytes below there before bytes) = refl
  by-place base (by_sum there bytes number) = refl
  by-place base (by_difference there bytes number) = refl
