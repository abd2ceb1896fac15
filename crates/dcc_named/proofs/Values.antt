-- Accesses by names have the values, and are the places, that they were.
use Rattle.std.proofs.Common.{◌≡◌, ℕ, ◌+◌, ◌-◌, ◌*◌, ◌%◌, ◌<◌, ◌≤◌, Bool, true, false, ◌&&◌, not, List, Option, Some, None, refl, sym, ap, ap₂, ◌∙◌, subst, arith}
use Rattle.std.specs.Prelude.{if◌then◌else◌, is_some, ◌==◌, nat_le}
use Rattle.std.proofs.lemmas.Bool.{and_parts, eqb-true}
use Rattle.dcc_c.specs.declared.syntax.Base.{Base}
use Rattle.dcc_c.specs.declared.syntax.Base.TheVariants.{Schar, Uchar, Int, Uint, Long, Ulong}
use Rattle.dcc_c.specs.declared.syntax.CType.{CType}
use Rattle.dcc_c.specs.declared.syntax.CUn.TheVariants.{Deref}
use Rattle.dcc_c.specs.declared.syntax.CBin.TheVariants.{Add, Sub}
use Rattle.dcc_c.specs.Types.{same_base, plain, pointer_to, common_type, wrapped_bits, extended_bits}
use Rattle.dcc_c.specs.Tree.{Word, Expr, Number, Name, Unary, Binary, Cast, Global}
use Rattle.dcc_c.specs.Typing.{Declared}
use Rattle.dcc_c.specs.Rules.{is_number}
use Rattle.dcc_c.specs.Value.{Value, value, number, converted, Outcome, Gives, Divides, Undefined, and_then, given, PlacedAt, Binding, variable_in, Scope, loaded, array_value, variable_value, pointed_value, both_values, value_of, Target, ToMemory, variable_target, pointed_target, target_of}
use Rattle.dcc_c.specs.Run.{global_binding}
use Rattle.dcc_progress.proofs.Values.{Holds}
use Rattle.dcc_named.specs.Named.{begins_at, is_bytes, offset_of, counted, number_at, behind, byte_address}
use Rattle.dcc_named.proofs.Operands.{plain-is}
use Rattle.dcc_named.proofs.Sums.{common-wide, sum-16, difference-16, offset-below, same-16, counted-bits, moved-by}
use Rattle.dcc_named.proofs.Accesses.{By, by_scalar, by_bytes, by_sum, by_difference, scalar-is, bytes-are}

-- Pointers to numbers of a type.

-- an address of a byte as one of a number of the type
abbrev pointed_from : Base → Outcome Value → Outcome Value
pointed_from base o = if same_base base Uchar then o else and_then (λ v. Gives (converted (pointer_to base) v)) o

abbrev pointer_in : Base → Expr → Expr
pointer_in base address = if same_base base Uchar then address else Cast (pointer_to base) address

pointer-in : (scope : Scope) (base : Base) (address : Expr) → value_of scope (pointer_in base address) ≡ pointed_from base (value_of scope address)
pointer-in scope Schar address = refl
pointer-in scope Uchar address = refl
pointer-in scope Int address = refl
pointer-in scope Uint address = refl
pointer-in scope Long address = refl
pointer-in scope Ulong address = refl

pointed-from : (base : Base) (at : ℕ) → at < 65536 → pointed_from base (Gives (value (pointer_to Uchar) at)) ≡ Gives (value (pointer_to base) at)
pointed-from Uchar at few = refl
pointed-from Schar at few = ap (λ n. Gives (value (pointer_to Schar) n)) (same-16 at few)
pointed-from Int at few = ap (λ n. Gives (value (pointer_to Int) n)) (same-16 at few)
pointed-from Uint at few = ap (λ n. Gives (value (pointer_to Uint) n)) (same-16 at few)
pointed-from Long at few = ap (λ n. Gives (value (pointer_to Long) n)) (same-16 at few)
pointed-from Ulong at few = ap (λ n. Gives (value (pointer_to Ulong) n)) (same-16 at few)

pointed-none : (base : Base) → pointed_from base Divides ≡ Divides
pointed-none Schar = refl
pointed-none Uchar = refl
pointed-none Int = refl
pointed-none Uint = refl
pointed-none Long = refl
pointed-none Ulong = refl

few-16 : (n : ℕ) → n % 65536 < 65536
few-16 n = omega arith

-- an array's address and a number make the address that their sum was, where the array begins at the other number
sums-same : (base type b : Base) (at n m : ℕ) → at ≡ offset_of n type →
    pointed_from base (both_values Add (value (pointer_to Uchar) at) (number b m))
    ≡ and_then (λ v. Gives (converted (pointer_to base) v)) (both_values Add (number b m) (number type (wrapped_bits type n)))
sums-same base type b at n m is =
    pointed-from base ((at + 1 * extended_bits b m) % 65536) (few-16 (at + 1 * extended_bits b m))
    ∙ ap (λ k. Gives (value (pointer_to base) ((k + 1 * extended_bits b m) % 65536))) is
    ∙ ap (λ k. Gives (value (pointer_to base) k)) (sym (sum-16 (common_type b type) (extended_bits b m) (extended_bits type (wrapped_bits type n)) (common-wide b type)))

differences-same : (base type b : Base) (at n m : ℕ) → at ≡ (65536 - offset_of n type) % 65536 →
    pointed_from base (both_values Add (value (pointer_to Uchar) at) (number b m))
    ≡ and_then (λ v. Gives (converted (pointer_to base) v)) (both_values Sub (number b m) (number type (wrapped_bits type n)))
differences-same base type b at n m is =
    pointed-from base ((at + 1 * extended_bits b m) % 65536) (few-16 (at + 1 * extended_bits b m))
    ∙ ap (λ k. Gives (value (pointer_to base) ((k + 1 * extended_bits b m) % 65536))) is
    ∙ ap (λ k. Gives (value (pointer_to base) k)) (sym (difference-16 (common_type b type) (extended_bits b m) (extended_bits type (wrapped_bits type n)) (common-wide b type)))

-- a value that is no pointer is a number
number-is : (v : Value) → v.type.pointer ≡ false → v ≡ number v.type.base v.bits
number-is v free = ap (λ t. value t v.bits) (plain-is v.type free)

module _ (globals : List Global) (names : List Declared) (scope : Scope) where
  -- each global variable is found by its name
  abbrev pub AreFound : Type 0
  AreFound = (at : ℕ) (g : Global) → begins_at globals at ≡ Some g → (g.at ≡ at) × (variable_in scope.variables g.name ≡ Some (global_binding g))

  -- a number has a value that is one
  abbrev pub IsNumber : Expr → Type 0
  IsNumber e = Holds (λ v. v.type.pointer ≡ false) (value_of scope e)

  module _ (found : AreFound) where
    pub array-gives : (g : Global) → variable_in scope.variables g.name ≡ Some (global_binding g) → is_bytes g ≡ true → value_of scope (Name g.name) ≡ Gives (value (pointer_to Uchar) g.at)
    array-gives g there bytes =
        let are = bytes-are g bytes in
        ap (λ o. and_then (variable_value scope.memory) (given o)) there
        ∙ ap (λ b. if b then array_value g.type (PlacedAt g.at) else Gives (loaded scope.memory g.type g.at)) are.0
        ∙ ap (λ t. array_value t (PlacedAt g.at)) are.1

    behind-gives : (g : Global) (index : Expr) → variable_in scope.variables g.name ≡ Some (global_binding g) → is_bytes g ≡ true →
        value_of scope (behind g.name index) ≡ and_then (both_values Add (value (pointer_to Uchar) g.at)) (value_of scope index)
    behind-gives g index there bytes = ap (and_then (λ v. and_then (both_values Add v) (value_of scope index))) (array-gives g there bytes)

    -- the address of the byte of an array
    byte-gives : (base : Base) (g : Global) (here : ℕ) → variable_in scope.variables g.name ≡ Some (global_binding g) → is_bytes g ≡ true → g.at ≤ here → here < 65536 →
        value_of scope (byte_address base g.name (here - g.at)) ≡ Gives (value (pointer_to Uchar) here)
    byte-gives base g here there bytes before few = by (here - g.at == 0 && not (same_base base Uchar)) refl
      where
        count : ℕ
        count = here - g.at

        gives : (b : Bool) → nat_le count 32767 ≡ b →
            and_then (both_values Add (value (pointer_to Uchar) g.at)) (value_of scope (Number count (if b then Int else Uint))) ≡ Gives (value (pointer_to Uchar) here)
        gives true small =
            ap (λ k. Gives (value (pointer_to Uchar) ((g.at + 1 * k) % 65536))) (counted-bits count (omega arith) true small) ∙ ap (λ k. Gives (value (pointer_to Uchar) k)) (moved-by g.at count here before few refl)
        gives false large =
            ap (λ k. Gives (value (pointer_to Uchar) ((g.at + 1 * k) % 65536))) (counted-bits count (omega arith) false large) ∙ ap (λ k. Gives (value (pointer_to Uchar) k)) (moved-by g.at count here before few refl)

        by : (b : Bool) → (here - g.at == 0 && not (same_base base Uchar)) ≡ b → value_of scope (if b then Name g.name else behind g.name (counted count)) ≡ Gives (value (pointer_to Uchar) here)
        by true begin =
            let none : count ≡ 0 = eqb-true count 0 (and_parts (count == 0) (not (same_base base Uchar)) begin).0 in
            array-gives g there bytes ∙ ap (λ k. Gives (value (pointer_to Uchar) k)) (omega (arith, none, before))
        by false begin = behind-gives g (counted count) there bytes ∙ gives (nat_le count 32767) refl

    sum-gives : (base type : Base) (g : Global) (index : Expr) (n : ℕ) → g.at ≡ offset_of n type → variable_in scope.variables g.name ≡ Some (global_binding g) → is_bytes g ≡ true → IsNumber index →
        value_of scope (pointer_in base (behind g.name index)) ≡ value_of scope (Cast (pointer_to base) (Binary Add index (Number n type)))
    sum-gives base type g index n at there bytes is =
        pointer-in scope base (behind g.name index) ∙ ap (pointed_from base) (behind-gives g index there bytes) ∙ by (value_of scope index) is
      where
        by : (o : Outcome Value) → Holds (λ v. v.type.pointer ≡ false) o →
            pointed_from base (and_then (both_values Add (value (pointer_to Uchar) g.at)) o)
            ≡ and_then (λ v. Gives (converted (pointer_to base) v)) (and_then (λ v. and_then (both_values Add v) (Gives (number type (wrapped_bits type n)))) o)
        by (Gives v) free =
            subst (λ w. pointed_from base (both_values Add (value (pointer_to Uchar) g.at) w) ≡ and_then (λ x. Gives (converted (pointer_to base) x)) (both_values Add w (number type (wrapped_bits type n)))) (sym (number-is v free))
            (sums-same base type v.type.base g.at n v.bits at)
        by Divides free = pointed-none base
        by Undefined free = absurd free

    difference-gives : (base type : Base) (g : Global) (index : Expr) (n : ℕ) → g.at ≡ (65536 - offset_of n type) % 65536 → variable_in scope.variables g.name ≡ Some (global_binding g) → is_bytes g ≡ true → IsNumber index →
        value_of scope (pointer_in base (behind g.name index)) ≡ value_of scope (Cast (pointer_to base) (Binary Sub index (Number n type)))
    difference-gives base type g index n at there bytes is =
        pointer-in scope base (behind g.name index) ∙ ap (pointed_from base) (behind-gives g index there bytes) ∙ by (value_of scope index) is
      where
        by : (o : Outcome Value) → Holds (λ v. v.type.pointer ≡ false) o →
            pointed_from base (and_then (both_values Add (value (pointer_to Uchar) g.at)) o)
            ≡ and_then (λ v. Gives (converted (pointer_to base) v)) (and_then (λ v. and_then (both_values Sub v) (Gives (number type (wrapped_bits type n)))) o)
        by (Gives v) free =
            subst (λ w. pointed_from base (both_values Add (value (pointer_to Uchar) g.at) w) ≡ and_then (λ x. Gives (converted (pointer_to base) x)) (both_values Sub w (number type (wrapped_bits type n)))) (sym (number-is v free))
            (differences-same base type v.type.base g.at n v.bits at)
        by Divides free = pointed-none base
        by Undefined free = absurd free

    -- What is accessed, as a value and as a place.
    abbrev IsSame : Expr → Expr → Type 0
    IsSame h e = (value_of scope h ≡ value_of scope e) × (target_of scope h ≡ target_of scope e)

    by-pointers : (p q : Expr) → value_of scope p ≡ value_of scope q → IsSame (Unary Deref p) (Unary Deref q)
    by-pointers p q same = (ap (and_then (pointed_value scope.memory)) same, ap (and_then pointed_target) same)

    scalar-same : (base : Base) (g : Global) (here : ℕ) → variable_in scope.variables g.name ≡ Some (global_binding g) → g.at ≡ here → is_some g.len ≡ false → g.type ≡ plain base →
        (value_of scope (Name g.name) ≡ Gives (loaded scope.memory (plain base) here)) × (target_of scope (Name g.name) ≡ Gives (ToMemory (plain base) here))
    scalar-same base g here there at single type = (
      ap (λ o. and_then (variable_value scope.memory) (given o)) there
          ∙ ap (λ b. if b then array_value g.type (PlacedAt g.at) else Gives (loaded scope.memory g.type g.at)) single
          ∙ ap₂ (λ t k. Gives (loaded scope.memory t k)) type at,
      ap (λ o. and_then (variable_target g.name) (given o)) there
          ∙ ap (λ b. if b then Undefined else Gives (ToMemory g.type g.at)) single
          ∙ ap₂ (λ t k. Gives (ToMemory t k)) type at,
    )

    pub by-same : (base : Base) {a h : Expr} → By globals names base a h → ((index : Expr) (n : ℕ) (type : Base) → is_number names index ≡ true → a ≡ Binary Add index (Number n type) → IsNumber index) →
        ((index : Expr) (n : ℕ) (type : Base) → is_number names index ≡ true → a ≡ Binary Sub index (Number n type) → IsNumber index) → IsSame h (Unary Deref (Cast (pointer_to base) a))
    by-same base (by_scalar {n} {type} {g} below there at scalar) add sub =
        let is = scalar-is base g scalar in scalar-same base g (offset_of n type) (found below g there).1 at is.0 is.1
    by-same base (by_bytes {n} {type} {g} below there before bytes) add sub =
        let own = found below g there in
        let here = offset_of n type in
        let not_later : g.at ≤ here = omega (arith, own.0, before) in
        by-pointers (pointer_in base (byte_address base g.name (here - g.at))) (Cast (pointer_to base) (Number n type))
        (pointer-in scope base (byte_address base g.name (here - g.at)) ∙ ap (pointed_from base) (byte-gives base g here own.1 bytes not_later (offset-below n type)) ∙ pointed-from base here (offset-below n type))
    by-same base (by_sum {n} {type} {g} {index} there bytes number) add sub =
        let own = found (offset_of n type) g there in
        by-pointers (pointer_in base (behind g.name index)) (Cast (pointer_to base) (Binary Add index (Number n type))) (sum-gives base type g index n own.0 own.1 bytes (add index n type number refl))
    by-same base (by_difference {n} {type} {g} {index} there bytes number) add sub =
        let own = found ((65536 - offset_of n type) % 65536) g there in
        by-pointers (pointer_in base (behind g.name index)) (Cast (pointer_to base) (Binary Sub index (Number n type))) (difference-gives base type g index n own.0 own.1 bytes (sub index n type number refl))
