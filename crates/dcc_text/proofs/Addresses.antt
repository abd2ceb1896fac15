-- Memory, and addresses in the frame.
use Rattle.std.proofs.Common.{◌≡◌, ℕ, zero, suc, ◌+◌, ◌*◌, ◌/◌, ◌%◌, ◌^◌, ◌<◌, inl, inr, Bool, true, false, ◌==◌, List, Some, refl, sym, ap, ap₂, ◌∙◌, subst, true≢false, arith, mod-eq_of_lt}
use Rattle.std.specs.Prelude.{if◌then◌else◌, slice_index, option_and_then}
use Rattle.std.proofs.lemmas.Bool.{cases_Bool, eqb-true}
use Rattle.dcc_ir.specs.Value.{bytes_at}
use Rattle.dcc_ir.specs.WellFormed.{is_stored_width}
use Rattle.dcc_ir.proofs.FitLaws.{bytes_below}
use Rattle.dcc_c.specs.declared.syntax.Base.{Base}
use Rattle.dcc_c.specs.declared.syntax.Base.TheVariants.{Uchar, Uint, Ulong}
use Rattle.dcc_c.specs.declared.syntax.CUn.TheVariants.{Deref, AddressOf}
use Rattle.dcc_c.specs.declared.syntax.CBin.TheVariants.{Add}
use Rattle.dcc_c.specs.Types.{plain, pointer_to, size_of}
use Rattle.dcc_c.specs.Tree.{Word, Expr, Number, Name, Unary, Binary, Cast}
use Rattle.dcc_c.specs.Memory.{load}
use Rattle.dcc_c.specs.Typing.{type_of_name, type_of_address, unary_type}
use Rattle.dcc_c.specs.Value.{number, Gives, and_then, given, variable_value, address_value, pointed_value, PlacedAt, variable_in, Scope}
use Rattle.dcc_text.specs.Spelling.{Spelling}
use Rattle.dcc_text.specs.Spelled.{Exact, unsigned_type, small, placed}
use Rattle.dcc_text.specs.Meaning.{IsPlaced}
use Rattle.dcc_text.proofs.Sizes.{Size, bit, byte, word, long, bits, holds}
use Rattle.dcc_text.proofs.Meanings.{IsNumber, binary-typed, binary-valued}
use Rattle.dcc_text.proofs.Ways.{Text}
use Rattle.dcc_text.proofs.Operands.{exact-text}
use Rattle.dcc_text.proofs.Constants.{constant-number}
use Rattle.dcc_text.proofs.Readings.{IsValue, cast-value, as-number, declared}

-- a load of the text and a load of the inner language read the same bytes
pub load-is : (count : ℕ) (memory : List ℕ) (at : ℕ) → load count memory at ≡ bytes_at memory count at
load-is zero memory at = refl
load-is (suc count) memory at = ap (λ n. slice_index memory (at % 65536) + 256 * n) (load-is count memory (at + 1))

module _ (scope : Scope) where
  -- what a pointer points to
  pointed-number : (base : Base) (at : ℕ) (e : Expr) → IsValue scope (pointer_to base) at e → IsNumber scope base (load (size_of (plain base)) scope.memory at) (Unary Deref e)
  pointed-number base at e x = record { typed = ap (option_and_then (unary_type Deref)) x.typed; valued = ap (and_then (pointed_value scope.memory)) x.valued }

  pub load-text : (size : Size) (at : ℕ) (memory : List ℕ) (e : Expr) → is_stored_width (bits size) ≡ true → scope.memory ≡ memory → ((address : ℕ) → slice_index memory address < 256)
      → IsValue scope (pointer_to (unsigned_type (bits size))) at e → Text scope Exact size (bytes_at memory (bits size / 8) at) (Unary Deref e)
  load-text size at memory e stored same small x = by size stored x
    where
      held : (size : Size) (base : Base) → holds size base ≡ true → size_of (plain base) ≡ bits size / 8 → 8 * (bits size / 8) ≡ bits size → IsValue scope (pointer_to base) at e
          → Text scope Exact size (bytes_at memory (bits size / 8) at) (Unary Deref e)
      held size base is bytes whole x =
          exact-text scope size base _ (Unary Deref e) is (subst (λ w. bytes_at memory (bits size / 8) at < 2 ^ w) whole (bytes_below memory small (bits size / 8) at))
          (subst (λ k. IsNumber scope base k (Unary Deref e)) (ap₂ (λ count m. load count m at) bytes same ∙ load-is (bits size / 8) memory at) (pointed-number base at e x))

      by : (size : Size) → is_stored_width (bits size) ≡ true → IsValue scope (pointer_to (unsigned_type (bits size))) at e → Text scope Exact size (bytes_at memory (bits size / 8) at) (Unary Deref e)
      by byte stored x = held byte Uchar refl refl refl x
      by word stored x = held word Uint refl refl refl x
      by long stored x = held long Ulong refl refl refl x
      by bit stored x = absurd (true≢false (sym stored))

  -- the address of a variable with a place
  module _ (name : Word) (base : Base) (at : ℕ) where
    array-value : variable_in scope.variables name ≡ Some (record { name = name; type = plain base; is_array = true; storage = PlacedAt at }) → IsValue scope (pointer_to base) at (Name name)
    array-value found = record {
      typed = ap (option_and_then type_of_name) (declared scope.variables name _ found);
      valued = ap (λ b. and_then (variable_value scope.memory) (given b)) found;
    }

    place-value : variable_in scope.variables name ≡ Some (record { name = name; type = plain base; is_array = false; storage = PlacedAt at }) → IsValue scope (pointer_to base) at (Unary AddressOf (Name name))
    place-value found = record {
      typed = ap (option_and_then type_of_address) (declared scope.variables name _ found);
      valued = ap (λ b. and_then address_value (given b)) found;
    }

    either-value : (is_array : Bool) → variable_in scope.variables name ≡ Some (record { name = name; type = plain base; is_array = is_array; storage = PlacedAt at })
        → IsValue scope (pointer_to base) at (if is_array then Name name else Unary AddressOf (Name name))
    either-value true found = array-value found
    either-value false found = place-value found

  below : (n : ℕ) → n % 65536 < 65536
  below n = omega arith

  sum-number : (a b : ℕ) (e g : Expr) → IsNumber scope Uint a e → IsNumber scope Uint b g → a < 65536 → b < 65536 → IsNumber scope Uint ((a + b) % 65536) (Binary Add e g)
  sum-number a b e g x y small few = record {
    typed = binary-typed scope Add Uint Uint a b e g x y;
    valued = binary-valued scope Add Uint Uint a b e g x y ∙ ap₂ (λ k l. Gives (number Uint ((k + l) % 65536))) (mod-eq_of_lt small) (mod-eq_of_lt few);
  }

  pub placed-text : (s : Spelling) (base distance : ℕ) → IsPlaced s base scope.variables distance → Text scope Exact word ((base + distance) % 65536) (placed (s.place distance))
  placed-text s base distance is = rw is.given (exact-text scope word Uint _ _ refl (below (base + distance)) (elim (cases_Bool (is.placed.above == 0)) [
    | inl none ↦
        (let none_is : is.placed.above ≡ 0 = eqb-true is.placed.above 0 none in
        rw none (subst (λ k. IsNumber scope Uint k there) (whole is.at is.placed.above none_is ∙ is.there) start))
    | inr some ↦
        rw some (subst (λ k. IsNumber scope Uint k (Binary Add there (Number is.placed.above Uint))) (wraps is.at is.placed.above ∙ is.there)
        (sum-number (is.at % 65536) is.placed.above there _ start (constant-number scope Uint is.placed.above is.small) (below is.at) is.small))
  ]))
    where
      there : Expr
      there = Cast (plain Uint) (if is.placed.is_array then Name is.placed.name else Unary AddressOf (Name is.placed.name))

      start : IsNumber scope Uint (is.at % 65536) there
      start = as-number scope Uint _ there (cast-value scope (plain Uint) (pointer_to is.type) is.at _ (either-value is.placed.name is.type is.at is.placed.is_array is.found))

      whole : (a b : ℕ) → b ≡ 0 → a % 65536 ≡ (a + b) % 65536
      whole a b e = omega (arith, e)

      wraps : (a b : ℕ) → (a % 65536 + b) % 65536 ≡ (a + b) % 65536
      wraps a b = omega arith
