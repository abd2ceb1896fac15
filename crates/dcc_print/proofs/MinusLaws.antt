-- Which operands begin with `-`.
use Rattle.std.proofs.Common.{◌≡◌, ℕ, zero, suc, ◌/◌, ◌%◌, ◌==◌, Bool, true, false, if◌then◌else◌, List, [], ◌∷◌, ◌++◌, arith}
use Rattle.std.proofs.lemmas.Bool.Decides.{nat_tests}
use Rattle.std.specs.Fmt.{decimal, digits, digits_onto, digit_glyph}
use Rattle.dcc_c.specs.Written.{begins_with_minus}

glyph-no_minus : (digit : ℕ) → (digit_glyph false digit == 45) ≡ false
glyph-no_minus digit = grind (arith, nat_tests)

-- digits before bytes that do not begin with `-`
digits_onto-no_minus : (most n : ℕ) (after rest : List ℕ) → begins_with_minus (after ++ rest) ≡ false → begins_with_minus (digits_onto most 10 false n after ++ rest) ≡ false
digits_onto-no_minus zero n after rest not_after = not_after
digits_onto-no_minus (suc most) n after rest not_after =
    let more : List ℕ = digit_glyph false (n % 10) ∷ after in
    let Holds : Bool → Type 0 =
    λ b. begins_with_minus ((if b then more else digits_onto most 10 false (n / 10) more) ++ rest) ≡ false in
    elim (n / 10 == 0) as Holds [
      | true ↦ glyph-no_minus (n % 10)
      | false ↦ digits_onto-no_minus most (n / 10) more rest (glyph-no_minus (n % 10))
    ]

some_digits-no_minus : (most n : ℕ) (rest : List ℕ) → begins_with_minus (digits_onto (suc most) 10 false n [] ++ rest) ≡ false
some_digits-no_minus most n rest =
    let last : List ℕ = digit_glyph false (n % 10) ∷ [] in
    let Holds : Bool → Type 0 =
    λ b. begins_with_minus ((if b then last else digits_onto most 10 false (n / 10) last) ++ rest) ≡ false in
    elim (n / 10 == 0) as Holds [
      | true ↦ glyph-no_minus (n % 10)
      | false ↦ digits_onto-no_minus most (n / 10) last rest (glyph-no_minus (n % 10))
    ]

-- a decimal number does not begin with `-`, whatever stands after it
pub decimal-no_minus : (n : ℕ) (rest : List ℕ) → begins_with_minus (decimal n ++ rest) ≡ false
unfolding digits
decimal-no_minus n rest = some_digits-no_minus 63 n rest

pub ruleset minus_rules = (decimal-no_minus)
