-- Numbers of 32 bits beside widths above 32.
use Rattle.std.proofs.Common.{◌≡◌, ℕ, ◌-◌, ◌^◌, ◌<◌, ◌≤◌, false, refl, sym, ap, ◌∙◌, subst, arith, lit<}
use Rattle.std.specs.Prelude.{◌==◌, nat_le}
use Rattle.std.proofs.Math.Nat.{pow-le-pow_right}
use Rattle.std.proofs.lemmas.Bool.{ne_eqb, lt-leb}
use Rattle.dcc_stdrules.specs.declared.asked.Number.{Number}
use Rattle.dcc_stdrules.specs.declared.asked.Number.TheVariants.{Ones}
use Rattle.dcc_stdrules.specs.Rewriting.{number_of}

-- no number of 32 bits is the greatest of a wider width
pub too_wide : (n w : ℕ) (number : Number) → number ≡ Ones → 32 < w → n < 2 ^ 32 → nat_le w 32 ≡ (n == number_of number w)
too_wide n w number is wide small =
    let more : 2 ^ 33 ≤ 2 ^ w = pow-le-pow_right (lit< tt) {i = 33} {j = w} wide in
    let other : (n == 2 ^ w - 1) ≡ false = ne_eqb n (2 ^ w - 1) (λ e. absurd (omega (arith, e, more, small))) in
    lt-leb w 32 wide ∙ sym (subst (λ k. (n == number_of k w) ≡ false) (sym is) other)
