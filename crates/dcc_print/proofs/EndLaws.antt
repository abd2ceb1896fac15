-- Line ends.
use Rattle.std.proofs.Common.{◌≡◌, ℕ, suc, ◌+◌, Bool, true, false, cond, List, [], ◌∷◌, ◌==◌, refl, ◌∙◌, arith}
use Rattle.std.specs.Prelude.{count_by}
use Rattle.std.proofs.lemmas.List.Sums.{sum_by-cons}
use Rattle.dcc_c.specs.Numbered.{rows}

-- line ends are counted as the lines of a text are
pub ends_are_rows : (bytes : List ℕ) → count_by (λ b. b == 10) bytes ≡ rows bytes
ends_are_rows [] = refl
ends_are_rows (b ∷ bytes) = sum_by-cons (λ (x : ℕ). cond (x == 10) 1 0) b bytes ∙ by (b == 10) (ends_are_rows bytes)
  where
    by : (c : Bool) → count_by (λ b. b == 10) bytes ≡ rows bytes → cond c 1 0 + count_by (λ b. b == 10) bytes ≡ cond c (suc (rows bytes)) (rows bytes)
    by true e = omega (arith, e)
    by false e = omega (arith, e)
