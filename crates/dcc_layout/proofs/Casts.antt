-- Numbers that fit a word.
use Rattle.std.proofs.Common.{◌≡◌, ℕ, ◌<◌, Some, ◌∙◌}
use Rattle.std.specs.Prelude.{Result, Ok, Err}
use Rattle.std.specs.Result.{OkIff, result_ok}

-- the number that was cast is the same
pub same-number : {E : Type 0} (r : Result ℕ E) (n cast : ℕ) → OkIff r (n < 65536) n → Some cast ≡ result_ok r → cast ≡ n
same-number (Ok x) n cast h e = let same : cast ≡ x = cc in same ∙ h.1
same-number (Err x) n cast h e = cc
