-- Where the first byte of a kind stands.
use Rattle.std.proofs.Common.{◌≡◌, ℕ, ◌<◌, ◌≤◌, Bool, true, false, List, length, Some, None, Option, refl, sym, arith}
use Rattle.std.specs.Prelude.{nat_lt, position, cond, not}
use Rattle.std.specs.List.{position_or_len}
use Rattle.std.proofs.lemmas.Bool.Decides.{nat_tests}
use Rattle.std.proofs.lemmas.List.Sums.{prefix_len-le-length}

-- where no byte passes, the place is the length
pub place-of_none : (p : ℕ → Bool) (xs : List ℕ) → position p xs ≡ None → length xs ≡ position_or_len p xs
place-of_none p xs = by (nat_lt (position_or_len p xs) (length xs)) refl
  where
    by : (b : Bool) → nat_lt (position_or_len p xs) (length xs) ≡ b
        → cond b (Some (position_or_len p xs)) None ≡ None → length xs ≡ position_or_len p xs
    by true h e = cc
    by false h e = let le = prefix_len-le-length (λ x. not (p x)) xs in grind (arith, nat_tests)
