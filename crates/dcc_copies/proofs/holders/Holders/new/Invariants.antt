use Rattle.std.proofs.Common.{◌≡◌, ℕ, Some, slice_get, length}
use Rattle.dcc_copies.specs.declared.holders.Pair.{Pair}
use Rattle.dcc_copies.proofs.holders.Holders.new.Given as goal

abbrev pub invariant-loop-place : goal.invariant-loop-place
invariant-loop-place l = record {
  count : length l.pairs.items ≡ l.place;
  alone : (place : ℕ) (pair : Pair) → slice_get l.pairs.items place ≡ Some pair → (pair.first ≡ place) × (pair.second ≡ place);
}
