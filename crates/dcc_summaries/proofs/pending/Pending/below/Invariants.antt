use Rattle.std.proofs.Common.{◌≡◌, ℕ, ◌≤◌, ◌<◌, [], length, get_or}
use Rattle.dcc_summaries.specs.Table.{lists_of}
use Rattle.dcc_summaries.proofs.pending.Pending.below.Given as goal

abbrev pub invariant-loop-place : goal.invariant-loop-place
invariant-loop-place l = record {
  within : l.place ≤ length l.self.lists.items;
  empty : (k : ℕ) → l.place ≤ k → k < l.end → length (get_or (lists_of l.self.lists.items) k []) ≡ 0;
}

abbrev pub decreases-loop-place : goal.decreases-loop-place
decreases-loop-place l = l.place
