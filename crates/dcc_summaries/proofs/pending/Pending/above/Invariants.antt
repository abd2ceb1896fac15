use Rattle.std.proofs.Common.{◌≡◌, ℕ, ◌≤◌, ◌<◌, [], length, get_or}
use Rattle.dcc_summaries.specs.Table.{lists_of}
use Rattle.dcc_summaries.proofs.pending.Pending.above.Given as goal

abbrev pub invariant-loop-place : goal.invariant-loop-place
invariant-loop-place l = (k : ℕ) → l.start ≤ k → k < l.place → length (get_or (lists_of l.self.lists.items) k []) ≡ 0
