use Rattle.std.proofs.Common.{◌≡◌, ◌≢◌, ℕ, [], length, Contains, None}
use Rattle.dcc_procs.specs.Search.{seen_at}
use Rattle.dcc_procs.proofs.search.Search.clear.Given as goal

abbrev pub invariant-loop-at : goal.invariant-loop-at
invariant-loop-at l =
    (length l.self.seen.items ≡ 65536)
    × ((at : ℕ) → seen_at l.self.seen.items at ≢ None → Contains l.self.order.items at)
    × (l.self.pending.items ≡ [])

abbrev pub decreases-loop-at : goal.decreases-loop-at
decreases-loop-at l = length l.self.order.items
