use Rattle.std.proofs.Common.{◌≡◌, ℕ, ◌<◌, ◌≤◌, false, get_or}
use Rattle.dcc_interval.proofs.growth.first_free.Given as goal

abbrev pub invariant-loop-turn : goal.invariant-loop-turn
invariant-loop-turn l = (k : ℕ) → l.from ≤ k → k < l.turn → get_or l.free.items (get_or l.nodes k 0) false ≡ false
