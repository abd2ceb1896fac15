use Rattle.std.proofs.Common.{◌≡◌, ℕ, ◌+◌, ◌-◌, length}
use Rattle.dcc_flow.specs.Words.{bit_in}
use Rattle.dcc_flow.proofs.locations.make_room.Given as goal

abbrev pub invariant-loop-has : goal.invariant-loop-has
invariant-loop-has l = (n : ℕ) → bit_in l.has.items n ≡ bit_in l.initial.has.items n

abbrev pub decreases-loop-has : goal.decreases-loop-has
decreases-loop-has l = l.word + 1 - length l.has.items
