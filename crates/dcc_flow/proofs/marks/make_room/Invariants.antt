use Rattle.std.proofs.Common.{◌≡◌, ℕ, ◌+◌, ◌-◌, false, length, get_or}
use Rattle.dcc_flow.proofs.marks.make_room.Given as goal

abbrev pub invariant-loop-has : goal.invariant-loop-has
invariant-loop-has l = (n : ℕ) → get_or l.has.items n false ≡ get_or l.initial.has.items n false

abbrev pub decreases-loop-has : goal.decreases-loop-has
decreases-loop-has l = l.place + 1 - length l.has.items
