use Rattle.std.proofs.Common.{◌≡◌, ℕ, ◌+◌, ◌-◌, length, get_or}
use Rattle.dcc_fold.proofs.known.make_room.Given as goal

abbrev pub invariant-loop-list : goal.invariant-loop-list
invariant-loop-list l = (n : ℕ) → get_or l.list.items n 0 ≡ get_or l.initial.list.items n 0

abbrev pub decreases-loop-list : goal.decreases-loop-list
decreases-loop-list l = l.place + 1 - length l.list.items
