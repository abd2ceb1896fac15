use Rattle.std.proofs.Common.{◌≡◌, ℕ, ◌+◌, ◌-◌, [], length, get_or}
use Rattle.dcc_summaries.specs.Table.{lists_of}
use Rattle.dcc_summaries.proofs.table.make_room.Given as goal

abbrev pub invariant-loop-alloc : goal.invariant-loop-alloc
invariant-loop-alloc g l = (n : ℕ) → get_or (lists_of l.lists.items) n [] ≡ get_or (lists_of l.initial.lists.items) n []

abbrev pub decreases-loop-alloc : goal.decreases-loop-alloc
decreases-loop-alloc g l = l.place + 1 - length l.lists.items
