use Rattle.std.proofs.Common.{◌≡◌, ℕ, ◌+◌, ◌-◌, length}
use Rattle.dcc_summaries.specs.Table.{row_of}
use Rattle.dcc_summaries.proofs.table.make_row.Given as goal

abbrev pub invariant-loop-alloc : goal.invariant-loop-alloc
invariant-loop-alloc l = (n : ℕ) → row_of l.rows.items n ≡ row_of l.initial.rows.items n

abbrev pub decreases-loop-alloc : goal.decreases-loop-alloc
decreases-loop-alloc l = l.done + 1 - length l.rows.items
