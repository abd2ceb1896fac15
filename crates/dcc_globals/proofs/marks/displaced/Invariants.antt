-- the operands so far are marked
use Rattle.std.proofs.Common.{take}
use Rattle.dcc_globals.specs.Marks.{IsTable}
use Rattle.dcc_globals.specs.Pieces.{is_displaced_by}
use Rattle.dcc_globals.proofs.marks.displaced.Given as goal

abbrev pub invariant-loop-operand : goal.invariant-loop-operand
invariant-loop-operand l = IsTable is_displaced_by (take l.operand-index l.operands) l.table.items
