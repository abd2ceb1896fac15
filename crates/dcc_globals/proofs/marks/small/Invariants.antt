-- the pieces so far are marked
use Rattle.std.proofs.Common.{take}
use Rattle.dcc_globals.specs.Marks.{IsTable, is_small}
use Rattle.dcc_globals.proofs.marks.small.Given as goal

abbrev pub invariant-loop-piece : goal.invariant-loop-piece
invariant-loop-piece l = IsTable is_small (take l.piece-index l.pieces) l.table.items
