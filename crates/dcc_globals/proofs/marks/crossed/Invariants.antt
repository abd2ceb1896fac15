-- the pieces so far are marked
use Rattle.std.proofs.Common.{take}
use Rattle.dcc_globals.specs.Marks.{IsTable}
use Rattle.dcc_globals.specs.Pieces.{crosses}
use Rattle.dcc_globals.proofs.marks.crossed.Given as goal

abbrev pub invariant-loop-piece : goal.invariant-loop-piece
invariant-loop-piece l = IsTable crosses (take l.piece-index l.pieces) l.table.items
