-- the pieces so far are marked
use Rattle.std.proofs.Common.{take}
use Rattle.dcc_globals.specs.Marks.{IsTable}
use Rattle.dcc_globals.specs.Pieces.{has_byte}
use Rattle.dcc_globals.proofs.marks.in_run.Given as goal

abbrev pub invariant-loop-piece : goal.invariant-loop-piece
invariant-loop-piece l = IsTable has_byte (take l.piece-index l.pieces) l.table.items
