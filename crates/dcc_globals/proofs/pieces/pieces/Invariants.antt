use Rattle.std.proofs.Common.{◌≡◌, take}
use Rattle.std.specs.List.{flat_map}
use Rattle.dcc_globals.specs.Pieces.{pieces_of}
use Rattle.dcc_globals.proofs.pieces.pieces.Given as goal

abbrev pub invariant-loop-operand : goal.invariant-loop-operand
invariant-loop-operand l =
    l.pieces.items ≡ flat_map (pieces_of l.source.lo l.source.hi) (take l.operand-index l.operand-items)
