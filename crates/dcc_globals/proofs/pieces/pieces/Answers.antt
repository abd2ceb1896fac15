use Rattle.std.proofs.Common.{ap, ◌∙◌}
use Rattle.std.specs.List.{flat_map}
use Rattle.std.proofs.lemmas.List.{take_all}
use Rattle.dcc_globals.specs.Pieces.{pieces, pieces_of}
use Rattle.dcc_globals.proofs.pieces.pieces.Goals as goal

pub returns : goal.returns
unfolding pieces
returns c =
    let source = c.args.source.now in
    c.loop-operand.invariant
    ∙ ap (flat_map (pieces_of source.lo source.hi)) (take_all c.loop-operand.operand-index source.operands.now c.loop-operand-test.false)
