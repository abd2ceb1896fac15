use Rattle.dcc_lex.specs.CutViews.{spot_of}
use Rattle.dcc_lex.proofs.PieceLaws.{pieces_cut}
use Rattle.dcc_lex.proofs.left.Pieces.from_first.Goals as goal

pub returns-clause-pieces : goal.returns-clause-pieces
returns-clause-pieces c = pieces_cut _ (spot_of c.args.spot) c.args.line c.args.bytes.now c.next_piece-cut.ensures.continues
