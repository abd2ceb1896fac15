use Rattle.std.proofs.Common.{refl}
use Rattle.dcc_lex.proofs.PieceLaws.{pieces_as}
use Rattle.dcc_lex.proofs.left.Pieces.from_here.Goals as goal

pub returns-clause-pieces : goal.returns-clause-pieces
returns-clause-pieces c = pieces_as _ c.args.self.now refl refl
