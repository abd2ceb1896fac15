use Rattle.dcc_lex.proofs.PieceLaws.{second_begins}
use Rattle.dcc_lex.proofs.left.Pieces.second.Goals as goal

pub returns : goal.returns
returns c = second_begins c.args.self.now
