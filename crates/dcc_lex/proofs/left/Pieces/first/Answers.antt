use Rattle.dcc_lex.proofs.PieceLaws.{lent_begins}
use Rattle.dcc_lex.proofs.left.Pieces.first.Goals as goal

pub returns : goal.returns
returns c = lent_begins c.args.self.now c.as_ref.result c.as_ref.ensures.value
