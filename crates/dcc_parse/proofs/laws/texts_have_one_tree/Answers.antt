use Rattle.dcc_lex.proofs.laws.TextParsed.{stands-one}
use Rattle.dcc_parse.proofs.laws.texts_have_one_tree.Goals as goal

pub returns : goal.returns
returns c = stands-one
