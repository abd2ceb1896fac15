use Rattle.std.proofs.Common.{sym}
use Rattle.dcc_lex.proofs.WordLists.{other-length}
use Rattle.dcc_lex.proofs.text.same_text.Goals as goal

pub returns-then-left-right : goal.returns-then-left-right
returns-then-left-right c = sym (other-length c.args.left.now c.args.right.now c.if-left-right.true)
