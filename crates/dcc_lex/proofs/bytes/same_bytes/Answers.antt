use Rattle.std.proofs.Common.{sym, ◌∙◌}
use Rattle.dcc_c.proofs.NameLaws.{same_bytes-pointwise}
use Rattle.dcc_lex.proofs.bytes.same_bytes.Goals as goal

pub returns : goal.returns
returns c = c.eq.ensures ∙ sym (same_bytes-pointwise c.args.left.now c.args.right.now)
