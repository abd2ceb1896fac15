use Rattle.std.proofs.Common.{arith}
use Rattle.dcc_stdrules.proofs.WideLaws.{too_wide}
use Rattle.dcc_stdrules.proofs.asked.Number.is.Goals as goal

pub returns-else-width-le32 : goal.returns-else-width-le32
returns-else-width-le32 c = too_wide c.args.number c.args.width c.args.self c.in-Ones.is (omega arith) (omega arith)
