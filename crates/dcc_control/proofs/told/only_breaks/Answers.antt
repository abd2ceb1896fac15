use Rattle.dcc_control.proofs.ToldTests.{many-apart}
use Rattle.dcc_control.proofs.told.only_breaks.Goals as goal

pub returns-in_default-3 : goal.returns-in_default-3
returns-in_default-3 c = many-apart c.args.items.now c.in_default.len_at_least
