use Rattle.dcc_ops.proofs.FlagReadLaws.{op_plain}
use Rattle.dcc_ops.proofs.laws.operations_set_flags_plainly.Goals as goal

pub returns : goal.returns
returns c = op_plain
