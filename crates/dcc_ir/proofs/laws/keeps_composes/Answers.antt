use Rattle.dcc_ir.proofs.KeepsLaws.{keeps_trans}
use Rattle.dcc_ir.proofs.laws.keeps_composes.Goals as goal

pub returns : goal.returns
returns c = keeps_trans
