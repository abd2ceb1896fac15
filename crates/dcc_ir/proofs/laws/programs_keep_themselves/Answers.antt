use Rattle.dcc_ir.proofs.KeepsLaws.{keeps_refl}
use Rattle.dcc_ir.proofs.laws.programs_keep_themselves.Goals as goal

pub returns : goal.returns
returns c = keeps_refl
