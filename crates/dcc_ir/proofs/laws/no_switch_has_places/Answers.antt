use Rattle.dcc_ir.proofs.UnstuckLaws.{no_switch_places}
use Rattle.dcc_ir.proofs.laws.no_switch_has_places.Goals as goal

pub returns : goal.returns
returns c = no_switch_places
