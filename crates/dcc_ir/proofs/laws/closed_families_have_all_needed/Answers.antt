use Rattle.dcc_ir.proofs.FamilyLaws.{needed-least}
use Rattle.dcc_ir.proofs.laws.closed_families_have_all_needed.Goals as goal

pub returns : goal.returns
returns g c = needed-least g.F.SomeFamily.family
