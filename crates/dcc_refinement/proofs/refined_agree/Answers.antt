use Rattle.dcc_refinement.proofs.RefinedLaws.{refined-agree}
use Rattle.dcc_refinement.proofs.refined_agree.Goals as goal

pub returns : goal.returns
returns g c = refined-agree g.P.TwoProcedures.coarse g.P.TwoProcedures.fine g.P.TwoProcedures.refinement
