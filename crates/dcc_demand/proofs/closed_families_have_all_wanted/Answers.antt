use Rattle.dcc_demand.specs.Changes.{Changes}
use Rattle.dcc_demand.proofs.WantedLaws.{wanted-least}
use Rattle.dcc_demand.proofs.closed_families_have_all_wanted.Goals as goal

pub returns : goal.returns
returns g c = λ closed i a l d. wanted-least g.P.SomeProcedures.procedures (Changes g.P.SomeProcedures.procedures) g.P.SomeProcedures.wanted closed d
