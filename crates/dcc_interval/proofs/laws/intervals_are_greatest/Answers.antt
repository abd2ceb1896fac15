use Rattle.std.proofs.Common.{length}
use Rattle.dcc_flow.specs.Edges.{leads}
use Rattle.dcc_interval.proofs.GreatestLaws.{greatest}
use Rattle.dcc_interval.proofs.ReachLaws.{reached_inside}
use Rattle.dcc_interval.proofs.laws.intervals_are_greatest.Goals as goal

pub returns : goal.returns
returns c = λ next entry header within inside r. greatest (leads next) entry header r (length next) (λ n t. reached_inside next entry within inside t)
