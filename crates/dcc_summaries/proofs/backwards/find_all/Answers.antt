use Rattle.std.proofs.Common.{◌∙◌}
use Rattle.dcc_ir.specs.Views.{program_of}
use Rattle.dcc_summaries.proofs.PointLaws.{listed_are}
use Rattle.dcc_summaries.proofs.backwards.find_all.Goals as goal

pub new-requires-clause-points : goal.new-requires-clause-points
new-requires-clause-points c = listed_are (program_of c.args.p.now) _ (c.as_slice.ensures.value ∙ c.in_ok-points.ensures)
