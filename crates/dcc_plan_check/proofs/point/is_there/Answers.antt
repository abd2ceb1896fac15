use Rattle.std.proofs.Common.{rules, ◌≡◌}
use Rattle.dcc_ir.specs.Views.{graph_of}
use Rattle.dcc_plan_check.specs.Checked.{point_of}
use Rattle.dcc_plan_check.proofs.PointLaws.{there, no-further}
use Rattle.dcc_plan_check.proofs.point.is_there.Goals as goal

pub returns-then-eq : goal.returns-then-eq
returns-then-eq c answer begun =
    let same : c.args.at ≡ c.args.to = search (rules, c.if-eq.ensures) in
    there (graph_of c.args.graph.now) begun c.args.at c.args.to same

pub returns-in-Before : goal.returns-in-Before
returns-in-Before c answer begun =
    let ends = c.stops.ensures answer in
    no-further (graph_of c.args.graph.now) begun c.args.at c.in-Before.b c.in-Before.place (point_of c.args.to) c.in-Before.is ends.0 ends.1
