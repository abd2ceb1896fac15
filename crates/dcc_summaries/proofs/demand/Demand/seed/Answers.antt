use Rattle.std.proofs.Common.{◌<◌, length, ap, ◌∙◌, get_or, arith}
use Rattle.dcc_ir.specs.Views.{program_of}
use Rattle.dcc_summaries.specs.Demands.{demand_of, with_wants, wants_at}
use Rattle.dcc_summaries.specs.Points.{point_at, used_at, site_in}
use Rattle.dcc_summaries.proofs.DemandLaws.{each_more, read_any}
use Rattle.dcc_summaries.proofs.demand.Demand.seed.Goals as goal

pub loop-at-preserved : goal.loop-at-preserved
loop-at-preserved c =
    let points = c.args.points.now in
    let i = c.loop-at.at-index in
    let at = get_or points i (point_at 0 0 0) in
    let inside : i < length points = omega arith in
    each_more (λ x. wants_at x (used_at (site_in (program_of c.args.p.now) x))) points i at (demand_of c.loop-at.self) (demand_of c.want_there.new.self) _ inside (read_any points i (point_at 0 0 0) inside)
    (c.in_ok-want_there.ensures ∙ ap (λ s. with_wants (demand_of c.loop-at.self) (wants_at at (used_at s))) c.site_at-site.ensures) c.loop-at.invariant
