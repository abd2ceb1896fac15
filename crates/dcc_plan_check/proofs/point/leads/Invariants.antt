use Rattle.dcc_ir.specs.Views.{graph_of}
use Rattle.dcc_control.specs.Valid.{Point, Leads}
use Rattle.dcc_plan_check.specs.Checked.{point_of, is_begun_in}
use Rattle.dcc_plan_check.proofs.point.leads.Given as goal

-- where a run comes to from the point at hand, it comes to from the first one
abbrev pub invariant-loop : goal.invariant-loop
invariant-loop l = (to : Point) → Leads (graph_of l.graph) (is_begun_in l.begun.items) (point_of l.at) to
    → Leads (graph_of l.graph) (is_begun_in l.begun.items) (point_of l.fn.from) to
