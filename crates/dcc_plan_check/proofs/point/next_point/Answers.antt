use Rattle.std.proofs.Common.{sym, ◌∙◌}
use Rattle.dcc_ir.specs.Views.{graph_of}
use Rattle.dcc_plan_check.specs.Checked.{is_begun_in}
use Rattle.dcc_plan_check.proofs.PointLaws.{on-from-begin, on-from-end}
use Rattle.dcc_plan_check.proofs.point.next_point.Goals as goal

pub returns-else-only_begins : goal.returns-else-only_begins
returns-else-only_begins c =
    on-from-begin (graph_of c.args.graph.now) (is_begun_in c.args.begun.now.items) c.args.at c.in-Begin.b c.in-Begin.is
    (sym c.only_begins.ensures ∙ c.if-only_begins.false)

pub returns-in-Some : goal.returns-in-Some
returns-in-Some c =
    on-from-end (graph_of c.args.graph.now) (is_begun_in c.args.begun.now.items) c.args.at c.in-Before.b c.in-Before.place c.in-Some.next
    c.in-Before.is c.in-Some.ensures.0 c.in-Some.ensures.1
