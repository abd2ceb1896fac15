use Rattle.dcc_plan_check.specs.Checked.{point_of, is_begun_in}
use Rattle.dcc_plan_check.proofs.point.leads.Goals as goal

pub loop-preserved : goal.loop-preserved
loop-preserved c to rest = c.loop.invariant to (c.in-Some.ensures to rest)

pub returns-then-is_there : goal.returns-then-is_there
returns-then-is_there c answer =
    c.loop.invariant (point_of c.args.to) (c.is_there.ensures c.if-is_there.true (is_begun_in c.args.begun.now.items))
