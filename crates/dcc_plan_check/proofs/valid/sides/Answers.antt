use Rattle.std.proofs.Common.{ap}
use Rattle.dcc_ir.specs.Tree.{If}
use Rattle.dcc_ir.specs.Views.{expr_of, exit_of}
use Rattle.dcc_plan_check.proofs.BlockLaws.{exit-found}
use Rattle.dcc_plan_check.proofs.valid.sides.Goals as goal

pub returns-in-If : goal.returns-in-If
returns-in-If c =
    let test = expr_of c.in-If.test in
    let found = exit-found c.args.graph.now c.deref.result.now c.args.b c.in-Some.block.now (If test c.in-If.one c.in-If.other)
    c.deref.ensures.value c.in-Some.ensures.lookup.0 c.in-Some.ensures.lookup.1 (ap exit_of c.in-If.is) in
    (found.0, (test, found.1))
