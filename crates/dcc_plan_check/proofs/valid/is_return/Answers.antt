use Rattle.std.proofs.Common.{ap, map}
use Rattle.dcc_ir.specs.Tree.{Ret}
use Rattle.dcc_ir.specs.Views.{expr_of, exit_of}
use Rattle.dcc_plan_check.proofs.BlockLaws.{exit-found}
use Rattle.dcc_plan_check.proofs.valid.is_return.Goals as goal

pub returns-in-Ret : goal.returns-in-Ret
returns-in-Ret c answer =
    let values = map expr_of c.in-Ret.field-0.items in
    let found = exit-found c.args.graph.now c.deref.result.now c.args.b c.in-Some.block.now (Ret values)
    c.deref.ensures.value c.in-Some.ensures.lookup.0 c.in-Some.ensures.lookup.1 (ap exit_of c.in-Ret.is) in
    (values, found.1, found.0)
