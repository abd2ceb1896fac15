use Rattle.dcc_c.specs.Stripped.{plain_expr}
use Rattle.dcc_c.specs.Views as tree
use Rattle.dcc_reader.specs.PartialViews as partial
use Rattle.dcc_parse.proofs.Moved.{moved-step, moved-end}
use Rattle.dcc_parse.proofs.strip.strip_arguments.Goals as goal

pub loop-e-preserved : goal.loop-e-preserved
loop-e-preserved c =
    let steps = c.in-Some.ensures.steps in
    moved-step tree.expr_of plain_expr partial.expr_of c.loop-e.found.items _ c.in-Some.e steps.0 steps.1 c.in_ok-push.ensures.items c.in_ok-strip_expr.ensures
    c.loop-e.invariant

pub returns : goal.returns
returns c = moved-end tree.expr_of plain_expr partial.expr_of c.loop-e.found.items c.in-None.ensures.steps.0 c.loop-e.invariant
