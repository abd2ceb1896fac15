use Rattle.dcc_c.specs.Stripped.{plain_function}
use Rattle.dcc_c.specs.Views as tree
use Rattle.dcc_reader.specs.PartialViews as partial
use Rattle.dcc_parse.proofs.Moved.{moved-step, moved-end}
use Rattle.dcc_parse.proofs.TextLaws.{functions-clean}
use Rattle.dcc_parse.proofs.strip_text.strip_functions.Goals as goal

pub loop-f-preserved : goal.loop-f-preserved
loop-f-preserved c whole none =
    let before = c.loop-f.invariant whole none in
    let steps = c.in-Some.ensures.steps in
    let first = functions-clean whole c.in-Some.f steps.0 c.in_ok-strip_function.ensures before.0 in
    (first.1, moved-step tree.function_of plain_function partial.function_of c.loop-f.found.items _ c.in-Some.f steps.0 steps.1 c.in_ok-push.ensures.items first.0 before.1)

pub returns : goal.returns
returns c whole none =
    moved-end tree.function_of plain_function partial.function_of c.loop-f.found.items c.in-None.ensures.steps.0 (c.loop-f.invariant whole none).1
