use Rattle.dcc_c.specs.Stripped.{plain_variable}
use Rattle.dcc_c.specs.Views as tree
use Rattle.dcc_reader.specs.PartialViews as partial
use Rattle.dcc_parse.proofs.Moved.{moved-step, moved-end}
use Rattle.dcc_parse.proofs.strip_text.strip_variables.Goals as goal

pub loop-v-preserved : goal.loop-v-preserved
loop-v-preserved c =
    let steps = c.in-Some.ensures.steps in
    moved-step tree.variable_of plain_variable partial.variable_of c.loop-v.found.items _ c.in-Some.v steps.0 steps.1 c.in_ok-push.ensures.items c.in_ok-strip_variable.ensures
    c.loop-v.invariant

pub returns : goal.returns
returns c = moved-end tree.variable_of plain_variable partial.variable_of c.loop-v.found.items c.in-None.ensures.steps.0 c.loop-v.invariant
