use Rattle.std.specs.Vec.Iter.{into_iter_items, into_iter_len}
use Rattle.dcc_c.specs.Stripped.{plain_variable}
use Rattle.dcc_c.specs.Views as tree
use Rattle.dcc_reader.specs.PartialViews as partial
use Rattle.dcc_parse.proofs.Moved.{IsMoved}
use Rattle.dcc_parse.proofs.strip_text.strip_variables.Given as goal

abbrev pub invariant-loop-v : goal.invariant-loop-v
invariant-loop-v l =
    IsMoved tree.variable_of plain_variable partial.variable_of l.found.items (into_iter_items l.v-iterator) (into_iter_len l.v-iterator) l.fn.vs.items
