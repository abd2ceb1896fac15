use Rattle.std.specs.Vec.Iter.{into_iter_items, into_iter_len}
use Rattle.dcc_c.specs.Stripped.{plain_expr}
use Rattle.dcc_c.specs.Views as tree
use Rattle.dcc_reader.specs.PartialViews as partial
use Rattle.dcc_parse.proofs.Moved.{IsMoved}
use Rattle.dcc_parse.proofs.strip.strip_arguments.Given as goal

abbrev pub invariant-loop-e : goal.invariant-loop-e
invariant-loop-e l =
    IsMoved tree.expr_of plain_expr partial.expr_of l.found.items (into_iter_items l.e-iterator) (into_iter_len l.e-iterator) l.fn.arguments.items
