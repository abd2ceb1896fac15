use Rattle.std.proofs.Common.{◌≡◌, [], map}
use Rattle.std.specs.Vec.Iter.{into_iter_items, into_iter_len}
use Rattle.dcc_c.specs.Stripped.{plain_function}
use Rattle.dcc_c.specs.TextOffences.{Whole, functions_offences}
use Rattle.dcc_c.specs.Views as tree
use Rattle.dcc_reader.specs.PartialViews as partial
use Rattle.dcc_parse.proofs.Moved.{IsMoved}
use Rattle.dcc_parse.proofs.strip_text.strip_functions.Given as goal

-- nothing offends in the rest either
abbrev pub invariant-loop-f : goal.invariant-loop-f
invariant-loop-f l = (whole : Whole) → functions_offences whole (map partial.function_of l.fn.functions.items) ≡ [] →
    (functions_offences whole (map partial.function_of (into_iter_items l.f-iterator)) ≡ [])
    × IsMoved tree.function_of plain_function partial.function_of l.found.items (into_iter_items l.f-iterator) (into_iter_len l.f-iterator) l.fn.functions.items
