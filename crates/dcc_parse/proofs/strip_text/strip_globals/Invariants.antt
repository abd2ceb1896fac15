use Rattle.std.proofs.Common.{◌≡◌, true, map}
use Rattle.std.specs.List.{list_all}
use Rattle.std.specs.Vec.Iter.{into_iter_items, into_iter_len}
use Rattle.dcc_c.specs.Stripped.{plain_global}
use Rattle.dcc_c.specs.Views as tree
use Rattle.dcc_reader.specs.PartialViews as partial
use Rattle.dcc_parse.specs.Stripping.{is_in_memory}
use Rattle.dcc_parse.proofs.Moved.{IsMoved}
use Rattle.dcc_parse.proofs.strip_text.strip_globals.Given as goal

-- where all global variables are in memory, so are those that are left
abbrev pub invariant-loop-v : goal.invariant-loop-v
invariant-loop-v l = list_all is_in_memory (map partial.variable_of l.fn.vs.items) ≡ true →
    (list_all is_in_memory (map partial.variable_of (into_iter_items l.v-iterator)) ≡ true)
    × IsMoved tree.global_of plain_global partial.variable_of l.found.items (into_iter_items l.v-iterator) (into_iter_len l.v-iterator) l.fn.vs.items
