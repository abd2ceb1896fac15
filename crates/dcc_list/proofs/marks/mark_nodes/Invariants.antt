use Rattle.std.proofs.Common.{◌≡◌, ℕ, false, ◌||◌, ◌==◌, map, slice_index_or}
use Rattle.std.specs.List.{list_any}
use Rattle.std.specs.Map.Iter.{deref_pair}
use Rattle.dcc_prog.specs.declared.procedure.Node.{Node}
use Rattle.dcc_list.proofs.marks.mark_nodes.Given as goal

-- the instructions so far are marked
abbrev pub invariant-loop-at : goal.invariant-loop-at
invariant-loop-at l =
    (at : ℕ) → slice_index_or l.marks at false
    ≡ slice_index_or l.initial.marks at false || list_any (λ (node : ℕ × Node). node.0 == at) (map deref_pair l.yielded)
