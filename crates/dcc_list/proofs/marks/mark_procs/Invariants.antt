use Rattle.std.proofs.Common.{◌≡◌, ℕ, false, ◌||◌, take, slice_index_or}
use Rattle.std.specs.List.{list_any}
use Rattle.dcc_list.specs.Listed.{has_node}
use Rattle.dcc_list.proofs.marks.mark_procs.Given as goal

-- the procedures so far are marked
abbrev pub invariant-loop-proc : goal.invariant-loop-proc
invariant-loop-proc l =
    (at : ℕ) → slice_index_or l.marks at false
    ≡ slice_index_or l.initial.marks at false || list_any (has_node at) (take l.proc-index l.procs)
