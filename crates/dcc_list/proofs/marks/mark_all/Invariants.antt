use Rattle.std.proofs.Common.{◌≡◌, ℕ, false, ◌||◌, take, slice_index_or}
use Rattle.dcc_list.specs.Listed.{is_among}
use Rattle.dcc_list.proofs.marks.mark_all.Given as goal

-- the offsets so far are marked
abbrev pub invariant-loop-offset : goal.invariant-loop-offset
invariant-loop-offset l =
    (at : ℕ) → slice_index_or l.marks at false
    ≡ slice_index_or l.initial.marks at false || is_among at (take l.offset-index l.offsets)
