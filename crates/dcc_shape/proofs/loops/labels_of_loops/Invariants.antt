-- the loops so far are labelled, and their labels counted
use Rattle.std.proofs.Common.{◌≡◌, ◌<◌, ℕ, true, take}
use Rattle.std.specs.Prelude.{◌==◌}
use Rattle.std.specs.List.{count_by}
use Rattle.dcc_c.specs.Views.{stmt_of}
use Rattle.dcc_shape.specs.Shape.{is_loop_at}
use Rattle.dcc_shape.specs.Seen.{lent}
use Rattle.dcc_shape.specs.Asked.{loops_are_labelled}
use Rattle.dcc_shape.proofs.loops.labels_of_loops.Given as goal

abbrev pub invariant-loop-seen : goal.invariant-loop-seen
invariant-loop-seen l = record {
  labelled : loops_are_labelled l.heads (take l.seen-index l.list) ≡ true;
  counts : (at : ℕ) → at < 65536
      → count_by (λ s. is_loop_at at (stmt_of s.stmt.now) (lent s.label)) (take l.seen-index l.list)
      ≡ count_by (λ label. label == at) l.labels.items;
}
