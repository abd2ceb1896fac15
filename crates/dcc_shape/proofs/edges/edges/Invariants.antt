-- the edges from the instructions so far
use Rattle.std.proofs.Common.{◌≡◌, ℕ, take, length}
use Rattle.std.specs.Prelude.{◌==◌}
use Rattle.std.specs.List.{sum_by, count_by}
use Rattle.dcc_flow.specs.Edges.{is_in}
use Rattle.dcc_shape.specs.Procedures.{different}
use Rattle.dcc_shape.proofs.edges.edges.Given as goal

abbrev pub invariant-loop-point : goal.invariant-loop-point
invariant-loop-point l = record {
  count : length l.list.items ≡ sum_by (λ p. different p.next.items) (take l.point-index l.points);
  each : (n : ℕ) → count_by (λ m. m == n) l.list.items ≡ count_by (λ p. is_in p.next.items n) (take l.point-index l.points);
}
