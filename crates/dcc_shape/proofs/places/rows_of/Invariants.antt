-- the places that follow the instructions so far
use Rattle.std.proofs.Common.{◌≡◌, ◌≤◌, map, take, All}
use Rattle.indexmap.specs.IndexMap.{keys}
use Rattle.dcc_flow.specs.Edges.{rows}
use Rattle.dcc_shape.specs.Procedures.{place_among}
use Rattle.dcc_shape.proofs.places.rows_of.Given as goal

abbrev pub invariant-loop-point : goal.invariant-loop-point
invariant-loop-point l = record {
  are : rows l.next.items ≡ map (λ p. map (place_among (keys l.nodes)) p.next.items) (take l.point-index l.points);
  within : All (λ row. All (λ place. place ≤ l.count) row) (rows l.next.items);
}
