-- the places so far
use Rattle.std.proofs.Common.{◌≡◌, ◌≤◌, map, take, All}
use Rattle.indexmap.specs.IndexMap.{keys}
use Rattle.dcc_shape.specs.Procedures.{place_among}
use Rattle.dcc_shape.proofs.places.row.Given as goal

abbrev pub invariant-loop-at : goal.invariant-loop-at
invariant-loop-at l = record {
  are : l.row.items ≡ map (place_among (keys l.nodes)) (take l.at-index l.ats);
  within : All (λ place. place ≤ l.count) l.row.items;
}
