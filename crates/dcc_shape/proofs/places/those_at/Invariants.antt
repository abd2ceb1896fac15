-- those of the addresses so far
use Rattle.std.proofs.Common.{◌≡◌, false, take, get_or}
use Rattle.std.specs.List.{filter}
use Rattle.indexmap.specs.IndexMap.{keys}
use Rattle.dcc_shape.specs.Procedures.{place_among}
use Rattle.dcc_shape.proofs.places.those_at.Given as goal

abbrev pub invariant-loop-at : goal.invariant-loop-at
invariant-loop-at l =
    l.found.items ≡ filter (λ at. get_or l.marks (place_among (keys l.nodes) at) false) (take l.at-index l.ats)
