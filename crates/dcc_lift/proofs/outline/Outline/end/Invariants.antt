-- The places of the successors so far.
use Rattle.std.proofs.Common.{◌≡◌, map, take}
use Rattle.dcc_lift.specs.Blocks.{block_place}
use Rattle.dcc_lift.specs.Known.{source_of}
use Rattle.dcc_lift.proofs.outline.Outline.end.Given as goal

abbrev pub invariant-loop-next : goal.invariant-loop-next
invariant-loop-next l = l.places.items ≡ map (block_place (source_of l.self)) (take l.next-index l.next-items)
