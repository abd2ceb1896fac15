use Rattle.std.proofs.Common.{◌≡◌, length, drop}
use Rattle.dcc_interval.specs.Intervals.{intervals_in}
use Rattle.dcc_interval.specs.Collapsing.{placed_from, places_of}
use Rattle.dcc_interval.proofs.collapse.places.Given as goal

abbrev pub invariant-loop-place : goal.invariant-loop-place
invariant-loop-place l = record {
  count : length l.places.items ≡ l.count;
  rest : placed_from l.places.items (drop l.place (intervals_in l.intervals.items)) l.place ≡ places_of l.count (intervals_in l.intervals.items);
}
