use Rattle.std.proofs.Common.{◌≡◌, length, drop}
use Rattle.dcc_interval.specs.Collapsing.{all_placed}
use Rattle.dcc_interval.proofs.collapse.place_all.Given as goal

abbrev pub invariant-loop-node : goal.invariant-loop-node
invariant-loop-node l = record {
  count : length l.places.items ≡ length l.initial.places.items;
  rest : all_placed l.places.items (drop l.node-index l.nodes) l.place ≡ all_placed l.initial.places.items l.nodes l.place;
}
