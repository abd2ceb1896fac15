use Rattle.std.proofs.Common.{◌≡◌, length, drop}
use Rattle.dcc_interval.specs.Collapsing.{all_placed}
use Rattle.dcc_interval.proofs.regions.number_all.Given as goal

abbrev pub invariant-loop-node : goal.invariant-loop-node
invariant-loop-node l = record {
  count : length l.numbers.items ≡ length l.initial.numbers.items;
  rest : all_placed l.numbers.items (drop l.node-index l.nodes) l.number ≡ all_placed l.initial.numbers.items l.nodes l.number;
}
