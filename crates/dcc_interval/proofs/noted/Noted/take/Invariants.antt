use Rattle.std.proofs.Common.{◌≡◌, [], length, drop}
use Rattle.dcc_interval.specs.Noted.{all_cleared}
use Rattle.dcc_interval.proofs.noted.Noted.take.Given as goal

abbrev pub invariant-loop-node : goal.invariant-loop-node
invariant-loop-node l = record {
  count : length l.self.marks.items ≡ length l.fn.self.marks.items;
  list : l.self.list.items ≡ [];
  rest : all_cleared l.self.marks.items (drop l.node-index l.fn.self.list.items) ≡ all_cleared l.fn.self.marks.items l.fn.self.list.items;
}
