use Rattle.std.proofs.Common.{◌≡◌, length, drop}
use Rattle.dcc_interval.specs.Noted.{noted_of, with_all_noted}
use Rattle.dcc_interval.proofs.noted.Noted.note_all.Given as goal

abbrev pub invariant-loop-node : goal.invariant-loop-node
invariant-loop-node l = record {
  count : length l.self.marks.items ≡ length l.initial.self.marks.items;
  rest : with_all_noted (noted_of l.self) (drop l.node-index l.nodes) ≡ with_all_noted (noted_of l.initial.self) l.nodes;
}
