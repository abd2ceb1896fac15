use Rattle.std.proofs.Common.{◌≡◌, length, drop}
use Rattle.dcc_interval.specs.Noted.{noted_of, with_all_noted}
use Rattle.dcc_interval.specs.Collapsing.{others}
use Rattle.dcc_interval.proofs.collapse.note_places.Given as goal

abbrev pub invariant-loop-node : goal.invariant-loop-node
invariant-loop-node l = record {
  count : length l.noted.marks.items ≡ length l.initial.noted.marks.items;
  rest : with_all_noted (noted_of l.noted) (others l.places.items l.place (drop l.node-index l.nodes))
      ≡ with_all_noted (noted_of l.initial.noted) (others l.places.items l.place l.nodes);
}
