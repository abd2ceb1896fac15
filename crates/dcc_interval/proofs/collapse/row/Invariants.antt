use Rattle.std.proofs.Common.{◌≡◌, length, drop}
use Rattle.dcc_flow.specs.Edges.{rows}
use Rattle.dcc_interval.specs.Noted.{noted_of, with_all_noted, followers}
use Rattle.dcc_interval.specs.Collapsing.{others}
use Rattle.dcc_interval.proofs.collapse.row.Given as goal

abbrev pub invariant-loop-member : goal.invariant-loop-member
invariant-loop-member l = record {
  count : length l.noted.marks.items ≡ length l.initial.noted.marks.items;
  rest : with_all_noted (noted_of l.noted) (others l.places.items l.place (followers (rows l.next.items) (drop l.member-index l.members)))
      ≡ with_all_noted (noted_of l.initial.noted) (others l.places.items l.place (followers (rows l.next.items) l.members));
}
