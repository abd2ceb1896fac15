use Rattle.std.proofs.Common.{◌≡◌, ℕ, ◌<◌, [], length, get_or}
use Rattle.dcc_flow.specs.Edges.{rows}
use Rattle.dcc_interval.specs.Intervals.{intervals_in}
use Rattle.dcc_interval.specs.Derived.{members_at}
use Rattle.dcc_interval.specs.Noted.{noted_of}
use Rattle.dcc_interval.specs.Collapsing.{places_of, nothing_noted, row_of}
use Rattle.dcc_interval.proofs.collapse.collapsed.Given as goal

abbrev pub invariant-loop-place : goal.invariant-loop-place
invariant-loop-place l = record {
  empty : noted_of l.noted ≡ nothing_noted (length l.intervals.items);
  size : length l.graph.items ≡ l.place;
  rows_are : (a : ℕ) → a < l.place → get_or (rows l.graph.items) a []
      ≡ row_of (rows l.next.items) (places_of (length (rows l.next.items)) (intervals_in l.intervals.items)) (length (intervals_in l.intervals.items)) a
      (members_at (intervals_in l.intervals.items) a);
}
