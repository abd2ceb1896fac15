use Rattle.std.proofs.Common.{◌≡◌, ◌-◌, length}
use Rattle.dcc_flow.specs.Edges.{rows}
use Rattle.dcc_interval.specs.Intervals.{intervals_in}
use Rattle.dcc_interval.specs.Growing.{IsReady, growing_of, entry_of}
use Rattle.dcc_interval.proofs.GrowthLaws.{IsFollowed}
use Rattle.dcc_interval.proofs.growth.Parting.grow.Given as goal

abbrev pub invariant-loop-turn : goal.invariant-loop-turn
invariant-loop-turn l = record {
  ready : IsReady (rows l.sources.items) l.self;
  followed : IsFollowed (rows l.next.items) (entry_of l.fn.self) (intervals_in l.fn.self.intervals.items) l.fn.self.heads.list.items l.header
      (growing_of l.self l.members.items) l.turn;
  intervals : l.self.intervals ≡ l.fn.self.intervals;
  list : l.self.heads.list ≡ l.fn.self.heads.list;
}

abbrev pub decreases-loop-turn : goal.decreases-loop-turn
decreases-loop-turn l = length l.next.items - l.turn
