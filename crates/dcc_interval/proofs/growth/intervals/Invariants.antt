use Rattle.std.proofs.Common.{◌-◌, length}
use Rattle.dcc_flow.specs.Edges.{rows}
use Rattle.dcc_interval.specs.Growing.{IsReady, IsParted}
use Rattle.dcc_interval.proofs.growth.intervals.Given as goal

abbrev pub invariant-loop-alloc : goal.invariant-loop-alloc
invariant-loop-alloc l = record {
  ready : IsReady (rows l.sources.items) l.parting;
  parted : IsParted (rows l.next.items) l.entry l.parting;
}

abbrev pub decreases-loop-alloc : goal.decreases-loop-alloc
decreases-loop-alloc l = length l.next.items - length l.parting.intervals.items
