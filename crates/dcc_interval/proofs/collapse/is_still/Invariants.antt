use Rattle.std.proofs.Common.{◌≡◌, drop}
use Rattle.dcc_flow.specs.Edges.{rows, leads}
use Rattle.dcc_interval.specs.Intervals.{intervals_in}
use Rattle.dcc_interval.specs.Derived.{is_still}
use Rattle.dcc_interval.proofs.collapse.is_still.Given as goal

abbrev pub invariant-loop-interval : goal.invariant-loop-interval
invariant-loop-interval l = is_still (leads (rows l.next.items)) (intervals_in (drop l.interval-index l.interval-items)) ≡ is_still (leads (rows l.next.items)) (intervals_in l.interval-items)
