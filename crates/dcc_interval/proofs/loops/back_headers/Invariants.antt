use Rattle.std.proofs.Common.{◌≡◌, ◌++◌, drop}
use Rattle.dcc_flow.specs.Edges.{rows, leads}
use Rattle.dcc_interval.specs.Intervals.{intervals_in}
use Rattle.dcc_interval.specs.Derived.{back_headers}
use Rattle.dcc_interval.proofs.loops.back_headers.Given as goal

abbrev pub invariant-loop-interval : goal.invariant-loop-interval
invariant-loop-interval l = l.list.items ++ back_headers (leads (rows l.next.items)) (intervals_in (drop l.interval-index l.interval-items))
    ≡ back_headers (leads (rows l.next.items)) (intervals_in l.interval-items)
