use Rattle.std.proofs.Common.{◌≡◌, ◌++◌, drop}
use Rattle.dcc_interval.specs.Intervals.{headers_of, intervals_in}
use Rattle.dcc_interval.proofs.headers.headers.Given as goal

abbrev pub invariant-loop-interval : goal.invariant-loop-interval
invariant-loop-interval l = l.list.items ++ headers_of (intervals_in (drop l.interval-index l.interval-items)) ≡ headers_of (intervals_in l.interval-items)
