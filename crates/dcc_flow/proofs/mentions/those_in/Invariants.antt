use Rattle.std.proofs.Common.{◌≡◌, ◌++◌, drop, filter}
use Rattle.dcc_flow.specs.Marks.{members}
use Rattle.dcc_flow.proofs.mentions.those_in.Given as goal

abbrev pub invariant-loop-location : goal.invariant-loop-location
invariant-loop-location l = l.list.items ++ filter (members l.marks) (drop l.location-index l.among) ≡ filter (members l.marks) l.among
