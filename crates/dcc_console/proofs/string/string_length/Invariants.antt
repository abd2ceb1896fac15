use Rattle.std.proofs.Common.{◌-◌, ◌≤◌}
use Rattle.dcc_console.proofs.StringLaws.{NoneEnds}
use Rattle.dcc_console.proofs.string.string_length.Given as goal

abbrev pub invariant-loop-k : goal.invariant-loop-k
invariant-loop-k l = record { within : l.k ≤ 65536; none : NoneEnds l.memory l.segment l.start l.k }

abbrev pub decreases-loop-k : goal.decreases-loop-k
decreases-loop-k l = 65536 - l.k
