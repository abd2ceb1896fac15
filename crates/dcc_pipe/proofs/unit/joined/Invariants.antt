use Rattle.std.proofs.Common.{◌≡◌, ◌++◌}
use Rattle.dcc_pipe.proofs.unit.joined.Given as goal

abbrev pub invariant-loop-line : goal.invariant-loop-line
invariant-loop-line l = l.lines.items ≡ l.fn.first.items ++ l.yielded
