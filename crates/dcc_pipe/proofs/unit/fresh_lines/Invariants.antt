use Rattle.std.proofs.Common.{◌≡◌, map}
use Rattle.dcc_pipe.specs.Lines.{fresh_line}
use Rattle.dcc_pipe.proofs.unit.fresh_lines.Given as goal

abbrev pub invariant-loop-stmt : goal.invariant-loop-stmt
invariant-loop-stmt l = l.lines.items ≡ map fresh_line l.yielded
