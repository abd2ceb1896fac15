use Rattle.std.proofs.Common.{◌-◌, ◌≤◌, vec_len}
use Rattle.dcc_io.proofs.system.read_file.Given as goal

abbrev pub invariant-loop-file : goal.invariant-loop-file
invariant-loop-file g l = vec_len l.into ≤ l.most

abbrev pub decreases-loop-file : goal.decreases-loop-file
decreases-loop-file g l = l.most - vec_len l.into
