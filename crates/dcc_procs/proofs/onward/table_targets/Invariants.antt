use Rattle.std.proofs.Common.{◌≡◌}
use Rattle.dcc_prog.specs.Trail.{table_words}
use Rattle.dcc_procs.proofs.onward.table_targets.Given as goal

abbrev pub invariant-loop-k : goal.invariant-loop-k
invariant-loop-k l = l.targets.items ≡ table_words l.image l.offset l.k
