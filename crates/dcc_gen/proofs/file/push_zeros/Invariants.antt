use Rattle.std.proofs.Common.{◌≡◌, ◌++◌, replicate}
use Rattle.dcc_gen.proofs.file.push_zeros.Given as goal

abbrev pub invariant-loop : goal.invariant-loop
invariant-loop l = l.file.items ≡ l.initial.file.items ++ replicate l.counter 0
