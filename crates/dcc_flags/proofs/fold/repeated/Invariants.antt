use Rattle.std.proofs.Common.{◌≡◌, map, replicate}
use Rattle.dcc_flags.specs.Folding.{choices_of}
use Rattle.dcc_flags.proofs.fold.repeated.Given as goal

abbrev pub invariant-loop : goal.invariant-loop
invariant-loop l = map choices_of l.all.items ≡ replicate l.counter (choices_of l.choices)
