use Rattle.std.proofs.Common.{◌≡◌, false, replicate}
use Rattle.dcc_flow.proofs.uses.no_answers.Given as goal

abbrev pub invariant-loop : goal.invariant-loop
invariant-loop l = l.answer.items ≡ replicate l.counter (replicate l.len false)
