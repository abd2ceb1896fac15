-- The numbers so far.
use Rattle.std.proofs.Common.{◌≡◌, filter}
use Rattle.std.specs.List.{range_with_len}
use Rattle.dcc_stack.specs.Slots.{gives_back}
use Rattle.dcc_lift.proofs.procedure.given_back.Given as goal

abbrev pub invariant-loop-number : goal.invariant-loop-number
invariant-loop-number l = l.numbers.items ≡ filter (gives_back l.proc l.frame) (range_with_len 0 l.number)
