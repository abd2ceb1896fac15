-- the numbers so far are counted
use Rattle.std.proofs.Common.{take}
use Rattle.std.specs.Prelude.{◌==◌}
use Rattle.std.specs.List.{count_by}
use Rattle.dcc_shape.specs.Known.{IsTally}
use Rattle.dcc_shape.proofs.tally.tally_of.Given as goal

abbrev pub invariant-loop-number : goal.invariant-loop-number
invariant-loop-number l = IsTally l.tally (λ n. count_by (λ m. m == n) (take l.number-index l.numbers))
