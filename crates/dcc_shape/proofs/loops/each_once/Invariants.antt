-- so far each of the numbers came just once
use Rattle.std.proofs.Common.{◌≡◌, ℕ, true, take}
use Rattle.std.specs.Prelude.{◌==◌}
use Rattle.std.specs.List.{list_all}
use Rattle.dcc_shape.specs.Known.{IsTally}
use Rattle.dcc_shape.proofs.loops.each_once.Given as goal

abbrev pub invariant-loop-number : goal.invariant-loop-number
invariant-loop-number l = (counts : ℕ → ℕ) → IsTally l.tally counts → list_all (λ at. counts at == 1) (take l.number-index l.numbers) ≡ true
