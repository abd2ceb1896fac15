use Rattle.std.proofs.Common.{◌≡◌, ℕ, ◌⊎◌, true, false, drop, get_or}
use Rattle.dcc_control.specs.Plan.{is_in}
use Rattle.dcc_plan_check.proofs.LabelLaws.{IsToBe}
use Rattle.dcc_plan_check.proofs.labels.flag_all.Given as goal

abbrev pub invariant-loop-block : goal.invariant-loop-block
invariant-loop-block l =
    (b : ℕ) → (get_or l.fn.flags.items b false ≡ true) ⊎ (is_in b l.blocks ≡ true) → IsToBe l.flags.items (drop l.block-index l.blocks) b
