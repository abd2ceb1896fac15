use Rattle.std.proofs.Common.{◌≡◌, map, drop}
use Rattle.dcc_ir.specs.Views.{block_of}
use Rattle.dcc_control.specs.GotoPlan as spec
use Rattle.dcc_control.specs.Views.{plan_before}
use Rattle.dcc_control.proofs.goto_plan.blocks_plan.Given as goal

-- with the blocks that are left, the plan is whole
abbrev pub invariant-loop-b : goal.invariant-loop-b
invariant-loop-b l =
    plan_before l.items.items (spec.goto_blocks l.b (drop l.b (map block_of l.blocks))) ≡ spec.goto_blocks 0 (map block_of l.blocks)
