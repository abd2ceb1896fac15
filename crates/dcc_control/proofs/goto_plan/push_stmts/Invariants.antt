use Rattle.std.proofs.Common.{◌≡◌, map, drop}
use Rattle.dcc_ir.specs.Views.{stmt_of}
use Rattle.dcc_control.specs.GotoPlan as spec
use Rattle.dcc_control.specs.Plan.{Plan}
use Rattle.dcc_control.specs.Views.{plan_before}
use Rattle.dcc_control.proofs.goto_plan.push_stmts.Given as goal

-- with the statements that are left, the block is whole
abbrev pub invariant-loop-m : goal.invariant-loop-m
invariant-loop-m l =
    (plan : Plan) → plan_before l.items.items (spec.do_all l.b l.m (drop l.m (map stmt_of l.stmts)) plan)
    ≡ plan_before l.initial.items.items (spec.do_all l.b 0 (map stmt_of l.stmts) plan)
