use Rattle.std.proofs.Common.{◌≡◌, drop}
use Rattle.dcc_ir.specs.Views.{graph_of}
use Rattle.dcc_plan.specs.PlanText as spec
use Rattle.dcc_control.specs.Views.{plan_of, arms_of}
use Rattle.dcc_plan.proofs.TextRows.{lines_before, bodies_before}
use Rattle.dcc_plan.proofs.plan_text.+text.Given as goal

-- with the arms that are left, the text is whole
abbrev pub invariant-arms_text-loop-arm : goal.invariant-arms_text-loop-arm
invariant-arms_text-loop-arm g l =
    bodies_before l.bodies.items (spec.arms_text (g.S.Spells.spelling l.s) (graph_of l.graph) (arms_of (drop l.arm-index l.arms)))
    ≡ spec.arms_text (g.S.Spells.spelling l.s) (graph_of l.graph) (arms_of l.arms)

-- with the items that are left, the text is whole
abbrev pub invariant-plan_text-loop-item : goal.invariant-plan_text-loop-item
invariant-plan_text-loop-item g l =
    lines_before l.lines.items (spec.plan_text (g.S.Spells.spelling l.s) (graph_of l.graph) (plan_of (drop l.item-index l.items)))
    ≡ spec.plan_text (g.S.Spells.spelling l.s) (graph_of l.graph) (plan_of l.items)
