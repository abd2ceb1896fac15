use Rattle.std.proofs.Common.{rules, ◌≡◌, ◌<◌, ◌+◌, ◌*◌, ◌≤◌, ℕ, [], ◌∷◌, ◌++◌, Vec, Global, length, refl, sym, ap, subst, arith}
use Rattle.std.proofs.lemmas.List.{append-nil}
use Rattle.dcc_control.specs.Plan.{marks, turns, arm_marks, arm_turns}
use Rattle.dcc_control.specs.Views.{plan_of, arms_of}
use Rattle.dcc_plan_check.specs.declared.labels.Noted.{Noted}
use Rattle.dcc_plan_check.specs.Checked.{Notes}
use Rattle.dcc_plan_check.proofs.LabelLaws.{items-step, items-last, arms-step, arms-last, notes-if, notes-switch, notes-for, notes-while, notes-do}
use Rattle.dcc_plan_check.proofs.labels.+note.Goals as goal

pub note_items-loop-item-preserved : goal.note_items-loop-item-preserved
note_items-loop-item-preserved t c =
    items-step c.args.items.now c.loop-item.item-index c.item-item.result c.args.noted.now c.loop-item.noted c.note_item.new.noted _ _
    c.loop-item-test.true c.item-item.is c.in_ok-note_item.ensures c.loop-item.invariant

pub note_items-returns : goal.note_items-returns
note_items-returns t c =
    items-last c.args.items.now c.loop-item.item-index c.args.noted.now c.loop-item.noted _ _ (omega arith) c.loop-item.invariant

pub note_arms-loop-arm-preserved : goal.note_arms-loop-arm-preserved
note_arms-loop-arm-preserved t c =
    let notes = subst (λ l. Notes c.loop-arm.noted (marks (plan_of l)) (turns (plan_of l)) c.note_items.new.noted) c.deref.ensures.value c.in_ok-note_items.ensures in
    arms-step c.args.arms.now c.loop-arm.arm-index c.arm-item.result c.args.noted.now c.loop-arm.noted c.note_items.new.noted _ _
    c.loop-arm-test.true c.arm-item.is notes c.loop-arm.invariant

pub note_arms-returns : goal.note_arms-returns
note_arms-returns t c =
    arms-last c.args.arms.now c.loop-arm.arm-index c.args.noted.now c.loop-arm.noted _ _ (omega arith) c.loop-arm.invariant

pub note_item-returns-in_ok-note_items-in-If-2 : goal.note_item-returns-in_ok-note_items-in-If-2
note_item-returns-in_ok-note_items-in-If-2 t c =
    notes-if c.args.item.now c.in-If.field-0 c.in-If.one c.in-If.other c.deref.result.now c.deref-in-If.result.now c.args.noted.now
    c.note_items.new.noted c.note_items-in-If.new.noted c.in-If.is c.deref.ensures.value c.deref-in-If.ensures.value
    c.in_ok-note_items-in-If.ensures c.in_ok-note_items-in-If-2.ensures

pub note_item-returns-in_ok-note_arms-in-Switch : goal.note_item-returns-in_ok-note_arms-in-Switch
note_item-returns-in_ok-note_arms-in-Switch t c =
    notes-switch c.args.item.now c.in-Switch.field-0 c.in-Switch.arms c.deref-in-Switch.result.now c.args.noted.now c.note_arms.new.noted
    c.in-Switch.is c.deref-in-Switch.ensures.value c.in_ok-note_arms-in-Switch.ensures

pub note_item-returns-in_ok-note_items-in-For : goal.note_item-returns-in_ok-note_items-in-For
note_item-returns-in_ok-note_items-in-For t c =
    let after : Noted = record c.args.noted.now { heads = c.push-in-For.new.self } in
    notes-for c.args.item.now c.in-For.b c.in-For.body c.deref-in-For.result.now c.args.noted.now after c.note_items-in-For.new.noted
    c.in-For.is c.deref-in-For.ensures.value (sym (append-nil c.args.noted.now.labels.items), c.in_ok-push-in-For.ensures.items)
    c.in_ok-note_items-in-For.ensures

pub note_item-returns-in_ok-note_items-in-While : goal.note_item-returns-in_ok-note_items-in-While
note_item-returns-in_ok-note_items-in-While t c =
    notes-while c.args.item.now c.in-While.field-0 c.in-While.field-1 c.in-While.body c.deref-in-While.result.now c.args.noted.now
    c.note_items-in-While.new.noted c.in-While.is c.deref-in-While.ensures.value c.in_ok-note_items-in-While.ensures

pub note_item-returns-in_ok-note_items-in-DoWhile : goal.note_item-returns-in_ok-note_items-in-DoWhile
note_item-returns-in_ok-note_items-in-DoWhile t c =
    notes-do c.args.item.now c.in-DoWhile.field-0 c.in-DoWhile.field-1 c.in-DoWhile.field-2 c.in-DoWhile.body c.deref-in-DoWhile.result.now
    c.args.noted.now c.note_items-in-DoWhile.new.noted c.in-DoWhile.is c.deref-in-DoWhile.ensures.value c.in_ok-note_items-in-DoWhile.ensures
