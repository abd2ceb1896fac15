use Rattle.std.proofs.Common.{arith, suc, length, not, map, Some, refl, sym, ap, ◌∙◌, subst}
use Rattle.std.specs.Vec.Iter.{into_iter_items, into_iter_len}
use Rattle.dcc_c.specs.declared.syntax.Arm.{roll-Arm}
use Rattle.dcc_c.specs.Stripped.{plain_numbers}
use Rattle.dcc_c.specs.Views.{lines_of, arms_of}
use Rattle.dcc_reader.specs.PartialViews as partial
use Rattle.dcc_reader.specs.declared.partial.Row.{size-Row}
use Rattle.dcc_parse.proofs.Moved.{none-left}
use Rattle.dcc_parse.proofs.StripLaws.{LinesMade, ArmsLeft, no_deeper, left-step, left-end, made-begin, made-step, made-end, arms-step, default-step, arms-end, if-strip, while-strip, do-strip, forever-strip, switch-strip}
use Rattle.dcc_parse.proofs.strip.+strip.Goals.{strip_arms-then-is_none+in_ok-cases+in_ok-push, strip_arms-else-is_none}
use Rattle.dcc_parse.proofs.strip.+strip.Goals as goal

pub strip_arms-loop-arm-preserved : goal.strip_arms-loop-arm-preserved
strip_arms-loop-arm-preserved t c scene blocks none single =
    let before = c.loop-arm.invariant scene blocks none single in
    let found = c.loop-arm.with_cases.items in
    let last = c.loop-arm.default in
    let steps = c.in-Some.ensures.steps in
    let stripped = c.in_ok-body.ensures scene blocks in
    elim c.if-is_none.branch [
      | strip_arms-then-is_none+in_ok-cases+in_ok-push w ↦
          subst (λ l. ArmsLeft scene blocks c.if-is_none.with_cases.items l (into_iter_items c.next.new.self) (into_iter_len c.next.new.self) c.args.arms.items)
          (sym w.default-is)
          (arms-step scene blocks c.in-Some.arm found last w.in_ok-cases.cases c.in_ok-body.body steps.0 steps.1 before
          (ap (λ v. v.items) w.with_cases-is ∙ w.in_ok-push.ensures.items) (c.is_none.ensures ∙ ap not w.if-is_none.true) stripped
          (w.in_ok-cases.ensures ∙ ap (λ l. plain_numbers (map partial.case_of l)) w.deref.ensures.value))
      | strip_arms-else-is_none w ↦
          subst (λ l. ArmsLeft scene blocks c.if-is_none.with_cases.items l (into_iter_items c.next.new.self) (into_iter_len c.next.new.self) c.args.arms.items)
          (sym w.default-is)
          (subst
          (λ v. ArmsLeft scene blocks v.items (Some (roll-Arm (record { cases = w.new-cases.result; body = c.in_ok-body.body }))) (into_iter_items c.next.new.self) (into_iter_len c.next.new.self) c.args.arms.items)
          (sym w.with_cases-is)
          (default-step scene blocks c.in-Some.arm found last w.new-cases.result c.in_ok-body.body steps.0 steps.1 before
          (c.is_none.ensures ∙ ap not w.if-is_none.false) stripped w.new-cases.ensures.items))
    ]

pub strip_arms-returns : goal.strip_arms-returns
strip_arms-returns t c scene blocks none single =
    let both = arms-end scene blocks c.loop-arm.with_cases.items c.loop-arm.default c.in-None.ensures.steps.0 (c.loop-arm.invariant scene blocks none single) in
    (ap arms_of c.without_spare.ensures ∙ both.0, both.1)

pub strip_lines-loop-row-preserved : goal.strip_lines-loop-row-preserved
strip_lines-loop-row-preserved t c scene blocks none =
    let steps = c.in-Some.ensures.steps in
    left-step scene blocks c.loop-row.lines.items c.in-Some.row _ steps.0 steps.1 c.in_ok-push.ensures.items
    (c.in_ok-strip_row.ensures.stmt scene (suc blocks)) c.in_ok-strip_row.ensures.line (c.loop-row.invariant scene blocks none)

pub strip_lines-loop-last-init : goal.strip_lines-loop-last-init
strip_lines-loop-last-init t c = record {
  deep = omega arith;
  made = λ scene blocks none. made-begin scene blocks c.args.rows.items c.in_ok-lines.ensures.items none;
}

pub strip_lines-loop-last-preserved : goal.strip_lines-loop-last-preserved
strip_lines-loop-last-preserved t c = record {
  deep = no_deeper size-Row _ c.pop.new.self.items c.loop-last.rows.items c.in-Some-pop.last _ c.in-Some-pop.ensures.items c.shrink_in_steps.ensures c.loop-last.invariant.deep;
  made = λ scene blocks none.
      subst (λ rows. LinesMade scene blocks c.push-in-Some-pop.new.self.items rows c.args.rows.items) (sym c.shrink_in_steps.ensures)
      (made-step scene blocks c.loop-last.lines.items c.in-Some-pop.last _ c.in-Some-pop.ensures.items c.in_ok-push-2.ensures.items (c.in_ok-strip_row-2.ensures.stmt scene (suc blocks))
      c.in_ok-strip_row-2.ensures.line (c.loop-last.invariant.made scene blocks none));
}

pub strip_lines-returns-then-len-le-SHRINK_STEP : goal.strip_lines-returns-then-len-le-SHRINK_STEP
strip_lines-returns-then-len-le-SHRINK_STEP t c scene blocks none =
    left-end scene blocks c.loop-row.lines.items c.in-None.ensures.steps.0 (c.loop-row.invariant scene blocks none)

pub strip_lines-returns : goal.strip_lines-returns
strip_lines-returns t c scene blocks none =
    ap lines_of c.reverse.ensures.items ∙ made-end scene blocks c.loop-last.lines.items (none-left c.loop-last.rows.items (length c.loop-last.rows.items) refl (omega (arith, c.in_default.ensures.cases.0))) (c.loop-last.invariant.made scene blocks none)

pub strip_stmt-returns-in_ok-otherwise-in-If : goal.strip_stmt-returns-in_ok-otherwise-in-If
strip_stmt-returns-in_ok-otherwise-in-If t c scene blocks none =
    if-strip scene blocks c.args.stmt c.in-If.e c.in-If.field-1 c.in-If.body c.in-If.otherwise c.in_ok-e-in-If.e c.in_ok-body-in-If.body c.in_ok-otherwise-in-If.otherwise
    c.in-If.is none c.in_ok-e-in-If.ensures (c.in_ok-body-in-If.ensures scene blocks) (c.in_ok-otherwise-in-If.ensures scene blocks)

pub strip_stmt-returns-in_ok-strip_lines-in-While :
    goal.strip_stmt-returns-in_ok-strip_lines-in-While
strip_stmt-returns-in_ok-strip_lines-in-While t c scene blocks none =
    while-strip scene blocks c.args.stmt c.in-While.e c.in-While.field-1 c.in-While.body c.in_ok-e-in-While.e c.in_ok-strip_lines-in-While.field-0
    c.in-While.is none c.in_ok-e-in-While.ensures (c.in_ok-strip_lines-in-While.ensures scene blocks)

pub strip_stmt-returns-in_ok-strip_lines-in-DoWhile :
    goal.strip_stmt-returns-in_ok-strip_lines-in-DoWhile
strip_stmt-returns-in_ok-strip_lines-in-DoWhile t c scene blocks none =
    do-strip scene blocks c.args.stmt c.in-DoWhile.e c.in-DoWhile.field-2 c.in-DoWhile.body c.in_ok-e-in-DoWhile.e c.in_ok-strip_lines-in-DoWhile.field-0
    c.in-DoWhile.is none c.in_ok-e-in-DoWhile.ensures (c.in_ok-strip_lines-in-DoWhile.ensures scene blocks)

pub strip_stmt-returns-in_ok-strip_lines-in-Forever :
    goal.strip_stmt-returns-in_ok-strip_lines-in-Forever
strip_stmt-returns-in_ok-strip_lines-in-Forever t c scene blocks none =
    forever-strip scene blocks c.args.stmt c.in-Forever.body c.in_ok-strip_lines-in-Forever.field-0 c.in-Forever.is none
    (c.in_ok-strip_lines-in-Forever.ensures scene blocks)

pub strip_stmt-returns-in_ok-arms-in-Switch : goal.strip_stmt-returns-in_ok-arms-in-Switch
strip_stmt-returns-in_ok-arms-in-Switch t c scene blocks none =
    switch-strip scene blocks c.args.stmt c.in-Switch.e c.in-Switch.field-1 c.in-Switch.arms c.in_ok-e-in-Switch.e c.in_ok-arms-in-Switch.arms.with_cases c.in_ok-arms-in-Switch.arms.default
    c.in-Switch.is none c.in_ok-e-in-Switch.ensures (c.in_ok-arms-in-Switch.ensures scene blocks)
