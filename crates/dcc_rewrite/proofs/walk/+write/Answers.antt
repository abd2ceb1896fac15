use Rattle.std.proofs.Common.{rules, ◌+◌, ◌*◌, ◌<◌, Vec, Global, drop, length, sym, ap, ◌∙◌, arith}
use Rattle.std.proofs.lemmas.List.{at_drop_more, drop_all}
use denote.Param.Weighed.{most}
use Rattle.dcc_c.specs.declared.syntax.CExpr.{CExpr}
use Rattle.dcc_c.specs.declared.syntax.CStmt.TheViews.{If, the_lemmas}
use Rattle.dcc_c.proofs.syntax.CStmt.TheLaws.{the_size}
use Rattle.dcc_c.proofs.syntax.Line.TheLaws.{the_size as line_size}
use Rattle.dcc_c.specs.declared.syntax.Line.{Line}
use Rattle.dcc_c.specs.declared.syntax.Arm.{roll-Arm, out-Arm, out-roll-Arm}
use Rattle.dcc_c.specs.declared.syntax.Line.{roll-Line}
use Rattle.dcc_c.specs.Tree.{no_arms, line}
use Rattle.dcc_c.specs.Views.{stmt_of, lines_of, arms_of, arms_if, arm_before}
use Rattle.dcc_respell.specs.Writing.{stmt_by, lines_by, arms_by}
use Rattle.dcc_rewrite.proofs.Bodies.{if-by, while-by, do_while-by, forever-by, switch-by, arm-by, one-more-line, one-more-arm, no-more-lines, no-more-arms, appended_lines, appended_arms, copied-items}
use Rattle.dcc_rewrite.proofs.walk.+write.Goals as goal

pub all_arms-loop-arm-init : goal.all_arms-loop-arm-init
all_arms-loop-arm-init g t c = λ w is.
    ap (λ xs. appended_arms xs (arms_by w (arms_of c.args.arms.now))) c.in_ok-after.ensures.items

pub all_arms-loop-arm-preserved : goal.all_arms-loop-arm-preserved
all_arms-loop-arm-preserved g t c = λ w is.
    let i = c.loop-arm.arm-index in
    let arms = c.args.arms.now in
    let written = c.loop-arm.after.items in
    let left = arms_of (drop (i + 1) arms) in
    let within : i < length arms = omega arith in
    ap (λ xs. appended_arms xs (arms_by w left)) c.in_ok-push.ensures.items
    ∙ one-more-arm written c.in_ok-one_arm.field-0 (arms_by w left)
    ∙ ap (appended_arms written) (c.in_ok-one_arm.ensures w left is)
    ∙ ap (λ a. appended_arms written (arms_by w (arm_before a left))) c.arm-item.is
    ∙ ap (λ xs. appended_arms written (arms_by w (arms_of xs))) (sym (at_drop_more (λ xs. xs) arms i c.arm-item.result within))
    ∙ c.loop-arm.invariant w is

pub all_arms-returns : goal.all_arms-returns
all_arms-returns g t c = λ w is.
    sym (no-more-arms c.loop-arm.after.items)
    ∙ ap (λ xs. appended_arms c.loop-arm.after.items (arms_by w (arms_of xs))) (sym (drop_all c.loop-arm.arm-index c.args.arms.now c.loop-arm-test.false))
    ∙ c.loop-arm.invariant w is

pub default_arm-returns-in_ok-one_arm-in-Some : goal.default_arm-returns-in_ok-one_arm-in-Some
default_arm-returns-in_ok-one_arm-in-Some g t c = λ w is.
    c.in_ok-one_arm-in-Some.ensures w no_arms is ∙ ap (λ last. arms_by w (arms_if last)) (sym c.in-Some.is)

pub lines-loop-line-init : goal.lines-loop-line-init
lines-loop-line-init g t c = λ w is.
    ap (λ xs. appended_lines xs (lines_by w (lines_of c.args.lines.now))) c.in_ok-after.ensures.items

pub lines-loop-line-preserved : goal.lines-loop-line-preserved
lines-loop-line-preserved g t c = λ w is.
    let i = c.loop-line.line-index in
    let lines = c.args.lines.now in
    let written = c.loop-line.after.items in
    let left = lines_of (drop (i + 1) lines) in
    let here = c.line-item.result in
    let within : i < length lines = omega arith in
    ap (λ xs. appended_lines xs (lines_by w left)) c.in_ok-push.ensures.items
    ∙ one-more-line written (roll-Line record { stmt = c.in_ok-statement.field-0; line = here.line }) (lines_by w left)
    ∙ ap (λ s. appended_lines written (line s here.line (lines_by w left))) (c.in_ok-statement.ensures w is)
    ∙ ap (λ l. appended_lines written (line (stmt_by w (stmt_of l.stmt)) l.line (lines_by w left))) c.line-item.is
    ∙ ap (λ xs. appended_lines written (lines_by w (lines_of xs))) (sym (at_drop_more (λ xs. xs) lines i here within))
    ∙ c.loop-line.invariant w is

pub lines-returns : goal.lines-returns
lines-returns g t c = λ w is.
    sym (no-more-lines c.loop-line.after.items)
    ∙ ap (λ xs. appended_lines c.loop-line.after.items (lines_by w (lines_of xs))) (sym (drop_all c.loop-line.line-index c.args.lines.now c.loop-line-test.false))
    ∙ c.loop-line.invariant w is

pub one_arm-returns : goal.one_arm-returns
one_arm-returns g t c = λ w rest is.
    let parts = out-roll-Arm (record { cases = c.in_ok-clone.field-0; body = c.in_ok-lines.field-0 }) in
    arm-by w c.args.arm.now (roll-Arm (record { cases = c.in_ok-clone.field-0; body = c.in_ok-lines.field-0 })) rest
    (ap (λ a. a.cases.items) parts ∙ copied-items (λ x y same. same) (out-Arm c.args.arm.now).cases.items c.in_ok-clone.field-0.items c.in_ok-clone.ensures.cases.0)
    (ap (λ a. lines_of a.body.items) parts ∙ c.in_ok-lines.ensures w is ∙ ap (λ xs. lines_by w (lines_of xs)) c.as_slice.ensures.value)

pub statement-returns-in_ok-lines-in-If : goal.statement-returns-in_ok-lines-in-If
statement-returns-in_ok-lines-in-If g t c = λ w is.
    if-by w c.in-If.test c.in_ok-test-in-If.test c.in-If.body c.in-If.otherwise c.in_ok-body-in-If.body c.in_ok-lines-in-If.field-0
    (c.in_ok-test-in-If.ensures w is)
    (c.in_ok-body-in-If.ensures w is ∙ ap (λ xs. lines_by w (lines_of xs)) c.deref.ensures.value)
    (c.in_ok-lines-in-If.ensures w is ∙ ap (λ xs. lines_by w (lines_of xs)) c.deref-in-If.ensures.value)
    ∙ ap (λ s. stmt_by w (stmt_of s)) (sym c.in-If.is)

pub statement-returns-in_ok-lines-in-While : goal.statement-returns-in_ok-lines-in-While
statement-returns-in_ok-lines-in-While g t c = λ w is.
    while-by w c.in-While.test c.in_ok-test-in-While.test c.in-While.body c.in_ok-lines-in-While.field-0
    (c.in_ok-test-in-While.ensures w is)
    (c.in_ok-lines-in-While.ensures w is ∙ ap (λ xs. lines_by w (lines_of xs)) c.deref-in-While.ensures.value)
    ∙ ap (λ s. stmt_by w (stmt_of s)) (sym c.in-While.is)

pub statement-returns-in_ok-test-in-DoWhile : goal.statement-returns-in_ok-test-in-DoWhile
statement-returns-in_ok-test-in-DoWhile g t c = λ w is.
    do_while-by w c.in-DoWhile.test c.in_ok-test-in-DoWhile.field-0 c.in-DoWhile.body c.in_ok-body-in-DoWhile.body
    (c.in_ok-test-in-DoWhile.ensures w is)
    (c.in_ok-body-in-DoWhile.ensures w is ∙ ap (λ xs. lines_by w (lines_of xs)) c.deref-in-DoWhile.ensures.value)
    ∙ ap (λ s. stmt_by w (stmt_of s)) (sym c.in-DoWhile.is)

pub statement-returns-in_ok-lines-in-Forever : goal.statement-returns-in_ok-lines-in-Forever
statement-returns-in_ok-lines-in-Forever g t c = λ w is.
    forever-by w c.in-Forever.body c.in_ok-lines-in-Forever.field-0
    (c.in_ok-lines-in-Forever.ensures w is ∙ ap (λ xs. lines_by w (lines_of xs)) c.deref-in-Forever.ensures.value)
    ∙ ap (λ s. stmt_by w (stmt_of s)) (sym c.in-Forever.is)

pub statement-returns-in_ok-default_arm-in-Switch : goal.statement-returns-in_ok-default_arm-in-Switch
statement-returns-in_ok-default_arm-in-Switch g t c = λ w is.
    switch-by w c.in-Switch.value c.in_ok-value-in-Switch.value c.in-Switch.arms c.in_ok-arms-in-Switch.arms c.in-Switch.last c.in_ok-default_arm-in-Switch.field-0
    (c.in_ok-value-in-Switch.ensures w is)
    (c.in_ok-arms-in-Switch.ensures w is ∙ ap (λ xs. arms_by w (arms_of xs)) c.deref-in-Switch.ensures.value)
    (c.in_ok-default_arm-in-Switch.ensures w is)
    ∙ ap (λ s. stmt_by w (stmt_of s)) (sym c.in-Switch.is)

-- the sides of a test are less deep than the test
first-less : (e : CExpr) (body otherwise : Vec Line Global) → most (λ x. line_size x) body.items < the_size (If e body otherwise)
first-less e body otherwise = search (rules, the_lemmas) depth 9 fits 4000

second-less : (e : CExpr) (body otherwise : Vec Line Global) → most (λ x. line_size x) otherwise.items < the_size (If e body otherwise)
second-less e body otherwise = search (rules, the_lemmas) depth 9 fits 4000

pub statement-lines-requires : goal.statement-lines-requires
statement-lines-requires g t c κs within =
    let less = first-less c.in-If.test c.in-If.body c.in-If.otherwise in
    let is = ap (λ x. the_size x) c.in-If.is in
    let lent = ap (λ l. most (λ x. line_size x) l) c.deref.ensures.value in
    let falls : 2 * most (λ x. line_size x) c.deref.result.now + 1 < t = omega (arith, c.decreases, less, is, lent) in
    (falls, within)

pub statement-lines-requires-in-If : goal.statement-lines-requires-in-If
statement-lines-requires-in-If g t c κs within =
    let less = second-less c.in-If.test c.in-If.body c.in-If.otherwise in
    let is = ap (λ x. the_size x) c.in-If.is in
    let lent = ap (λ l. most (λ x. line_size x) l) c.deref-in-If.ensures.value in
    let falls : 2 * most (λ x. line_size x) c.deref-in-If.result.now + 1 < t = omega (arith, c.decreases, less, is, lent) in
    (falls, within)
