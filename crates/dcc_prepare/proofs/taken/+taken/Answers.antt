use Rattle.std.proofs.Common.{◌≡◌, ℕ, ◌+◌, ◌<◌, List, drop, length, get_or, ◌++◌, refl, sym, ap, ◌∙◌, subst, append_assoc, arith}
use Rattle.std.specs.Prelude.{OnOk}
use Rattle.std.proofs.lemmas.List.{at_drop_more, append-nil}
use Rattle.dcc_c.specs.declared.syntax.Line.{Line}
use Rattle.dcc_c.specs.declared.syntax.Arm.{Arm, out-Arm}
use Rattle.dcc_c.specs.Tree.{Word, no_arms, arm}
use Rattle.dcc_c.specs.Views.{expr_of, stmt_of, lines_of, arms_of, arm_before, arms_if}
use Rattle.dcc_prepare.specs.Taken.{lent_words, expr_taken, stmt_taken, lines_taken, arms_taken}
use Rattle.dcc_c.proofs.RowLaws.{arm-parts, if-tree, while-tree, do_while-tree, forever-tree, switch-tree}
use Rattle.dcc_prepare.proofs.taken.+taken.Goals as goal

-- two pieces, one after the other
joined : (old mid first second all : List Word) → mid ≡ old ++ first → first ++ second ≡ all → mid ++ second ≡ old ++ all
joined old mid first second all is same =
    ap (λ m. m ++ second) is ∙ append_assoc old first second ∙ ap (λ l. old ++ l) same

-- the arm at this place, before those after it
arm_step : (arms : List Arm) (i : ℕ) (a : Arm) → i < length arms → a ≡ get_or arms i a →
    arms_taken (arms_of (drop i arms)) ≡ lines_taken (lines_of (out-Arm a).body.items) ++ arms_taken (arms_of (drop (i + 1) arms))
arm_step arms i a within is =
    at_drop_more (λ l. arms_taken (arms_of l)) arms i a within
    ∙ ap (λ x. arms_taken (arm_before x (arms_of (drop (i + 1) arms)))) (sym is)
    ∙ ap arms_taken (arm-parts a (arms_of (drop (i + 1) arms)))

pub push_arms-loop-arm-preserved : goal.push_arms-loop-arm-preserved
push_arms-loop-arm-preserved t c =
    let arms = c.args.arms.now in
    let i = c.loop-arm.arm-index in
    let had = lent_words c.loop-arm.names.items in
    joined had (lent_words c.push_lines.new.names.items) (lines_taken (lines_of c.deref.result.now)) (arms_taken (arms_of (drop (i + 1) arms))) _
    c.in_ok-push_lines.ensures
    (ap (λ ls. lines_taken (lines_of ls) ++ arms_taken (arms_of (drop (i + 1) arms))) c.deref.ensures.value
    ∙ sym (arm_step arms i c.arm-item.result (omega arith) c.arm-item.is))
    ∙ c.loop-arm.invariant

pub push_default-returns-in-Some : goal.push_default-returns-in-Some
push_default-returns-in-Some t c =
    let same =
    sym (append-nil (lines_taken (lines_of c.deref.result.now)))
    ∙ ap arms_taken
    (ap (λ (ls : List Line). arm (out-Arm c.in-Some.arm).cases.items (lines_of ls) no_arms) c.deref.ensures.value
    ∙ sym (arm-parts c.in-Some.arm no_arms)
    ∙ ap arms_if (sym c.in-Some.is)) in
    subst (λ l. OnOk c.push_lines.result (lent_words c.push_lines.new.names.items ≡ lent_words c.args.names.now.items ++ l)) same c.push_lines.ensures

pub push_stmt-returns-in-Forever : goal.push_stmt-returns-in-Forever
push_stmt-returns-in-Forever t c =
    let same =
    ap (λ ls. lines_taken (lines_of ls)) c.deref-in-Forever.ensures.value
    ∙ ap stmt_taken (sym (forever-tree c.in-Forever.body) ∙ ap stmt_of (sym c.in-Forever.is)) in
    subst (λ l. OnOk c.push_lines-in-Forever.result (lent_words c.push_lines-in-Forever.new.names.items ≡ lent_words c.args.names.now.items ++ l)) same c.push_lines-in-Forever.ensures

pub push_stmt-returns-in_ok-push_expr-in-While : goal.push_stmt-returns-in_ok-push_expr-in-While
push_stmt-returns-in_ok-push_expr-in-While t c =
    let e = expr_taken (expr_of c.in-While.e) in
    let same =
    ap (λ ls. e ++ lines_taken (lines_of ls)) c.deref-in-While.ensures.value
    ∙ ap stmt_taken (sym (while-tree c.in-While.e c.in-While.body) ∙ ap stmt_of (sym c.in-While.is)) in
    subst (λ l. OnOk c.push_lines-in-While.result (lent_words c.push_lines-in-While.new.names.items ≡ l))
    (joined (lent_words c.args.names.now.items) (lent_words c.push_expr-in-While.new.names.items) e _ _ c.in_ok-push_expr-in-While.ensures same)
    c.push_lines-in-While.ensures

pub push_stmt-returns-in_ok-push_expr-in-DoWhile : goal.push_stmt-returns-in_ok-push_expr-in-DoWhile
push_stmt-returns-in_ok-push_expr-in-DoWhile t c =
    let e = expr_taken (expr_of c.in-DoWhile.e) in
    let same =
    ap (λ ls. e ++ lines_taken (lines_of ls)) c.deref-in-DoWhile.ensures.value
    ∙ ap stmt_taken (sym (do_while-tree c.in-DoWhile.e c.in-DoWhile.body) ∙ ap stmt_of (sym c.in-DoWhile.is)) in
    subst (λ l. OnOk c.push_lines-in-DoWhile.result (lent_words c.push_lines-in-DoWhile.new.names.items ≡ l))
    (joined (lent_words c.args.names.now.items) (lent_words c.push_expr-in-DoWhile.new.names.items) e _ _ c.in_ok-push_expr-in-DoWhile.ensures same)
    c.push_lines-in-DoWhile.ensures

pub push_stmt-returns-in_ok-push_lines-in-If : goal.push_stmt-returns-in_ok-push_lines-in-If
push_stmt-returns-in_ok-push_lines-in-If t c =
    let e = expr_taken (expr_of c.in-If.e) in
    let body = lines_taken (lines_of c.deref-in-If.result.now) in
    let otherwise = lines_taken (lines_of c.deref-in-If-2.result.now) in
    let same =
    ap (λ ls. e ++ (lines_taken (lines_of ls) ++ otherwise)) c.deref-in-If.ensures.value
    ∙ ap (λ ls. e ++ (lines_taken (lines_of c.in-If.body.items) ++ lines_taken (lines_of ls))) c.deref-in-If-2.ensures.value
    ∙ ap stmt_taken (sym (if-tree c.in-If.e c.in-If.body c.in-If.otherwise) ∙ ap stmt_of (sym c.in-If.is)) in
    subst (λ l. OnOk c.push_lines-in-If.result (lent_words c.push_lines-in-If.new.names.items ≡ l))
    (joined (lent_words c.push_expr-in-If.new.names.items) (lent_words c.push_lines.new.names.items) body otherwise _ c.in_ok-push_lines-in-If.ensures refl
    ∙ joined (lent_words c.args.names.now.items) (lent_words c.push_expr-in-If.new.names.items) e (body ++ otherwise) _ c.in_ok-push_expr-in-If.ensures same)
    c.push_lines-in-If.ensures

pub push_stmt-returns-in_ok-push_arms-in-Switch : goal.push_stmt-returns-in_ok-push_arms-in-Switch
push_stmt-returns-in_ok-push_arms-in-Switch t c =
    let e = expr_taken (expr_of c.in-Switch.e) in
    let arms = arms_taken (arms_of c.deref-in-Switch.result.now) in
    let last = arms_taken (arms_if c.in-Switch.last) in
    let same =
    ap (λ ls. e ++ (arms_taken (arms_of ls) ++ last)) c.deref-in-Switch.ensures.value
    ∙ ap stmt_taken (sym (switch-tree c.in-Switch.e c.in-Switch.arms c.in-Switch.last) ∙ ap stmt_of (sym c.in-Switch.is)) in
    subst (λ l. OnOk c.push_default.result (lent_words c.push_default.new.names.items ≡ l))
    (joined (lent_words c.push_expr-in-Switch.new.names.items) (lent_words c.push_arms.new.names.items) arms last _ c.in_ok-push_arms-in-Switch.ensures refl
    ∙ joined (lent_words c.args.names.now.items) (lent_words c.push_expr-in-Switch.new.names.items) e (arms ++ last) _ c.in_ok-push_expr-in-Switch.ensures same)
    c.push_default.ensures
