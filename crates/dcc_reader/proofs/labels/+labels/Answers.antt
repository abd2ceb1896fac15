use Rattle.std.proofs.Common.{◌≡◌, ◌+◌, ◌<◌, ◌++◌, length, map, drop, OnOk, sym, ap, subst, ◌∙◌, append_assoc, arith}
use Rattle.dcc_c.specs.Offences.{label_list, labels_of, labels_in_arms}
use Rattle.dcc_reader.specs.PartialViews.{stmt_of, lines_of, arms_of}
use Rattle.dcc_reader.proofs.RowLaws.{arm-left, if-tree, while-tree, do_while-tree, forever-tree, switch-tree}
use Rattle.dcc_reader.specs.WordViews.{lent_word}
use Rattle.dcc_reader.proofs.LeftLaws.{next-left, step-listed}
use Rattle.dcc_reader.proofs.labels.+labels.Goals as goal

pub push_labels-loop-row-preserved : goal.push_labels-loop-row-preserved
push_labels-loop-row-preserved t c =
    let rows = c.args.rows.now in
    let i = c.loop-row.row-index in
    let within : i < length rows = omega arith in
    let r = c.row-item.result in
    step-listed (map lent_word c.loop-row.found.items) (map lent_word c.push_labels_of.new.found.items) (map lent_word c.args.found.now.items ++ label_list (lines_of rows))
    (labels_of (stmt_of r.stmt)) (label_list (lines_of (drop (i + 1) rows))) (label_list (lines_of (drop i rows)))
    c.in_ok-push_labels_of.ensures (next-left (λ l. label_list (lines_of l)) rows i r within c.row-item.is) c.loop-row.invariant

pub push_arm_labels-loop-arm-preserved : goal.push_arm_labels-loop-arm-preserved
push_arm_labels-loop-arm-preserved t c =
    let arms = c.args.arms.now in
    let i = c.loop-arm.arm-index in
    let rest = arms_of (drop (i + 1) arms) in
    let parts =
    arm-left labels_in_arms arms i c.arm-item.result (omega arith) c.arm-item.is
    ∙ ap (λ l. label_list (lines_of l) ++ labels_in_arms rest) (sym c.deref.ensures.value) in
    step-listed (map lent_word c.loop-arm.found.items) (map lent_word c.push_labels.new.found.items) (map lent_word c.args.found.now.items ++ labels_in_arms (arms_of arms))
    (label_list (lines_of c.deref.result.now)) (labels_in_arms rest) (labels_in_arms (arms_of (drop i arms)))
    c.in_ok-push_labels.ensures parts c.loop-arm.invariant

pub push_labels_of-returns-in_ok-push_labels-in-If : goal.push_labels_of-returns-in_ok-push_labels-in-If
push_labels_of-returns-in_ok-push_labels-in-If t c =
    let old = map lent_word c.args.found.now.items in
    let body = label_list (lines_of c.deref.result.now) in
    let otherwise = label_list (lines_of c.deref-in-If.result.now) in
    let tree =
    ap (λ l. label_list (lines_of l) ++ otherwise) c.deref.ensures.value
    ∙ ap (λ l. label_list (lines_of c.in-If.body.items) ++ label_list (lines_of l)) c.deref-in-If.ensures.value
    ∙ sym (ap labels_of (if-tree c.in-If.field-0 c.in-If.field-1 c.in-If.body c.in-If.otherwise))
    ∙ ap (λ stmt. labels_of (stmt_of stmt)) (sym c.in-If.is) in
    subst (λ l. OnOk c.push_labels-in-If.result (map lent_word c.push_labels-in-If.new.found.items ≡ l))
    (ap (λ l. l ++ otherwise) c.in_ok-push_labels-in-If.ensures ∙ append_assoc old body otherwise ∙ ap (λ l. old ++ l) tree)
    c.push_labels-in-If.ensures

pub push_labels_of-returns-in-While : goal.push_labels_of-returns-in-While
push_labels_of-returns-in-While t c =
    let tree =
    ap (λ l. label_list (lines_of l)) c.deref-in-While.ensures.value
    ∙ sym (ap labels_of (while-tree c.in-While.field-0 c.in-While.field-1 c.in-While.body))
    ∙ ap (λ stmt. labels_of (stmt_of stmt)) (sym c.in-While.is) in
    subst (λ l. OnOk c.push_labels-in-While.result (map lent_word c.push_labels-in-While.new.found.items ≡ map lent_word c.args.found.now.items ++ l)) tree c.push_labels-in-While.ensures

pub push_labels_of-returns-in-DoWhile : goal.push_labels_of-returns-in-DoWhile
push_labels_of-returns-in-DoWhile t c =
    let tree =
    ap (λ l. label_list (lines_of l)) c.deref-in-DoWhile.ensures.value
    ∙ sym (ap labels_of (do_while-tree c.in-DoWhile.field-1 c.in-DoWhile.field-2 c.in-DoWhile.body))
    ∙ ap (λ stmt. labels_of (stmt_of stmt)) (sym c.in-DoWhile.is) in
    subst (λ l. OnOk c.push_labels-in-DoWhile.result (map lent_word c.push_labels-in-DoWhile.new.found.items ≡ map lent_word c.args.found.now.items ++ l)) tree c.push_labels-in-DoWhile.ensures

pub push_labels_of-returns-in-Forever : goal.push_labels_of-returns-in-Forever
push_labels_of-returns-in-Forever t c =
    let tree =
    ap (λ l. label_list (lines_of l)) c.deref-in-Forever.ensures.value
    ∙ sym (ap labels_of (forever-tree c.in-Forever.body))
    ∙ ap (λ stmt. labels_of (stmt_of stmt)) (sym c.in-Forever.is) in
    subst (λ l. OnOk c.push_labels-in-Forever.result (map lent_word c.push_labels-in-Forever.new.found.items ≡ map lent_word c.args.found.now.items ++ l)) tree c.push_labels-in-Forever.ensures

pub push_labels_of-returns-in-Switch : goal.push_labels_of-returns-in-Switch
push_labels_of-returns-in-Switch t c =
    let tree =
    ap (λ l. labels_in_arms (arms_of l)) c.deref-in-Switch.ensures.value
    ∙ sym (ap labels_of (switch-tree c.in-Switch.field-0 c.in-Switch.field-1 c.in-Switch.arms))
    ∙ ap (λ stmt. labels_of (stmt_of stmt)) (sym c.in-Switch.is) in
    subst (λ l. OnOk c.push_arm_labels.result (map lent_word c.push_arm_labels.new.found.items ≡ map lent_word c.args.found.now.items ++ l)) tree c.push_arm_labels.ensures
