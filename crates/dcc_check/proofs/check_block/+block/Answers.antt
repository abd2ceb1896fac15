use Rattle.std.proofs.Common.{◌≡◌, suc, ◌+◌, ◌-◌, ◌<◌, ◌++◌, [], false, length, drop, OnOk, refl, sym, ap, subst, ◌∙◌, append_assoc, arith}
use Rattle.std.specs.Prelude.{nat_lt}
use Rattle.dcc_c.specs.Kinds.{of_depth, offence, only_if, first_after}
use Rattle.dcc_c.specs.Offences.{own_offences, lines_offences, inner_offences, arms_inner, case_offences, case_numbers, default_offences}
use Rattle.dcc_c.proofs.refusals.FirstRules.{first-append}
use Rattle.dcc_reader.specs.PartialViews.{stmt_of, lines_of, arms_of}
use Rattle.dcc_reader.proofs.RowLaws.{arm-left, if-tree, while-tree, do_while-tree, forever-tree, switch-tree}
use Rattle.dcc_reader.specs.Told.{told}
use Rattle.dcc_check.proofs.TellLaws.{step-told, then-told}
use Rattle.dcc_reader.proofs.LeftLaws.{next-left}
use Rattle.dcc_check.proofs.ListLaws.{room-out}
use Rattle.dcc_check.proofs.check_block.+block.Goals as goal

pub check_lines-loop-row-preserved : goal.check_lines-loop-row-preserved
check_lines-loop-row-preserved t c = λ s blocks is room.
    let rows = c.args.rows.now in
    let i = c.loop-row.row-index in
    let within : i < length rows = omega arith in
    let r = c.row-item.result in
    let stmt = stmt_of r.stmt in
    let depth = only_if (nat_lt 200 blocks) (offence of_depth r.at) in
    let own = own_offences s r.at stmt in
    let inner = inner_offences s (suc blocks) stmt in
    let rest = lines_offences s blocks (lines_of (drop (i + 1) rows)) in
    let whole = lines_offences s blocks (lines_of (drop i rows)) in
    let start = told c.loop-row.first in
    let after_depth = told c.tell_if.new.self in
    let after_own = told c.check_own.new.first in
    let after_inner = told c.check_inner.new.first in
    let end = first_after (told c.args.first.now) (lines_offences s blocks (lines_of rows)) in
    let depth_told = c.tell_if.ensures ∙ ap (λ test. first_after start (only_if test (offence of_depth r.at))) (room-out c.args.room blocks room) in
    let inside : c.saturating_sub.result ≡ 201 - suc blocks = omega (arith, c.saturating_sub.ensures, room) in
    let parts = next-left (λ l. lines_offences s blocks (lines_of l)) rows i r within c.row-item.is in
    step-told after_own after_inner end inner rest (inner ++ rest) (c.in_ok-check_inner.ensures s (suc blocks) is inside) refl
    (step-told after_depth after_own end own (inner ++ rest) (own ++ (inner ++ rest)) (c.check_own.ensures s is) refl
    (step-told start after_depth end depth (own ++ (inner ++ rest)) whole depth_told parts (c.loop-row.invariant s blocks is room)))

pub check_arms-loop-arm-preserved : goal.check_arms-loop-arm-preserved
check_arms-loop-arm-preserved t c = λ s blocks is room.
    let arms = c.args.arms.now in
    let i = c.loop-arm.arm-index in
    let rest = arms_of (drop (i + 1) arms) in
    let parts =
    arm-left (arms_inner s blocks) arms i c.arm-item.result (omega arith) c.arm-item.is
    ∙ ap (λ l. lines_offences s blocks (lines_of l) ++ arms_inner s blocks rest) (sym c.deref.ensures.value) in
    step-told (told c.loop-arm.first) (told c.check_lines.new.first) (first_after (told c.args.first.now) (arms_inner s blocks (arms_of arms)))
    (lines_offences s blocks (lines_of c.deref.result.now)) (arms_inner s blocks rest) (arms_inner s blocks (arms_of (drop i arms)))
    (c.in_ok-check_lines.ensures s blocks is room) parts (c.loop-arm.invariant s blocks is room)

pub check_inner-returns-in_ok-check_lines-in-If : goal.check_inner-returns-in_ok-check_lines-in-If
check_inner-returns-in_ok-check_lines-in-If t c = λ s blocks is room.
    let start = told c.args.first.now in
    let body = lines_offences s blocks (lines_of c.deref.result.now) in
    let otherwise = lines_offences s blocks (lines_of c.deref-in-If.result.now) in
    let tree =
    ap (λ l. lines_offences s blocks (lines_of l) ++ otherwise) c.deref.ensures.value
    ∙ ap (λ l. lines_offences s blocks (lines_of c.in-If.body.items) ++ lines_offences s blocks (lines_of l)) c.deref-in-If.ensures.value
    ∙ sym (ap (inner_offences s blocks) (if-tree c.in-If.field-0 c.in-If.field-1 c.in-If.body c.in-If.otherwise))
    ∙ ap (λ stmt. inner_offences s blocks (stmt_of stmt)) (sym c.in-If.is) in
    subst (λ o. OnOk c.check_lines-in-If.result (told c.check_lines-in-If.new.first ≡ o))
    (ap (λ o. first_after o otherwise) (c.in_ok-check_lines-in-If.ensures s blocks is room) ∙ sym (first-append start body otherwise) ∙ ap (first_after start) tree)
    (c.check_lines-in-If.ensures s blocks is room)

pub check_inner-returns-in-While : goal.check_inner-returns-in-While
check_inner-returns-in-While t c = λ s blocks is room.
    let tree =
    ap (λ l. lines_offences s blocks (lines_of l)) c.deref-in-While.ensures.value
    ∙ sym (ap (inner_offences s blocks) (while-tree c.in-While.field-0 c.in-While.field-1 c.in-While.body))
    ∙ ap (λ stmt. inner_offences s blocks (stmt_of stmt)) (sym c.in-While.is) in
    subst (λ l. OnOk c.check_lines-in-While.result (told c.check_lines-in-While.new.first ≡ first_after (told c.args.first.now) l)) tree (c.check_lines-in-While.ensures s blocks is room)

pub check_inner-returns-in-DoWhile : goal.check_inner-returns-in-DoWhile
check_inner-returns-in-DoWhile t c = λ s blocks is room.
    let tree =
    ap (λ l. lines_offences s blocks (lines_of l)) c.deref-in-DoWhile.ensures.value
    ∙ sym (ap (inner_offences s blocks) (do_while-tree c.in-DoWhile.field-1 c.in-DoWhile.field-2 c.in-DoWhile.body))
    ∙ ap (λ stmt. inner_offences s blocks (stmt_of stmt)) (sym c.in-DoWhile.is) in
    subst (λ l. OnOk c.check_lines-in-DoWhile.result (told c.check_lines-in-DoWhile.new.first ≡ first_after (told c.args.first.now) l)) tree (c.check_lines-in-DoWhile.ensures s blocks is room)

pub check_inner-returns-in-Forever : goal.check_inner-returns-in-Forever
check_inner-returns-in-Forever t c = λ s blocks is room.
    let tree =
    ap (λ l. lines_offences s blocks (lines_of l)) c.deref-in-Forever.ensures.value
    ∙ sym (ap (inner_offences s blocks) (forever-tree c.in-Forever.body))
    ∙ ap (λ stmt. inner_offences s blocks (stmt_of stmt)) (sym c.in-Forever.is) in
    subst (λ l. OnOk c.check_lines-in-Forever.result (told c.check_lines-in-Forever.new.first ≡ first_after (told c.args.first.now) l)) tree (c.check_lines-in-Forever.ensures s blocks is room)

pub check_inner-returns-in_ok-check_cases-in-Switch : goal.check_inner-returns-in_ok-check_cases-in-Switch
check_inner-returns-in_ok-check_cases-in-Switch t c = λ s blocks is room.
    let start = told c.args.first.now in
    let after_cases = told c.check_cases.new.first in
    let arms = arms_of c.in-Switch.arms.items in
    let repeated = case_offences [] (case_numbers arms) in
    let defaults = default_offences false arms in
    let inner = arms_inner s blocks arms in
    let cases_told = c.in_ok-check_cases-in-Switch.ensures ∙ ap (λ l. first_after start (case_offences [] (case_numbers (arms_of l)))) c.deref-in-Switch.ensures.value in
    let defaults_told = c.check_defaults.ensures ∙ ap (λ l. first_after after_cases (default_offences false (arms_of l))) c.deref-in-Switch-2.ensures.value in
    let both_told = then-told start after_cases (told c.check_defaults.new.first) repeated defaults cases_told defaults_told in
    let tree =
    append_assoc repeated defaults inner
    ∙ sym (ap (inner_offences s blocks) (switch-tree c.in-Switch.field-0 c.in-Switch.field-1 c.in-Switch.arms))
    ∙ ap (λ stmt. inner_offences s blocks (stmt_of stmt)) (sym c.in-Switch.is) in
    subst (λ o. OnOk c.check_arms.result (told c.check_arms.new.first ≡ o))
    (ap (λ l. first_after (told c.check_defaults.new.first) (arms_inner s blocks (arms_of l))) c.deref-in-Switch-3.ensures.value
    ∙ ap (λ o. first_after o inner) both_told
    ∙ sym (first-append start (repeated ++ defaults) inner)
    ∙ ap (first_after start) tree)
    (c.check_arms.ensures s blocks is room)
