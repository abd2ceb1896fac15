use Rattle.std.proofs.Common.{◌≡◌, true, false, Some, sym, ap, ◌∙◌}
use Rattle.std.specs.List.{slice_get}
use Rattle.std.proofs.lemmas.Result.{IfOk-weaker}
use Rattle.dcc_control.specs.Plan.{For}
use Rattle.dcc_control.specs.Told as spec
use Rattle.dcc_control.specs.Views.{item_of, plan_of}
use Rattle.dcc_control.proofs.ItemRows.{for-item}
use Rattle.dcc_control.proofs.ToldTests.{begun-plan, told-first, told-otherwise, told-nothing}
use Rattle.dcc_control.proofs.told.told_loop.Goals as goal

pub returns-in_default : goal.returns-in_default
returns-in_default c known =
    for-item c.args.b c.args.body ∙ sym (told-nothing c.args.b c.args.body.items (c.in_default.ensures.value ∙ ap (λ l. slice_get l 0) c.deref.ensures.value))

pub returns-then-tests_first : goal.returns-then-tests_first
returns-then-tests_first c known =
    let b = c.args.b in
    let i = item_of c.in-Some.first.now in
    let (left, whole) = begun-plan c.args.body.items c.deref.result.now c.in-Some.first.now c.in-Some.ensures.value c.deref.ensures.value in
    let rest = plan_of left in
    IfOk-weaker c.testing_first.result (λ loop. spec.tests_first b i rest ≡ Some (item_of loop)) (λ loop. item_of loop ≡ spec.told_loop b (plan_of c.args.body.items))
    (λ loop is. sym (ap (spec.told_loop b) whole ∙ told-first b i rest (item_of loop) is))
    (c.testing_first.ensures i rest whole (sym (c.tests_first.ensures rest) ∙ c.if-tests_first.true))

pub returns-then-is_of : goal.returns-then-is_of
returns-then-is_of c known =
    let b = c.args.b in
    let i = item_of c.in-Some.first.now in
    let (left, whole) = begun-plan c.args.body.items c.deref.result.now c.in-Some.first.now c.in-Some.ensures.value c.deref.ensures.value in
    let rest = plan_of left in
    c.testing_last.ensures i rest whole (known ∙ ap spec.continues whole)
    ∙ sym (ap (spec.told_loop b) whole ∙ told-otherwise b i rest true (sym (c.tests_first.ensures rest) ∙ c.if-tests_first.false) (sym c.is_of.ensures ∙ c.if-is_of.true))

pub returns-else-is_of : goal.returns-else-is_of
returns-else-is_of c known =
    let b = c.args.b in
    let i = item_of c.in-Some.first.now in
    let (left, whole) = begun-plan c.args.body.items c.deref.result.now c.in-Some.first.now c.in-Some.ensures.value c.deref.ensures.value in
    let rest = plan_of left in
    for-item b c.args.body ∙ ap (For b) whole
    ∙ sym (ap (spec.told_loop b) whole ∙ told-otherwise b i rest false (sym (c.tests_first.ensures rest) ∙ c.if-tests_first.false) (sym c.is_of.ensures ∙ c.if-is_of.false))
