use Rattle.std.proofs.Common.{true, false, sym, ap, ◌∙◌, length, arith}
use Rattle.dcc_control.specs.Plan.{For, DoWhile}
use Rattle.dcc_control.specs.Views.{plan_of, leaving_in}
use Rattle.dcc_control.proofs.ItemRows.{for-item, do-item}
use Rattle.dcc_control.proofs.ToldTests.{empty-list, last-stays, last-test, last-continues, front-taken}
use Rattle.dcc_control.proofs.told.testing_last.Goals as goal

pub returns-in_default-as_leaving : goal.returns-in_default-as_leaving
returns-in_default-as_leaving c i rest whole found =
    let s = c.in-Some in
    let b = c.args.b in
    let ends = sym c.deref.ensures.value ∙ s.ensures.cases.0 in
    for-item b c.args.body ∙ ap (For b) whole
    ∙ sym (last-stays b s.field-0-1.now s.last.now i rest (sym (ap plan_of ends) ∙ whole) (sym c.in_default-as_leaving.ensures))

pub returns-then-continues : goal.returns-then-continues
returns-then-continues c i rest whole found =
    let s = c.in-Some in
    let b = c.args.b in
    let ends = sym c.deref.ensures.value ∙ s.ensures.cases.0 in
    for-item b c.args.body ∙ ap (For b) whole
    ∙ sym (last-continues b s.field-0-1.now s.last.now i rest (leaving_in c.in-Some-as_leaving.test) (sym (ap plan_of ends) ∙ whole) (sym c.in-Some-as_leaving.ensures)
    (sym found ∙ c.if-continues.true))

pub returns-then-not-is_empty : goal.returns-then-not-is_empty
returns-then-not-is_empty c i rest whole found =
    let s = c.in-Some in
    let b = c.args.b in
    let test = c.in-Some-as_leaving.test in
    let ends = sym c.deref.ensures.value ∙ s.ensures.cases.0 in
    for-item b c.args.body ∙ ap (For b) whole
    ∙ sym (last-test b s.field-0-1.now s.last.now i rest (leaving_in test) false false (sym (ap plan_of ends) ∙ whole) (sym c.in-Some-as_leaving.ensures)
    (empty-list test.goes_on.now ∙ sym c.is_empty.ensures ∙ c.if-not-is_empty.true) (sym found ∙ c.if-continues.false))

pub returns : goal.returns
returns c i rest whole found =
    let s = c.in-Some in
    let b = c.args.b in
    let body = c.args.body in
    let test = c.in-Some-as_leaving.test in
    let ends = sym c.deref.ensures.value ∙ s.ensures.cases.0 in
    let popped =
    c.pop.ensures.rest ∙ front-taken body.items s.field-0-1.now s.last.now _ ends (omega (arith, body.ok.0, ap length c.deref.ensures.value, s.ensures.cases.1)) in
    do-item test.on test.block b c.pop.new.self ∙ ap (λ items. DoWhile test.on test.block b (plan_of items)) popped
    ∙ sym (last-test b s.field-0-1.now s.last.now i rest (leaving_in test) true false (sym (ap plan_of ends) ∙ whole) (sym c.in-Some-as_leaving.ensures)
    (empty-list test.goes_on.now ∙ sym c.is_empty.ensures ∙ c.if-not-is_empty.false) (sym found ∙ c.if-continues.false))
