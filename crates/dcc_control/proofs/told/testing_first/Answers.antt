use Rattle.std.proofs.Common.{[], ◌∷◌, ◌++◌, Vec, Global, Some, sym, ap, ap₂, ◌∙◌, arith}
use Rattle.std.specs.Prelude.{if◌then◌else◌}
use Rattle.std.specs.Option.{option_to_list}
use Rattle.std.proofs.lemmas.List.{nil_from_length}
use Rattle.dcc_control.specs.declared.item.Item.{Item as TheItem}
use Rattle.dcc_control.specs.Told as spec
use Rattle.dcc_control.specs.Views.{plan_before, plan_of}
use Rattle.dcc_control.proofs.ItemRows.{while-item, plan_before-append}
use Rattle.dcc_control.proofs.ToldTests.{first-loop}
use Rattle.dcc_control.proofs.told.testing_first.Goals as goal

pub loop-item-preserved : goal.loop-item-preserved
loop-item-preserved c =
    let l = c.loop-item in
    let rest = plan_of c.next-in-loop-item.new.self.rest.items in
    ap (λ items. plan_before items rest) c.in_ok-push.ensures.items
    ∙ plan_before-append l.items.items (c.in-Some.item ∷ []) rest
    ∙ ap (λ items. plan_before l.items.items (plan_of items)) (sym c.in-Some.ensures.steps.0)
    ∙ l.invariant

pub returns : goal.returns
returns c i rest whole tests =
    let s = c.in-Some-If in
    let l = c.loop-item in
    let left = c.next.new.self.rest.items in
    let over = l.item-iterator.rest in
    let begun = sym c.into_iter-rest.ensures.rest ∙ c.next.ensures.items ∙ ap (λ o. option_to_list o ++ left) s.is in
    let same = ap (λ it. it.rest.items) c.into_iter-item-iterator.ensures.into_iter_gives in
    let none = nil_from_length over.items (omega (arith, over.ok.0, c.in-None.ensures.steps.0)) in
    let on-is = c.only_breaks-on.ensures ∙ ap (λ items. spec.only_breaks (plan_of items)) (c.deref.ensures.value ∙ ap (λ (v : Vec TheItem Global). v.items) s.other-is) in
    let start-is = c.one_of-items.ensures ∙ ap₂ (λ (v w : Vec TheItem Global). if c.only_breaks-on.result then v.items else w.items) s.one-is s.other-is in
    first-loop c.args.b s.field-0-0 s.field-0 s.one s.other left c.one_of-items.result.items l.items.items c.only_breaks-on.result i rest s.field-0-is
    (sym (ap plan_of begun) ∙ whole) tests on-is start-is
    (ap (λ items. plan_before l.items.items (plan_of items)) (sym none) ∙ l.invariant ∙ ap (λ items. plan_before c.one_of-items.result.items (plan_of items)) same)
    ∙ ap Some (sym (while-item c.only_breaks-on.result c.args.b l.items))
