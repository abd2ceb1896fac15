use Rattle.std.proofs.Common.{ℕ, [], get_or, length, map, take, refl, sym, ap, ◌∙◌, subst, ◌<◌}
use Rattle.std.specs.Prelude.{nat_eq, IfSome}
use Rattle.std.specs.List.{position}
use Rattle.std.proofs.lemmas.List.{length-map}
use Rattle.std.proofs.lemmas.Simd.{splat_is_map}
use Rattle.dcc_control.specs.Cases.{with_case}
use Rattle.dcc_control.specs.GotoPlan as spec
use Rattle.dcc_control.proofs.TargetLaws.{case-step, distinct-apart}
use Rattle.dcc_control.proofs.goto_plan.case_lists.Goals as goal

pub loop-n-init : goal.loop-n-init
loop-n-init c =
    c.in_ok-lists.ensures
    ∙ splat_is_map (spec.distinct c.args.places.now) c.len.result [] (ap length (sym c.requires) ∙ sym c.len.ensures.len)

pub add_case-requires : goal.add_case-requires
add_case-requires c =
    let places = c.args.places.now in
    let targets = spec.distinct places in
    let held = λ (t : ℕ). spec.places_from 0 t (take c.loop-n.n places) in
    subst (λ k. IfSome c.get_index_of.result (λ i. i < k))
    (ap length c.requires
    ∙ sym (length-map targets held)
    ∙ ap length (sym c.loop-n.invariant)
    ∙ length-map c.loop-n.lists.items (λ list. list.items))
    c.get_index_of.ensures.within

pub loop-n-preserved : goal.loop-n-preserved
loop-n-preserved c =
    let places = c.args.places.now in
    let targets = spec.distinct places in
    let n = c.loop-n.n in
    let place = get_or places n 0 in
    let lists = map (λ list. list.items) c.loop-n.lists.items in
    c.in_ok-add_case.ensures
    ∙ ap (λ o. with_case o c.in_ok-case.case lists) (c.get_index_of.ensures.index ∙ ap (position (nat_eq place)) c.requires)
    ∙ ap (λ k. with_case (position (nat_eq place) targets) k lists) c.in_ok-case.ensures
    ∙ case-step places n place c.loop-n-test.true refl targets lists (distinct-apart places) c.loop-n.invariant
