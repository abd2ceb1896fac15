use Rattle.std.proofs.Common.{get_or, take, sym, ap, ◌∙◌}
use Rattle.std.specs.Prelude.{nat_eq}
use Rattle.std.proofs.lemmas.List.{take_more}
use Rattle.indexmap.specs.IndexSet.{insert_key}
use Rattle.dcc_control.specs.GotoPlan as spec
use Rattle.dcc_control.proofs.TargetLaws.{distinct-push}
use Rattle.dcc_control.proofs.goto_plan.distinct.Goals as goal

pub loop-place-preserved : goal.loop-place-preserved
loop-place-preserved c =
    let places = c.args.places.now in
    let k = c.loop-place.place-index in
    let place = get_or places k 0 in
    c.in_ok-insert.ensures.keys
    ∙ ap (λ l. insert_key nat_eq l place) c.loop-place.invariant
    ∙ sym (distinct-push (take k places) place)
    ∙ ap spec.distinct (sym (take_more places k 0 c.loop-place-test.true))
