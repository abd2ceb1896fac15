use Rattle.std.proofs.Common.{◌+◌, ◌≤◌, length, map, drop, sym, ap, ap₂, ◌∙◌, arith}
use Rattle.std.proofs.lemmas.List.{drop_all}
use Rattle.dcc_control.specs.GotoPlan as spec
use Rattle.dcc_control.specs.Plan.{arm}
use Rattle.dcc_control.proofs.GotoSteps.{targets-step, cases-read}
use Rattle.dcc_control.proofs.ItemRows.{arms_before, arms_before-append, arms_before-none}
use Rattle.dcc_control.proofs.goto_plan.target_arms.Goals as goal

pub loop-i-preserved : goal.loop-i-preserved
loop-i-preserved c =
    let places = c.args.places.now in
    let targets = c.as_slice-targets.result.now in
    let i = c.loop-i.i in
    let arms = c.loop-i.arms.items in
    let rest = spec.target_arms places (drop (i + 1) targets) in
    let are = c.as_slice-targets.ensures.keys ∙ c.in_ok-targets.ensures in
    let held = c.in_ok-lists.ensures ∙ ap (λ l. map (λ t. spec.places_from 0 t places) l) (sym are) in
    let cases =
    c.in_ok-cases.ensures.items_if_clones_equal (λ x y same. same)
    ∙ c.as_slice.ensures.value
    ∙ cases-read c.in_ok-lists.lists.items c.index.result.now targets places i held c.loop-i-test.true c.index.ensures in
    ap (λ l. arms_before l rest) c.in_ok-push.ensures.items
    ∙ arms_before-append arms _ rest
    ∙ ap₂ (λ l plan. arms_before arms (arm l plan rest)) cases c.in_ok-body.ensures
    ∙ ap (arms_before arms) (sym (targets-step places i targets c.loop-i-test.true))
    ∙ c.loop-i.invariant

pub returns : goal.returns
returns c =
    let places = c.args.places.now in
    let targets = c.as_slice-targets.result.now in
    let i = c.loop-i.i in
    let arms = c.loop-i.arms.items in
    let over : length targets ≤ i = omega arith in
    sym (arms_before-none arms)
    ∙ ap (λ l. arms_before arms (spec.target_arms places l)) (sym (drop_all i targets over))
    ∙ c.loop-i.invariant
