use Rattle.std.proofs.Common.{◌≡◌, Some, take, get_or, sym, ◌∙◌, subst, rules}
use Rattle.std.proofs.lemmas.List.{take_more, take_all}
use Rattle.dcc_heights.specs.Search.{searched_procedure, node_in, of_step, IsGoing}
use Rattle.dcc_heights.proofs.Searching.{successor-reached, going-none, going-more, arrival-fault, followed}
use Rattle.dcc_heights.proofs.search.follow.Goals as goal

pub loop-to-init : goal.loop-to-init
loop-to-init c =
    going-none (searched_procedure c.args.proc.now c.args.framed c.args.removed.now.entries) c.args.heights.now.entries
    c.in_ok-after.after c.requires

pub loop-to-preserved : goal.loop-to-preserved
loop-to-preserved c =
    let reached =
    successor-reached _ c.args.heights.now.entries c.in-Some.at.now c.in-Some.height.now c.in_ok-after.after
    c.loop-to.to-index c.in-Some-get.node.now c.as_slice-to-items.result.now c.requires c.in-Some.ensures.value
    (sym c.in-Some-get.ensures.value) c.in_ok-after.ensures.step c.as_slice-to-items.ensures c.loop-to-test.true in
    let items = c.as_slice-to-items.result.now in
    let scene = searched_procedure c.args.proc.now c.args.framed c.args.removed.now.entries in
    let place = c.loop-to.to-index in
    subst (IsGoing scene c.args.heights.now.entries c.arrive.new.heights.entries c.in_ok-after.after)
    (sym (take_more items place 0 c.loop-to-test.true))
    (going-more scene c.args.heights.now.entries c.in_ok-after.after c.loop-to.heights.entries (take place items)
    (get_or items place 0) c.loop-to.invariant c.arrive.new.heights.entries reached c.in_ok-arrive.ensures.small
    c.in_ok-arrive.ensures.arrived)

pub returns-in_err-after-clause-refused : goal.returns-in_err-after-clause-refused
returns-in_err-after-clause-refused c =
    let scene = searched_procedure c.args.proc.now c.args.framed c.args.removed.now.entries in
    let at = c.in-Some.at.now in
    let is : node_in scene at ≡ Some c.in-Some-get.node.now = sym c.in-Some-get.ensures.value in
    let named = of_step (c.requires.reached at c.in-Some.height.now c.in-Some.ensures.value) is
    c.in_err-after.ensures.refused in
    search rules

pub returns-in_err-arrive-clause-refused : goal.returns-in_err-arrive-clause-refused
returns-in_err-arrive-clause-refused c =
    let reached =
    successor-reached _ c.args.heights.now.entries c.in-Some.at.now c.in-Some.height.now c.in_ok-after.after
    c.loop-to.to-index c.in-Some-get.node.now c.as_slice-to-items.result.now c.requires c.in-Some.ensures.value
    (sym c.in-Some-get.ensures.value) c.in_ok-after.ensures.step c.as_slice-to-items.ensures c.loop-to-test.true in
    let named =
    arrival-fault (searched_procedure c.args.proc.now c.args.framed c.args.removed.now.entries)
    c.args.heights.now.entries
    c.in_ok-after.after c.loop-to.heights.entries (take c.loop-to.to-index c.as_slice-to-items.result.now)
    (get_or c.as_slice-to-items.result.now c.loop-to.to-index 0) c.loop-to.invariant c.in_err-arrive.field-0.0 reached
    c.in_err-arrive.ensures.refused in
    search rules

pub returns-clause-followed : goal.returns-clause-followed
returns-clause-followed c =
    let all = take_all c.loop-to.to-index c.as_slice-to-items.result.now c.loop-to-test.false in
    let scene = searched_procedure c.args.proc.now c.args.framed c.args.removed.now.entries in
    followed scene c.args.heights.now.entries c.in_ok-after.after c.loop-to.heights.entries c.args.place
    c.in-Some.at.now c.in-Some.height.now c.in-Some-get.node.now (sym c.in-Some.ensures.entry)
    (sym c.in-Some-get.ensures.value) c.in_ok-after.ensures.step
    (subst (IsGoing scene c.args.heights.now.entries c.loop-to.heights.entries c.in_ok-after.after)
    (all ∙ c.as_slice-to-items.ensures) c.loop-to.invariant)
