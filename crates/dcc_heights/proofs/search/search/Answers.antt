use Rattle.std.proofs.Common.{◌<◌, ◌≤◌, length, subst, rules, arith}
use Rattle.dcc_heights.specs.Search.{searched_procedure, IsArrived, IsArrivalFault}
use Rattle.dcc_heights.proofs.Searching.{reached-start, start-fault, searched-none, searched-more, searched-all, few-reached}
use Rattle.dcc_heights.proofs.search.search.Goals as goal

pub loop-next-init : goal.loop-next-init
loop-next-init c =
    let scene = searched_procedure c.args.proc.now c.args.framed c.args.removed.now.entries in
    let heights = c.arrive.new.heights.entries in
    let arrived =
    subst (λ old. IsArrived old heights scene.entry 0) c.new-heights.ensures.empty c.in_ok-arrive.ensures.arrived in
    searched-none scene heights (reached-start scene heights c.in_ok-arrive.ensures.small arrived)

pub loop-next-preserved : goal.loop-next-preserved
loop-next-preserved c =
    let scene = searched_procedure c.args.proc.now c.args.framed c.args.removed.now.entries in
    let old = c.loop-next.heights.entries in
    let inside : c.loop-next.next < length old =
    (let test = c.loop-next-test.true in let len = c.len.ensures.len in omega (arith, test, len)) in
    searched-more scene old c.follow.new.heights.entries c.loop-next.next c.loop-next.invariant inside
    c.in_ok-follow.ensures.followed

pub loop-next-smaller : goal.loop-next-smaller
loop-next-smaller c =
    let scene = searched_procedure c.args.proc.now c.args.framed c.args.removed.now.entries in
    let few =
    few-reached scene c.loop-next.heights.entries c.loop-next.invariant.are c.len.ensures.unique in
    let test = c.loop-next-test.true in
    let len = c.len.ensures.len in
    omega (arith, test, len, few)

pub returns-in_err-arrive-clause-refused : goal.returns-in_err-arrive-clause-refused
returns-in_err-arrive-clause-refused c =
    let scene = searched_procedure c.args.proc.now c.args.framed c.args.removed.now.entries in
    let fault =
    subst (λ old. IsArrivalFault old scene.entry 0 c.in_err-arrive.field-0.0) c.new-heights.ensures.empty
    c.in_err-arrive.ensures.refused in
    let named = start-fault scene c.in_err-arrive.field-0.0 fault in
    search rules

pub returns-clause-found : goal.returns-clause-found
returns-clause-found c =
    let scene = searched_procedure c.args.proc.now c.args.framed c.args.removed.now.entries in
    let past : length c.loop-next.heights.entries ≤ c.loop-next.next =
    (let test = c.loop-next-test.false in let len = c.len.ensures.len in omega (arith, test, len)) in
    searched-all scene c.loop-next.heights.entries c.loop-next.next c.loop-next.invariant past
