use Rattle.std.proofs.Common.{rules, ◌<◌, get_or, arith}
use Rattle.dcc_procs.proofs.Dividing.{passed-none, ready-read, passed-more, all-prepared, lacks-refused}
use Rattle.dcc_procs.proofs.division.check_divisions.Goals as goal

pub loop-place-init : goal.loop-place-init
loop-place-init c =
    passed-none c.args.image.now c.args.layout.now c.args.entry c.args.seen.now c.args.order.now c.args.ready.now
    c.requires.length

pub returns-in_err-check_division-clause-refused : goal.returns-in_err-check_division-clause-refused
returns-in_err-check_division-clause-refused c =
    let is =
    ready-read c.args.image.now c.args.layout.now c.args.entry c.args.seen.now c.args.order.now c.requires.seen c.requires.order
    c.loop-place.place c.loop-place.ready c.loop-place.invariant c.loop-place-test.true c.from.result c.ready_at-here.result
    c.from.ensures c.ready_at-here.ensures in
    let named =
    lacks-refused c.args.image.now c.args.layout.now c.args.entry c.args.seen.now c.args.order.now c.requires.seen
    c.requires.order c.loop-place.place c.ready_at-here.result c.in_err-check_division.field-0.0 c.requires.entry
    c.loop-place-test.true is c.in_err-check_division.ensures.refused in
    search rules

pub loop-place-preserved : goal.loop-place-preserved
loop-place-preserved c =
    let at = get_or c.args.order.now c.loop-place.place 0 in
    let below : at < 65536 = (let fits = c.type_inv.order c.loop-place.place in omega (arith, fits)) in
    let is =
    ready-read c.args.image.now c.args.layout.now c.args.entry c.args.seen.now c.args.order.now c.requires.seen c.requires.order
    c.loop-place.place c.loop-place.ready c.loop-place.invariant c.loop-place-test.true c.from.result c.ready_at-here.result
    c.from.ensures c.ready_at-here.ensures in
    rw c.from-in-loop-place.ensures
    (passed-more c.args.image.now c.args.layout.now c.args.entry c.args.seen.now c.args.order.now c.requires.seen
    c.requires.order c.loop-place.place c.loop-place.ready c.loop-place.invariant c.loop-place-test.true
    c.ready_at-here.result below is c.in_ok-check_division.ensures.ready)

pub returns-clause-prepared : goal.returns-clause-prepared
returns-clause-prepared c =
    let p = c.loop-place.invariant in
    all-prepared c.args.image.now c.args.layout.now c.args.entry c.args.seen.now c.args.order.now c.requires.seen
    c.requires.order c.loop-place.ready
    (λ i less short. p.are_fine i (omega (arith, less, c.loop-place-test.false)) short)
    (λ i less short. p.are_ready i (omega (arith, less, c.loop-place-test.false)) short)
