use Rattle.std.proofs.Common.{◌≡◌, ◌+◌, ◌-◌, true, false, length, drop, sym, ◌∙◌, subst, arith, true≢false}
use Rattle.dcc_ir.specs.Views.{graph_of}
use Rattle.dcc_control.specs.Views.{plan_of, arms_of}
use Rattle.dcc_control.proofs.ListLaws.{drop-none}
use Rattle.dcc_plan_check.specs.Checked.{Fits, FitArms, in_sides, in_arms, in_loop}
use Rattle.dcc_plan_check.proofs.ValidLaws.{Stands, stands-first, stands-step, arms-first, arms-step, arms-as, fits-as, item-if, item-switch, item-for}
use Rattle.dcc_plan_check.proofs.valid.+valid.Goals.{is_valid_item-then-is_test, is_valid_item-else-is_test}
use Rattle.dcc_plan_check.proofs.valid.+valid.Goals as goal

pub is_valid-loop-left-init : goal.is_valid-loop-left-init
is_valid-loop-left-init t c =
    (omega arith, stands-first (graph_of c.args.graph.now) c.args.labels.now c.args.items.now _ c.args.a (omega arith))

pub is_valid-loop-left-preserved : goal.is_valid-loop-left-preserved
is_valid-loop-left-preserved t c =
    let graph = graph_of c.args.graph.now in
    let labels = c.args.labels.now in
    let items = c.args.items.now in
    let a = c.args.a in
    let k = c.loop-left.left - 1 in
    let some = c.loop-left-test.true in
    let within = c.loop-left.invariant.0 in
    let back : c.loop-left.left ≡ k + 1 = omega (arith, some) in
    let after = subst (λ n. Stands graph labels (plan_of (drop n items)) a c.loop-left.next) back c.loop-left.invariant.1 in (
      omega (arith, within, some),
      stands-step graph labels items k c.index-items-left.result a c.loop-left.next c.item_entry-next.result (omega (arith, within, some)) c.index-items-left.is
          after (c.is_valid_item.ensures c.if-not-is_valid_item.false) c.item_entry-next.ensures,
    )

pub is_valid-returns : goal.is_valid-returns
is_valid-returns t c answer =
    let graph = graph_of c.args.graph.now in
    let labels = c.args.labels.now in
    let items = c.args.items.now in
    let last : c.loop-left.left ≡ 0 = omega (arith, c.loop-left-test.false) in
    let all = subst (λ n. Stands graph labels (plan_of (drop n items)) c.args.a c.loop-left.next) last c.loop-left.invariant.1 in
    subst (λ l. Fits graph labels (plan_of l) c.args.a) (drop-none items) all.fits

pub are_valid-loop-left-init : goal.are_valid-loop-left-init
are_valid-loop-left-init t c =
    (omega arith, arms-first (graph_of c.args.graph.now) c.args.labels.now c.args.arms.now _ c.args.a (omega arith))

pub are_valid-loop-left-preserved : goal.are_valid-loop-left-preserved
are_valid-loop-left-preserved t c =
    let graph = graph_of c.args.graph.now in
    let labels = c.args.labels.now in
    let arms = c.args.arms.now in
    let a = c.args.a in
    let k = c.loop-left.left - 1 in
    let some = c.loop-left-test.true in
    let within = c.loop-left.invariant.0 in
    let back : c.loop-left.left ≡ k + 1 = omega (arith, some) in
    let after = subst (λ n. FitArms graph labels (arms_of (drop n arms)) a) back c.loop-left.invariant.1 in
    let arm = c.index-arms-left.result in
    let body = subst (λ l. Fits graph labels (plan_of l) a) c.deref.ensures.value (c.is_valid.ensures c.if-not-is_valid.false) in
    (omega (arith, within, some), arms-step graph labels arms k arm a (omega (arith, within, some)) c.index-arms-left.is body after)

pub are_valid-returns : goal.are_valid-returns
are_valid-returns t c answer =
    let graph = graph_of c.args.graph.now in
    let labels = c.args.labels.now in
    let arms = c.args.arms.now in
    let last : c.loop-left.left ≡ 0 = omega (arith, c.loop-left-test.false) in
    let all = subst (λ n. FitArms graph labels (arms_of (drop n arms)) c.args.a) last c.loop-left.invariant.1 in
    subst (λ l. FitArms graph labels (arms_of l) c.args.a) (drop-none arms) all

pub is_valid_item-returns-then-is_valid : goal.is_valid_item-returns-then-is_valid
is_valid_item-returns-then-is_valid t c answer =
    let graph = graph_of c.args.graph.now in
    let labels = c.args.labels.now in
    let a = c.args.a in
    let s = c.in-If in
    let first = c.deref in
    let second = c.deref-in-If in
    let other_fits = fits-as graph labels c.deref-then-is_valid.result.now second.result.now s.other.items c.in_sides-then-is_valid.result (in_sides a)
    c.deref-then-is_valid.ensures.value second.ensures.value c.in_sides-then-is_valid.ensures (c.is_valid-then-is_valid.ensures answer) in
    elim c.if-is_test.branch [
      | is_valid_item-then-is_test w ↦
          let one_fits = fits-as graph labels w.deref-then-is_test.result.now first.result.now s.one.items w.in_sides.result (in_sides a)
          w.deref-then-is_test.ensures.value first.ensures.value w.in_sides.ensures (w.is_valid.ensures (sym w.value-is ∙ c.if-is_valid.true)) in
          item-if graph labels c.args.item.now s.b s.one s.other first.result.now second.result.now a s.is first.ensures.value second.ensures.value
          (c.is_test.ensures w.if-is_test.true one_fits other_fits)
      | is_valid_item-else-is_test w ↦ absurd (true≢false (sym c.if-is_valid.true ∙ w.value-is ∙ w.if-is_test.false))
    ]

pub is_valid_item-returns-then-is_switch : goal.is_valid_item-returns-then-is_switch
is_valid_item-returns-then-is_switch t c answer =
    let graph = graph_of c.args.graph.now in
    let labels = c.args.labels.now in
    let a = c.args.a in
    let s = c.in-Switch in
    let given = c.deref-in-Switch in
    let inside = c.deref-then-is_switch in
    item-switch graph labels c.args.item.now s.b s.arms given.result.now a s.is given.ensures.value
    (c.is_switch.ensures c.if-is_switch.true
    (arms-as graph labels inside.result.now given.result.now s.arms.items c.in_arms.result (in_arms a) inside.ensures.value given.ensures.value
    c.in_arms.ensures (c.are_valid.ensures answer)))

pub is_valid_item-returns-then-is_loop : goal.is_valid_item-returns-then-is_loop
is_valid_item-returns-then-is_loop t c answer =
    let graph = graph_of c.args.graph.now in
    let labels = c.args.labels.now in
    let a = c.args.a in
    let s = c.in-For in
    let given = c.deref-in-For in
    let inside = c.deref-then-is_loop in
    item-for graph labels c.args.item.now s.b s.body given.result.now a s.is given.ensures.value
    (c.is_loop.ensures c.if-is_loop.true
    (fits-as graph labels inside.result.now given.result.now s.body.items c.in_loop.result (in_loop s.b a) inside.ensures.value given.ensures.value
    c.in_loop.ensures (c.is_valid-then-is_loop.ensures answer)))
