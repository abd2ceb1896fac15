use Rattle.std.proofs.Common.{◌≡◌, ◌+◌, ◌-◌, ◌≤◌, false, length, drop, replicate, get_or, sym, subst, arith}
use Rattle.std.proofs.lemmas.List.{drop_all}
use Rattle.dcc_control.proofs.ListLaws.{drop-none}
use Rattle.dcc_plan_check.proofs.LabelLaws.{AreFlagged, flagged-none, flagged-step}
use Rattle.dcc_plan_check.proofs.labels.flags.Goals as goal

pub returns : goal.returns
returns c =
    let blocks = c.args.blocks.now in
    let last : c.loop-left.left ≡ 0 = omega (arith, c.loop-left-test.false) in
    let all = subst (λ n. AreFlagged c.loop-left.flags.items (drop n blocks)) last c.loop-left.invariant.1 in
    let whole = subst (AreFlagged c.loop-left.flags.items) (drop-none blocks) all in
    (whole.once, whole.exact)
