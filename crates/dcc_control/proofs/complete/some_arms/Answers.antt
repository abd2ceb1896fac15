use Rattle.std.proofs.Common.{◌≡◌, length, ap, ◌∙◌, arith}
use Rattle.std.specs.Prelude.{◌==◌}
use Rattle.dcc_control.proofs.CompletedItems.{some-there}
use Rattle.dcc_control.proofs.complete.some_arms.Goals as goal

pub returns-then-not-is_empty : goal.returns-then-not-is_empty
returns-then-not-is_empty c =
    let arms = c.args.arms in
    let counted : arms.len ≡ length arms.items = omega (arith, arms.ok.0) in
    some-there arms.items (c.if-not-is_empty.ensures ∙ ap (λ n. n == 0) counted)
