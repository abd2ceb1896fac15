use Rattle.std.proofs.Common.{length, sym, ap, ◌∙◌}
use Rattle.std.specs.Prelude.{◌==◌, ◌||◌, not}
use Rattle.dcc_plan.proofs.WrittenItems.{first-side}
use Rattle.dcc_plan.proofs.plan_text.may_be_first.Goals as goal

pub returns-then-not-is_empty : goal.returns-then-not-is_empty
returns-then-not-is_empty c =
    let one = c.args.one.now in
    let other = c.args.other.now in
    ap not c.if-not-is_empty.true
    ∙ sym (ap (λ some. some || length other == 0) (ap not (sym c.is_empty.ensures ∙ c.if-not-is_empty.true)))
    ∙ first-side one other

pub returns-else-not-is_empty : goal.returns-else-not-is_empty
returns-else-not-is_empty c =
    let one = c.args.one.now in
    let other = c.args.other.now in
    c.is_empty-else-not-is_empty.ensures
    ∙ sym (ap (λ some. some || length other == 0) (ap not (sym c.is_empty.ensures ∙ c.if-not-is_empty.false)))
    ∙ first-side one other
