use Rattle.std.proofs.Common.{◌≡◌, sym, ap, ◌∙◌, subst}
use Rattle.std.specs.Prelude.{◌&&◌, IfOk}
use Rattle.dcc_c.specs.Rules.{differ}
use Rattle.dcc_control.specs.Plan.{all_cases}
use Rattle.dcc_control.specs.Views.{arms_of}
use Rattle.dcc_pipe.proofs.AllowedItems.{some-arm}
use Rattle.dcc_pipe.proofs.allowed.chooses.Goals as goal

pub returns : goal.returns
returns c =
    let arms = c.args.arms.now in
    let some = some-arm arms (sym c.is_empty.ensures ∙ c.if-is_empty.false) in
    subst (λ answer. IfOk c.differ.result (λ yes. yes ≡ answer))
    (ap differ (c.as_slice.ensures.value ∙ c.in_ok-cases.ensures) ∙ sym (ap (λ has. has && differ (all_cases (arms_of arms))) some)) c.differ.ensures
