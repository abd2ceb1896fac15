use Rattle.std.proofs.Common.{length, ap, ◌∙◌}
use Rattle.dcc_trial.proofs.RunLaws.{all-taken}
use Rattle.dcc_trial.proofs.sides.text_length.Goals as goal

pub returns-in-Ok : goal.returns-in-Ok
returns-in-Ok c =
    c.len.ensures ∙ c.taken.result.now.ok.0
    ∙ ap length (c.taken.ensures ∙ all-taken _ _ _ (ap (λ s. s.taken) c.new-out.ensures) c.in-Ok.ensures.whole)
