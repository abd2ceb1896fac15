use Rattle.dcc_asm.proofs.StepLaws.{outside-not_odd}
use Rattle.dcc_asm.proofs.step.is_odd.Goals as goal

pub returns-in-None : goal.returns-in-None
returns-in-None c = (
  λ no. let f : ⊥ = cc in absurd f,
  λ is. absurd (outside-not_odd c.args.cpu c.args.cs c.args.place c.args.bytes.now c.args.op c.in-None.ensures is),
)
