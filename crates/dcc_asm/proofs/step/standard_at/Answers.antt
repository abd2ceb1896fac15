use Rattle.dcc_asm.proofs.StepLaws.{outside-told}
use Rattle.dcc_asm.proofs.step.standard_at.Goals as goal

pub returns-in-None : goal.returns-in-None
returns-in-None c = outside-told c.args.cpu c.args.cs c.args.place c.args.op c.in-None.ensures
