use Rattle.dcc_asm.proofs.HeadLaws.{heading-by}
use Rattle.dcc_asm.proofs.assembler.heading_of.Goals as goal

pub returns-in-None : goal.returns-in-None
returns-in-None c =
    heading-by c.args.text.now c.heading_for-in-None.result (rw c.in-None.is at c.in_ok-heading.ensures) c.heading_for-in-None.ensures
