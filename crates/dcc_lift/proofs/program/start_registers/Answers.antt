use Rattle.dcc_lift.specs.Translation.{general_registers, register_starting}
use Rattle.dcc_ops.specs.Writing.{written}
use Rattle.dcc_lift.proofs.StartingLaws.{written-more}
use Rattle.dcc_lift.proofs.program.start_registers.Goals as goal

pub loop-r-preserved : goal.loop-r-preserved
loop-r-preserved c =
    written-more (register_starting c.args.regs.now) general_registers c.loop-r.r-index _ (written c.args.writer.now)
    (written c.loop-r.writer)
    (written c.start_register.new.writer) c.loop-r-test.true c.loop-r.invariant c.in_ok-start_register.ensures
