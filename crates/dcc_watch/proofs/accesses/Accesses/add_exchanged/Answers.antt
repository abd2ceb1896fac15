use Rattle.dcc_machine.specs.Access.{Writing}
use Rattle.dcc_machine.specs.Machine.{with_operand, operand_value}
use Rattle.dcc_step.specs.Core.{state_of}
use Rattle.dcc_watch.proofs.Beside.{near_no_operand}
use Rattle.dcc_watch.proofs.accesses.Accesses.add_exchanged.Goals as goal

pub returns-in_default : goal.returns-in_default
returns-in_default c =
    let s = state_of c.args.machine.now in
    near_no_operand c.args.layout.now Writing c.args.b (with_operand s c.args.a (operand_value s c.args.b)) c.args.self.now c.in_default.not-Mem
