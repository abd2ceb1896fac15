use Rattle.dcc_step.specs.Core.{state_of}
use Rattle.dcc_watch.specs.Accesses.{direction_of}
use Rattle.dcc_watch.proofs.Beside.{near_no_operand}
use Rattle.std.proofs.Common.{arith}
use Rattle.dcc_watch.proofs.accesses.Accesses.add_operand.Goals as goal

pub returns-in_default : goal.returns-in_default
returns-in_default c = record {
  items = near_no_operand c.args.layout.now (direction_of c.args.direction) c.args.x (state_of c.args.machine.now) c.args.self.now c.in_default.not-Mem;
  short = omega arith;
}
