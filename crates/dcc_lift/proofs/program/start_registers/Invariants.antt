-- The registers so far have begun.
use Rattle.std.proofs.Common.{◌≡◌, ◌++◌, take, flat_map}
use Rattle.dcc_lift.specs.Translation.{general_registers, register_starting}
use Rattle.dcc_ops.specs.Writing.{written}
use Rattle.dcc_lift.proofs.program.start_registers.Given as goal

abbrev pub invariant-loop-r : goal.invariant-loop-r
invariant-loop-r l = written l.writer ≡ written l.initial.writer ++ flat_map (register_starting l.regs)
    (take l.r-index general_registers)
