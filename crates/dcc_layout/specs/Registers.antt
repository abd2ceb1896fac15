-- The registers and flags that the code keeps, and a state of the machine that has them and nothing else.
use Rattle.std.specs.Prelude.{Bool, true, false, []}
use Rattle.dcc_run.specs.End.{Running}
use Rattle.dcc_machine.specs.Machine.{State}
use Rattle.dcc_machine.specs.declared.instr.Operand.{Operand}
use Rattle.dcc_machine.specs.declared.instr.Operand.TheVariants.{Mem}
use Rattle.dcc_layout.specs.declared.registers.Registers.{Registers}

-- the operand is a register or a constant
abbrev pub has_no_memory : Operand → Bool
has_no_memory (Mem width ea) = false
has_no_memory operand = true

-- the registers and flags of a state
abbrev pub registers_of : State → Registers
registers_of s = record { regs = s.regs; segs = s.segs; flags = s.flags }

-- a state with these registers and flags, and with nothing in memory or on the console
abbrev pub state_of : Registers → State
state_of r = record {
  regs = r.regs;
  segs = r.segs;
  flags = r.flags;
  ip = 0;
  memory = [];
  input = [];
  events = [];
  end = Running;
}
