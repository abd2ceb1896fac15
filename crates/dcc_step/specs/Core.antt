-- The machine without its console, which is what the code keeps.
use Rattle.std.specs.Prelude.{ℕ, List, []}
use Rattle.dcc_run.specs.End.{End}
use Rattle.dcc_run.specs.Event.{Event}
use Rattle.dcc_num.specs.declared.Flags.{Flags}
use Rattle.dcc_machine.specs.declared.cpu.Cpu.{Cpu}
use Rattle.dcc_machine.specs.Machine.{State}

-- a processor, and a state but for its console
pub record Core : Type 0 where
  pub cpu : Cpu
  pub regs : List ℕ
  pub segs : List ℕ
  pub flags : Flags
  pub ip : ℕ
  pub memory : List ℕ
  pub end : End

-- the machine with a console beside it
abbrev pub with_console : Core → List ℕ → List Event → State
with_console m input events = record {
  regs = m.regs;
  segs = m.segs;
  flags = m.flags;
  ip = m.ip;
  memory = m.memory;
  input = input;
  events = events;
  end = m.end;
}

-- a processor with a state without its console
abbrev pub core_of : Cpu → State → Core
core_of cpu s = record {
  cpu = cpu;
  regs = s.regs;
  segs = s.segs;
  flags = s.flags;
  ip = s.ip;
  memory = s.memory;
  end = s.end;
}

-- the machine with an empty console, for what no console changes
abbrev pub state_of : Core → State
state_of m = with_console m [] []

-- the machine after an operation on its state
abbrev pub changed_by : (State → State) → Core → Core
changed_by operation m = core_of m.cpu (operation (state_of m))
