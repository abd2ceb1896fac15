-- What steps of the machine leave, and what they answer.
use Rattle.std.specs.Prelude.{◌≡◌, ◌<◌, ℕ, List, [], Option, slice_index}
use Rattle.dcc_run.specs.End.{End, Running as running, Exit as exited, Divide as divided, Outside as outside}
use Rattle.dcc_machine.specs.declared.cpu.Cpu.{Cpu}
use Rattle.dcc_machine.specs.Machine.{State}
use Rattle.dcc_machine.specs.Step as definition
use Rattle.dcc_console.specs.Console.{Console, Executor}
use Rattle.dcc_console.specs.Counts.{CountsFaults}
use Rattle.dcc_console.specs.WithConsole.{WithConsole, beside_console}
use Rattle.dcc_console.specs.Steps.{Outcome, made, read_failed, write_failed, Steps, HasEnded}
use Rattle.dcc_step.specs.Core.{Core, core_of, with_console}
use Rattle.dcc_step.specs.declared.ending.Stepped.{Stepped}
use Rattle.dcc_step.specs.declared.ending.Stepped.TheVariants.{Running, Exit, Divide, Outside, InFault, OutFault}

-- the machine with its console, whose step is the given operation
abbrev pub console_by : (State → State) → Console State
console_by operation = record {
  system = record { step = operation; events = λ s. s.events; end = λ s. s.end };
  left = λ s. s.input;
  with_left = λ input s. record s { input = input };
}

-- The code that makes the given operation of its processor. What it keeps is the processor and a state but for its
-- console, and stands for states of that processor's machine alone.
abbrev pub machine_by : (Cpu → State → State) → Executor Cpu Core State
machine_by operation = record {
  console = λ cpu. console_by (operation cpu);
  stands = λ cpu core s. core_of cpu s ≡ core;
}

-- the code that makes its processor's steps
abbrev pub machine : Executor Cpu Core State
machine = machine_by definition.step

-- beside some input of bytes the operation leads from one state of the machine to another
pub record LeadsOnBytes (operation : Cpu → State → State) (before now : Core) : Type 0 where
  pub input : List ℕ
  pub bytes : (k : ℕ) → slice_index input k < 256
  pub leads : core_of before.cpu (operation before.cpu (with_console before input [])) ≡ now

-- how a step or a run came out, by what it answers
abbrev pub outcome_of : Stepped → Outcome
outcome_of Running = made
outcome_of (Exit code) = made
outcome_of Divide = made
outcome_of (Outside at) = made
outcome_of InFault = read_failed
outcome_of OutFault = write_failed

-- how the run has ended, by what a step or a run answers
abbrev pub end_told : Stepped → End
end_told Running = running
end_told (Exit code) = exited code
end_told Divide = divided
end_told (Outside at) = outside at
end_told InFault = running
end_told OutFault = running

-- a state beside its console, and how many reads of its input and writes to its output have failed
pub record Counted (C : Type 0) : Type 0 where
  pub state : WithConsole C
  pub reads : ℕ
  pub writes : ℕ

abbrev pub counted : {C : Type 0} → C → Option (List ℕ) → Option (List ℕ) → ℕ → ℕ → Counted C
counted code left taken reads writes =
    record { state = beside_console code left taken; reads = reads; writes = writes }

-- What a step leaves, by what it answers. What is taken is a byte: where the step was made, the machine's step on an
-- input of bytes leads here too. A fault is answered only where its count rose.
pub record StepAnswers (answered : Stepped) (before now : Counted Core) : Type 0 where
  pub step : Steps machine (outcome_of answered) before.state now.state
  pub bytes : outcome_of answered ≡ made → LeadsOnBytes definition.step before.state.code now.state.code
  pub answer : HasEnded machine now.state.code (end_told answered)
  pub faults : CountsFaults (answered ≡ InFault) (answered ≡ OutFault) before.reads now.reads before.writes now.writes
