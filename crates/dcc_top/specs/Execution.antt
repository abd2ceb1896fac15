-- Runs: what they put out and take, how they end, and where a failed write cuts them off.
use Rattle.std.specs.Prelude.{◌≡◌, ℕ, List, [], Option}
use Rattle.dcc_io.specs.Told.{WhenTold}
use Rattle.dcc_run.specs.End.{End, Running as running, Exit as exited, Divide as divided}
use Rattle.dcc_run.specs.End.{Outside as outside, Stuck as stuck}
use Rattle.dcc_machine.specs.declared.cpu.Cpu.{Cpu}
use Rattle.dcc_machine.specs.declared.image.Image.{Image}
use Rattle.dcc_machine.specs.Machine.{State as MachineState, start_state}
use Rattle.dcc_machine.specs.Step.{step}
use Rattle.dcc_c.specs.Tree.{Tree, Function}
use Rattle.dcc_c.specs.Run.{State as TextState, first_state}
pub use Rattle.dcc_console.specs.Console.{Subject, state_after, output_after, ending_after}
pub use Rattle.dcc_console.specs.Ran.{HasRun, Stops, StopsAtRead, StopsAtWrite}
use Rattle.dcc_step.specs.Stepped.{console_by}
use Rattle.dcc_crun.specs.Stepped.{console_of}
use Rattle.dcc_top.specs.Change.{Change}
use Rattle.dcc_top.specs.declared.reply.Reply.{Reply}
use Rattle.dcc_top.specs.declared.reply.Reply.TheVariants.{Exited, InputFault, Memory, Unfinished}
use Rattle.dcc_top.specs.declared.reply.Reply.TheVariants.{Divided, Outside, Stuck}

-- the machine with this processor, from the start of an image
abbrev pub machine_of : Cpu → Image → Subject MachineState
machine_of cpu image = record { console = console_by (step cpu); start = start_state image }

-- a text, from its function `start`
abbrev pub text_of : Tree → Function → ℕ → Subject TextState
text_of tree start fill = record { console = console_of tree; start = first_state tree start fill }

-- the answer where a run of so many steps has ended so, or goes on
abbrev pub end_reply : ℕ → End → Reply
end_reply steps running = Unfinished steps
end_reply steps (exited code) = Exited code
end_reply steps divided = Divided
end_reply steps (outside at) = Outside at
end_reply steps (stuck line) = Stuck line

-- What an answer says of a run of so many steps: from the input that was left before, where that is told, these bytes
-- were put out, and this input is left. Where no memory was found for the run, nothing was.
pub data Finishes {S : Type 0} (subject : Subject S) (steps : ℕ) (before left : Option (List ℕ)) :
    Reply → List ℕ → Type 0 where
  ended :
      {output : List ℕ} (end : End)
      → WhenTold before (HasRun subject steps left output end)
      → Finishes subject steps before left (end_reply steps end) output
  stopped_at_read :
      {output : List ℕ}
      → WhenTold before (StopsAtRead subject steps left output)
      → Finishes subject steps before left InputFault output
  not_begun : left ≡ before → Finishes subject steps before left Memory []

-- what an answer says of a run whose steps take memory, of which there may be none for the next step
pub data FinishesOrStops {S : Type 0} (subject : Subject S) (steps : ℕ) (before left : Option (List ℕ)) :
    Reply → List ℕ → Type 0 where
  finishes :
      {reply : Reply} {output : List ℕ}
      → Finishes subject steps before left reply output
      → FinishesOrStops subject steps before left reply output
  found_none :
      {output : List ℕ}
      → WhenTold before (Stops subject steps left output)
      → FinishesOrStops subject steps before left Memory output

-- A run of so many steps was cut off by a failed write, where these bytes were due from its whole. Where the input is
-- told, the run stopped at the step whose write failed: the input has lost what the steps before it and it itself take,
-- and no more, and the output got what the steps before it put out and a part of what it writes.
pub record IsCutRun {S : Type 0} (subject : Subject S) (steps : ℕ) (input output : Change (Option (List ℕ)))
    (due : List ℕ) : Type 0 where
  pub is_due : WhenTold input.before (λ bytes. due ≡ output_after subject steps bytes)
  pub stops : WhenTold input.before (StopsAtWrite subject steps input.after output.before output.after)
