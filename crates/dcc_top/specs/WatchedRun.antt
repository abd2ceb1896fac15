-- Watched runs: how far they are clean, and where they stop at a step that isn't.
use Rattle.std.specs.Prelude.{◌≡◌, ℕ, ◌+◌, ◌<◌, List, [], Option}
use Rattle.dcc_io.specs.Told.{WhenTold}
use Rattle.dcc_run.specs.End.{End}
use Rattle.dcc_run.specs.Watched.{state}
use Rattle.dcc_machine.specs.declared.cpu.Cpu.{Cpu}
use Rattle.dcc_machine.specs.declared.image.Image.{Image}
use Rattle.dcc_prog.specs.declared.frame.Program.{Program}
use Rattle.dcc_prog.specs.Analysed.{IsProgramOf}
use Rattle.dcc_prog.specs.Clean.{Foul as FoulStep}
use Rattle.dcc_prog.specs.Refused.{IsSound}
use Rattle.dcc_prog.specs.Watch.{Watch, Stopped, watched_machine, first_watch, IsClean}
use Rattle.dcc_watch.specs.Executor.{console_of}
use Rattle.dcc_top.specs.declared.reply.Reply.{Reply}
use Rattle.dcc_top.specs.declared.reply.Reply.TheVariants.{Foul, InputFault, Memory}
use Rattle.dcc_top.specs.Execution.{Subject, machine_of, output_after, state_after, ending_after}
use Rattle.dcc_top.specs.Execution.{HasRun, Stops, StopsAtRead, end_reply}

-- the watched machine of a program, from the start of its image
abbrev pub watch_of : Image → Program → Subject Watch
watch_of image program = record { console = console_of program; start = first_watch image }

-- Of the image's run on a processor and an input so many steps are clean, and the next one is foul so, by the program
-- that the analyses find.
pub record IsFoulAfter (cpu : Cpu) (image : Image) (input : List ℕ) (made : ℕ) (foul : FoulStep) : Type 0 where
  pub clean : IsClean cpu image input made
  pub program : Program
  pub is_program : IsProgramOf cpu image program
  pub stopped : (state (watched_machine program) (made + 1) (first_watch image input)).stage ≡ Stopped foul

-- the answer where a step is foul
abbrev pub foul_reply : FoulStep → Reply
foul_reply foul = Foul foul.at foul.address foul.kind

module _ (cpu : Cpu) (image : Image) (steps : ℕ) (left : Option (List ℕ)) (output : List ℕ) where
  -- the machine's run on the input puts out these bytes in so many steps, leaves this input and has ended so, and all
  -- its steps are clean
  pub record HasRunClean (end : End) (input : List ℕ) : Type 0 where
    pub run : HasRun (machine_of cpu image) steps left output end input
    pub clean : IsClean cpu image input steps

  -- the next of these steps is foul so, after the machine's steps before it, whose output is there and which leave this
  -- input
  pub record StopsAtFoul (foul : FoulStep) (input : List ℕ) : Type 0 where
    pub stops : Stops (machine_of cpu image) steps left output input
    pub is_foul : IsFoulAfter cpu image input stops.made foul

  -- the machine's run stopped before a step that takes an input byte, and the steps before it are clean
  pub record StopsCleanAtRead (input : List ℕ) : Type 0 where
    pub at_read : StopsAtRead (machine_of cpu image) steps left output input
    pub clean : IsClean cpu image input at_read.stops.made

-- What an answer says of a watched run of so many steps: from the input that was left before, where that is told, these
-- bytes were put out, and this input is left; or no memory was found for the run, and nothing was put out or taken.
pub data FinishesWatched (cpu : Cpu) (image : Image) (steps : ℕ) (before left : Option (List ℕ)) :
    Reply → List ℕ → Type 0 where
  stayed_clean :
      {output : List ℕ} (end : End)
      → WhenTold before (HasRunClean cpu image steps left output end)
      → FinishesWatched cpu image steps before left (end_reply steps end) output
  met_foul :
      {output : List ℕ} (foul : FoulStep)
      → WhenTold before (StopsAtFoul cpu image steps left output foul)
      → FinishesWatched cpu image steps before left (foul_reply foul) output
  clean_to_read :
      {output : List ℕ}
      → WhenTold before (StopsCleanAtRead cpu image steps left output)
      → FinishesWatched cpu image steps before left InputFault output
  lacked_memory : left ≡ before → FinishesWatched cpu image steps before left Memory []

-- What may be known of the image's run on an input: nothing refuses the program, and so many steps are clean and end
-- so.
pub record EndsClean (cpu : Cpu) (steps : ℕ) (input : List ℕ) (end : End) (image : Image) : Type 0 where
  pub sound : IsSound cpu image
  pub clean : IsClean cpu image input steps
  pub end_is : ending_after (machine_of cpu image) steps input ≡ end

-- what may be known of the image's run on an input: nothing refuses the program, and one of so many steps is foul
pub record MeetsFoul (cpu : Cpu) (steps : ℕ) (input : List ℕ) (image : Image) : Type 0 where
  pub sound : IsSound cpu image
  pub foul : FoulStep
  pub made : ℕ
  pub short : made < steps
  pub is_foul : IsFoulAfter cpu image input made foul
