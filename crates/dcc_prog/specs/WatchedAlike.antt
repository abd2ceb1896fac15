-- What the analyses find in an image says one thing of its runs: each of them is clean, or not, whichever program of
-- the image it is watched by.
use Rattle.std.specs.Prelude.{◌≡◌, ℕ, false, List}
use Rattle.dcc_run.specs.Watched.{state}
use Rattle.dcc_machine.specs.declared.cpu.Cpu.{Cpu}
use Rattle.dcc_machine.specs.declared.image.Image.{Image}
use Rattle.dcc_prog.specs.declared.frame.Program.{Program}
use Rattle.dcc_prog.specs.Analysed.{IsProgramOf}
use Rattle.dcc_prog.specs.Watch.{Watch, is_foul, watch_step, watched_machine, first_watch, IsClean}

pub record ProgramsWatchAlike : Type 0 where
  -- a step is watched alike by two programs of an image
  pub steps :
      (cpu : Cpu) (image : Image) (p q : Program) → IsProgramOf cpu image p → IsProgramOf cpu image q
      → (w : Watch) → watch_step q w ≡ watch_step p w
  -- a run that one program of the image finds clean is clean
  pub runs :
      (cpu : Cpu) (image : Image) (p : Program) → IsProgramOf cpu image p
      → (input : List ℕ) (n : ℕ) → is_foul (state (watched_machine p) n (first_watch image input)) ≡ false
      → IsClean cpu image input n
