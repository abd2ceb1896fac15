-- What holds of all that the watch keeps.
use Rattle.std.specs.Prelude.{◌≡◌, ℕ, ◌+◌, ◌-◌, ◌/◌, Bool, true, false, List, [], length}
use Rattle.dcc_machine.specs.declared.image.Image.{Image}
use Rattle.dcc_prog.specs.declared.procedure.Layout.{Layout}
use Rattle.dcc_prog.specs.declared.frame.Program.{Program}
use Rattle.dcc_stack.specs.Laws.{IsRunOf, watch_after}
use Rattle.dcc_step.specs.Core.{Core}
use Rattle.dcc_watch.specs.declared.shape.Shape.{Shape}
use Rattle.dcc_watch.specs.declared.frames.Live.{Live}
use Rattle.dcc_watch.specs.declared.progress.Progress.{Progress}
use Rattle.dcc_watch.specs.declared.progress.Progress.TheVariants.{AtStart, InPrelude, InProcedures, Stopped}
use Rattle.dcc_watch.specs.Marks.{no_marks}
use Rattle.dcc_watch.specs.Watching.{Watching, AllHaveShapes, stage_of}
use Rattle.dcc_watch.specs.Executor.{Stands}

-- What the watch keeps stands for the watched run of a file's image on some input of bytes after some number of steps.
-- The input need not be the one that the steps were made on: where that had ended, and a key was asked for, 1Ah may
-- stand for the end.
pub record IsReached (code : Watching) : Type 0 where
  pub image : Image
  pub program : Program
  pub input : List ℕ
  pub run : IsRunOf program.layout.cpu image program input
  pub count : ℕ
  pub stands : Stands program code (watch_after program image input count)

-- the run is not past the prelude
abbrev pub is_before : Progress → Bool
is_before AtStart = true
is_before InPrelude = true
is_before InProcedures = false
is_before (Stopped foul) = false

-- There is room for as many frames as return addresses fit the stack, and for that of the entry procedure; before the
-- first frame begins, there is no frame and no mark; and a run comes here.
pub record IsKept (layout : Layout) (shapes : List Shape) (room : ℕ) (machine : Core) (live : List Live)
    (written : List Bool) (progress : Progress) : Type 0 where
  pub table : length shapes ≡ 65536
  pub room_is : room ≡ (layout.hi - layout.lo) / 2 + 1
  pub known : AllHaveShapes shapes live
  pub no_frame : is_before progress ≡ true → live ≡ []
  pub no_mark : is_before progress ≡ true → written ≡ no_marks
  pub reached :
      IsReached (record {
        layout = layout;
        shapes = shapes;
        room = room;
        machine = machine;
        stage = stage_of progress live written;
      })
