-- What the watch keeps.
use Rattle.std.specs.Prelude.{◌≡◌, ℕ, Bool, List, [], ◌∷◌, map, slice_get, Some}
use Rattle.dcc_prog.specs.declared.procedure.Layout.{Layout}
use Rattle.dcc_prog.specs.Watch as told
use Rattle.dcc_step.specs.Core.{Core}
use Rattle.dcc_watch.specs.declared.shape.Shape.{Shape}
use Rattle.dcc_watch.specs.declared.frames.Live.{Live}
use Rattle.dcc_watch.specs.declared.progress.Progress.{Progress}
use Rattle.dcc_watch.specs.declared.progress.Progress.TheVariants.{AtStart, InPrelude, InProcedures, Stopped}
use Rattle.dcc_watch.specs.Foul.{told_foul}
use Rattle.dcc_watch.specs.Shapes.{live_frame}

-- The layout and the shapes of a program's frames, by the offset where a procedure begins; how many frames there is
-- room for; the machine; and where its run stands.
pub record Watching : Type 0 where
  pub layout : Layout
  pub shapes : List Shape
  pub room : ℕ
  pub machine : Core
  pub stage : told.Stage

-- where the run stands, with the frames that live and the bytes that are written
abbrev pub stage_of : Progress → List Live → List Bool → told.Stage
stage_of AtStart live written = told.AtStart
stage_of InPrelude live written = told.InPrelude
stage_of InProcedures live written = told.InProcedures (record { frames = map live_frame live; written = written })
stage_of (Stopped foul) live written = told.Stopped (told_foul foul)

-- a frame that lives has the shape that stands where its procedure begins
abbrev pub HasShape : List Shape → Live → Type 0
HasShape shapes live = slice_get shapes live.entry ≡ Some live.shape

abbrev pub AllHaveShapes : List Shape → List Live → Type 0
AllHaveShapes shapes [] = Unit {0}
AllHaveShapes shapes (live ∷ older) = HasShape shapes live × AllHaveShapes shapes older
