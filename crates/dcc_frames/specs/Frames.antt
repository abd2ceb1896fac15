-- What `cells` tells: frames that are those of every program with these procedures, these heights, and a stack segment
-- that begins `delta` bytes above the data segment; or a refusal of every such program.
use Rattle.std.specs.Prelude.{◌≡◌, ℕ, List}
use Rattle.dcc_machine.specs.declared.image.Image.{Image}
use Rattle.dcc_prog.specs.declared.procedure.Layout.{Layout}
use Rattle.dcc_prog.specs.declared.procedure.Proc.{Proc}
use Rattle.dcc_prog.specs.declared.frame.Heights.{Heights}
use Rattle.dcc_prog.specs.declared.frame.Cells.{Cells}
use Rattle.dcc_prog.specs.declared.refusal.Refusal.{Refusal}
use Rattle.dcc_prog.specs.Found.{AreFound}
use Rattle.dcc_prog.specs.Analysed.{AreHeights, AreFrames}
use Rattle.dcc_prog.specs.Refused.{IsRefusedByFrames}

-- what is analysed of an image: the procedures that are found in it, their heights, and how far the stack lies apart
pub record AreAnalysed
    (image : Image) (layout : Layout) (procs : List Proc) (heights : Heights) (delta : ℕ) : Type 0 where
  pub found : AreFound image layout procs
  pub heights_are : AreHeights image layout procs heights
  pub delta_is : delta ≡ layout.delta

-- the frames are those of every program with these procedures, heights and distance of the stack segment
abbrev pub AreFramesOfAll : List Proc → Heights → ℕ → Cells → Type 0
AreFramesOfAll procs heights delta cells =
    (image : Image) (layout : Layout)
    → AreAnalysed image layout procs heights delta
    → AreFrames image layout procs cells

-- every program with these procedures, heights and distance of the stack segment is refused so
abbrev pub IsRefusalOfAll : List Proc → Heights → ℕ → Refusal → Type 0
IsRefusalOfAll procs heights delta refusal =
    (image : Image) (layout : Layout)
    → AreAnalysed image layout procs heights delta
    → IsRefusedByFrames image layout refusal
