-- What `heights` tells. The heights are those of every program of which these are the procedures that are found, and a
-- refusal is one of each such program.
use Rattle.std.specs.Prelude.{List}
use Rattle.dcc_machine.specs.declared.image.Image.{Image}
use Rattle.dcc_prog.specs.declared.procedure.Layout.{Layout}
use Rattle.dcc_prog.specs.declared.procedure.Proc.{Proc}
use Rattle.dcc_prog.specs.declared.frame.Heights.{Heights}
use Rattle.dcc_prog.specs.declared.refusal.Refusal.{Refusal}
use Rattle.dcc_prog.specs.Found.{AreFound}
use Rattle.dcc_prog.specs.Analysed.{AreHeights}
use Rattle.dcc_prog.specs.Refused.{IsRefusedByHeights}

-- the heights are those of every program of which these are the procedures that are found
abbrev pub AreHeightsOfAll : List Proc → Heights → Type 0
AreHeightsOfAll procs heights =
    (image : Image) (layout : Layout) → AreFound image layout procs → AreHeights image layout procs heights

-- every program of which these are the procedures that are found is refused so
abbrev pub IsRefusalOfAll : List Proc → Refusal → Type 0
IsRefusalOfAll procs refusal =
    (image : Image) (layout : Layout) → AreFound image layout procs → IsRefusedByHeights image layout refusal
