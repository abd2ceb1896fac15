-- Laws of what the contract speaks of.
use Rattle.std.specs.Prelude.{◌≡◌, ℕ, Bool, true, ◌↔◌, List, All}
use Rattle.dcc_run.specs.ProgramPoint.{ProgramPoint}
use Rattle.dcc_machine.specs.declared.image.Image.{Image}
use Rattle.dcc_prog.specs.declared.procedure.Layout.{Layout}
use Rattle.dcc_prog.specs.declared.procedure.Proc.{Proc}
use Rattle.dcc_prog.specs.declared.frame.Program.{Program as Analysed}
use Rattle.dcc_prog.specs.Trail.{IsNode, IsEdge}
use Rattle.dcc_prog.specs.Found.{AreFound}
use Rattle.dcc_ir.specs.Tree.{Program}
use Rattle.dcc_ir.specs.Flow.{Flow}
use Rattle.dcc_lift.specs.Lifted.{PacedAt, procedure_flow, HoldsPaths}
use Rattle.dcc_lift.specs.Translated.{IsTranslated}

-- a flow graph has the nodes and the edges of the trails from an entry
pub record IsFlowOfTrails (image : Image) (layout : Layout) (entry : ℕ) (flow : Flow) : Type 0 where
  pub start : flow.start ≡ entry
  pub nodes : (a : ℕ) → (flow.has a ≡ true) ↔ IsNode image layout entry a
  pub edges : (a b : ℕ) → (flow.goes a b ≡ true) ↔ IsEdge image layout entry a b

-- the flow graph of each procedure that is found is that of the trails from its entry
abbrev pub FlowIsOfTrails : Type 0
FlowIsOfTrails =
    (image : Image) (layout : Layout) (procs : List Proc) → AreFound image layout procs
    → All (λ proc. IsFlowOfTrails image layout proc.entry (procedure_flow proc)) procs

-- at kept places that hold the paths of all procedures of an analysed file and its translation the machine keeps pace
abbrev pub KeptPlacesArePaced : Type 0
KeptPlacesArePaced =
    (image : Image) (program : Analysed) (p : Program) (kept : ProgramPoint → Bool)
    → IsTranslated image program p → HoldsPaths program p kept
    → PacedAt image program kept
