-- A procedure, as its frame is told. This stands between the definitions and the code; no public contract rests on it.
use Rattle.std.specs.Prelude.{◌≡◌, ◌≢◌, ◌≤◌, ℕ, ℤ, pos, Bool, true, false, List, All, Contains, Option, Some}
use Rattle.std.specs.List.{AllZip}
use Rattle.dcc_machine.specs.declared.image.Image.{Image}
use Rattle.dcc_prog.specs.declared.procedure.Layout.{Layout}
use Rattle.dcc_prog.specs.declared.procedure.Proc.{Proc}
use Rattle.dcc_prog.specs.declared.frame.Heights.{Heights}
use Rattle.dcc_prog.specs.declared.refusal.Refusal.{Refusal}
use Rattle.dcc_prog.specs.Trail.{StandsAt, IsNode, IsEntry}
use Rattle.dcc_prog.specs.FrameForm.{is_framed}
use Rattle.dcc_prog.specs.Height.{IsRemoved, HasHeight}
use Rattle.dcc_prog.specs.Frame.{HasArguments}
use Rattle.dcc_prog.specs.Found.{IsFound, AreFound}
use Rattle.dcc_prog.specs.Analysed.{AreHeightsOf, AreHeights}
use Rattle.dcc_prog.specs.Refused.{IsAcceptedByHeights, IsRefusedByFrames}
use Rattle.dcc_frames.specs.declared.steps.Step.{Step}
use Rattle.dcc_frames.specs.declared.body.Body.{Body}

-- an instruction that is reached, with its height, which is no greater than a stack's
pub record IsStep (image : Image) (layout : Layout) (entry : ℕ) (step : Step) : Type 0 where
  pub node : IsNode image layout entry step.at
  pub stands : StandsAt image layout step.at step.op
  pub has : HasHeight image layout entry step.at (pos step.height)
  pub one : (height : ℤ) → HasHeight image layout entry step.at height → height ≡ pos step.height
  pub small : step.height ≤ 32766

-- one of the instructions stands at the offset
pub record HasStep (steps : List Step) (at : ℕ) : Type 0 where
  pub step : Step
  pub among : Contains steps step
  pub at_is : step.at ≡ at

-- just the instructions of the procedure with that entry
pub record AreSteps (image : Image) (layout : Layout) (entry : ℕ) (steps : List Step) : Type 0 where
  pub each : All (IsStep image layout entry) steps
  pub every : (at : ℕ) → IsNode image layout entry at → HasStep steps at

-- a procedure that is reached, with the number of its arguments, of which there are few
pub record IsBody (image : Image) (layout : Layout) (body : Body) : Type 0 where
  pub is_entry : IsEntry image layout body.entry
  pub framed : body.framed ≡ is_framed image layout body.entry
  pub arguments : HasArguments image layout body.entry body.args
  pub few : body.args ≤ 32
  pub steps : AreSteps image layout body.entry body.steps.items

-- the body of a procedure as it was found
pub record IsBodyOf (image : Image) (layout : Layout) (proc : Proc) (body : Body) : Type 0 where
  pub entry_is : body.entry ≡ proc.entry
  pub is_body : IsBody image layout body

-- a procedure that is reached, the heights of its nodes, what its RETs remove, and whether it is the entry procedure
pub record IsMeasured
    (image : Image) (layout : Layout) (proc : Proc) (heights : List (ℕ × ℕ)) (removed : ℕ)
    (is_start : Bool) : Type 0 where
  pub is_entry : IsEntry image layout proc.entry
  pub found : IsFound image layout proc
  pub heights_are : AreHeightsOf image layout proc heights
  pub removed_is : IsRemoved image layout proc.entry removed
  pub accepted : IsAcceptedByHeights image layout
  pub start : is_start ≡ true → proc.entry ≡ layout.start_ip
  pub other : is_start ≡ false → proc.entry ≢ layout.start_ip

-- the body is the procedure's in every program in which these are its heights, what its RETs remove and whether it is
-- the entry procedure; `IsBodyRefusal`: every such program is refused so
abbrev pub IsBodyOfAll : Proc → List (ℕ × ℕ) → ℕ → Bool → Body → Type 0
IsBodyOfAll proc heights removed is_start body =
    (image : Image) (layout : Layout)
    → IsMeasured image layout proc heights removed is_start
    → IsBodyOf image layout proc body

abbrev pub IsBodyRefusal : Proc → List (ℕ × ℕ) → ℕ → Bool → Refusal → Type 0
IsBodyRefusal proc heights removed is_start refusal =
    (image : Image) (layout : Layout)
    → IsMeasured image layout proc heights removed is_start
    → IsRefusedByFrames image layout refusal

-- procedures as they are found, with their heights
pub record AreMeasured (image : Image) (layout : Layout) (procs : List Proc) (heights : Heights) : Type 0 where
  pub found : AreFound image layout procs
  pub heights_are : AreHeights image layout procs heights

-- the bodies of procedures in their order
abbrev pub AreBodies : Image → Layout → List Proc → List Body → Type 0
AreBodies image layout procs bodies = AllZip (IsBodyOf image layout) procs bodies

-- the bodies are those of the procedures in every program in which they have these heights; `IsBodiesRefusal`: every
-- such program is refused so
abbrev pub AreBodiesOfAll : List Proc → Heights → List Body → Type 0
AreBodiesOfAll procs heights bodies =
    (image : Image) (layout : Layout) → AreMeasured image layout procs heights → AreBodies image layout procs bodies

abbrev pub IsBodiesRefusal : List Proc → Heights → Refusal → Type 0
IsBodiesRefusal procs heights refusal =
    (image : Image) (layout : Layout)
    → AreMeasured image layout procs heights
    → IsRefusedByFrames image layout refusal

-- a procedure with that entry and that number of arguments is among the bodies
pub record HasBody (bodies : List Body) (entry count : ℕ) : Type 0 where
  pub body : Body
  pub among : Contains bodies body
  pub entry_is : body.entry ≡ entry
  pub count_is : body.args ≡ count

-- each body has its number of arguments among the counts, and no other entry has one
pub record AreCounts (bodies : List Body) (counts : ℕ → Option ℕ) : Type 0 where
  pub each : (entry count : ℕ) → counts entry ≡ Some count → HasBody bodies entry count
  pub every : All (λ (body : Body). (count : ℕ) × (counts body.entry ≡ Some count)) bodies

-- an entry has its number of arguments among the counts
pub record HasCount (image : Image) (layout : Layout) (counts : ℕ → Option ℕ) (entry : ℕ) : Type 0 where
  pub count : ℕ
  pub found : counts entry ≡ Some count
  pub arguments : HasArguments image layout entry count

-- each procedure that is reached has its number of arguments among the counts
abbrev pub HasCounts : Image → Layout → (ℕ → Option ℕ) → Type 0
HasCounts image layout counts = (entry : ℕ) → IsEntry image layout entry → HasCount image layout counts entry
