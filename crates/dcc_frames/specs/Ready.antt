-- What is found of one frame, and of all. This stands between the definitions and the code; no public contract rests
-- on it.
use Rattle.std.specs.Prelude.{◌≡◌, ◌≤◌, ℕ, ◌<ℤ◌, Bool, not, ◌==◌, ◌||◌, List, map, All, AllPairs, Contains, Option}
use Rattle.std.specs.List.{AllZip}
use Rattle.dcc_machine.specs.declared.image.Image.{Image}
use Rattle.dcc_prog.specs.declared.procedure.Layout.{Layout}
use Rattle.dcc_prog.specs.declared.frame.Cell.{Cell}
use Rattle.dcc_prog.specs.declared.frame.Frame.{Frame}
use Rattle.dcc_prog.specs.declared.refusal.ConstructKind.{ConstructKind}
use Rattle.dcc_prog.specs.declared.refusal.Refusal.{Refusal}
use Rattle.dcc_prog.specs.Trail.{IsNode}
use Rattle.dcc_prog.specs.FrameForm.{is_framed}
use Rattle.dcc_prog.specs.Frame.{Span, HasArguments, IsCell, HasExposedLocal, HasExposedArguments}
use Rattle.dcc_prog.specs.Construct.{IsAtFrame}
use Rattle.dcc_prog.specs.Limit.{HasMany}
use Rattle.dcc_prog.specs.Refused.{IsRefusedByFrames}
use Rattle.dcc_prog.specs.Analysed.{bytes_of}
use Rattle.dcc_frames.specs.declared.body.Body.{Body}
use Rattle.dcc_frames.specs.Body.{IsBody, HasCounts}

-- a procedure, the numbers of arguments of all procedures, and how far the stack segment begins above the data segment
pub record IsReady
    (image : Image) (layout : Layout) (body : Body) (counts : ℕ → Option ℕ) (delta : ℕ) : Type 0 where
  pub is_body : IsBody image layout body
  pub has_counts : HasCounts image layout counts
  pub delta_is : delta ≡ layout.delta

-- the frame of the procedure with this entry, in which no construct stands and no count is too great
pub record IsFrameAt (image : Image) (layout : Layout) (entry : ℕ) (frame : Frame) : Type 0 where
  pub framed : frame.framed ≡ is_framed image layout entry
  pub arguments : HasArguments image layout entry frame.args
  pub cells : All (λ cell. IsCell image layout entry (bytes_of cell)) frame.cells.items
  pub ascending : AllPairs (λ (a b : Cell). a.first <ℤ b.first) frame.cells.items
  pub every : (cell : Span) → IsCell image layout entry cell → Contains (map bytes_of frame.cells.items) cell
  pub local : HasExposedLocal image layout entry frame.exposed.local
  pub argument : HasExposedArguments image layout entry frame.exposed.arg
  pub clean : (kind : ConstructKind) (at : ℕ) → IsNode image layout entry at → ¬ IsAtFrame image layout entry at kind
  pub few_cells : ¬ HasMany (IsCell image layout entry) 513
  pub few_arguments : (count : ℕ) → HasArguments image layout entry count → count ≤ 32

-- procedures that are reached, the numbers of arguments of all procedures, and how far the stack segment begins above
-- the data segment
pub record AreAllReady
    (image : Image) (layout : Layout) (bodies : List Body) (counts : ℕ → Option ℕ) (delta : ℕ) : Type 0 where
  pub are_bodies : All (IsBody image layout) bodies
  pub has_counts : HasCounts image layout counts
  pub delta_is : delta ≡ layout.delta

-- the frames of procedures in their order
abbrev pub AreFramesAt : Image → Layout → List Body → List Frame → Type 0
AreFramesAt image layout bodies frames = AllZip (λ (body : Body). IsFrameAt image layout body.entry) bodies frames

-- the frame is the procedure's in every program for which the procedure is ready with these counts and this distance;
-- `IsFrameRefusal`: every such program is refused so
abbrev pub IsFrameOfAll : Body → (ℕ → Option ℕ) → ℕ → Frame → Type 0
IsFrameOfAll body counts delta frame =
    (image : Image) (layout : Layout)
    → IsReady image layout body counts delta
    → IsFrameAt image layout body.entry frame

abbrev pub IsFrameRefusal : Body → (ℕ → Option ℕ) → ℕ → Refusal → Type 0
IsFrameRefusal body counts delta refusal =
    (image : Image) (layout : Layout)
    → IsReady image layout body counts delta
    → IsRefusedByFrames image layout refusal

-- the frames are those of the procedures in every program for which all are ready with these counts and this distance;
-- `IsFramesRefusal`: every such program is refused so
abbrev pub AreFramesOfEach : List Body → (ℕ → Option ℕ) → ℕ → List Frame → Type 0
AreFramesOfEach bodies counts delta frames =
    (image : Image) (layout : Layout)
    → AreAllReady image layout bodies counts delta
    → AreFramesAt image layout bodies frames

abbrev pub IsFramesRefusal : List Body → (ℕ → Option ℕ) → ℕ → Refusal → Type 0
IsFramesRefusal bodies counts delta refusal =
    (image : Image) (layout : Layout)
    → AreAllReady image layout bodies counts delta
    → IsRefusedByFrames image layout refusal

-- the frame's addresses can't be told
abbrev pub lacks_addresses : ℕ → Bool → Bool
lacks_addresses delta framed = not (delta == 0) || not framed
