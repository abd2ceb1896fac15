-- The search for the heights of a procedure. This stands between the definitions and the code; no public contract rests
-- on it.
use Rattle.std.specs.Prelude.{◌≡◌, ◌≢◌, ◌<◌, ℕ, ◌==◌, ◌&&◌, not, nat_eq, Bool, true, false, ℤ, pos, List, [], ◌∷◌, ◌++◌}
use Rattle.std.specs.Prelude.{slice_get, All, Contains, Option, Some, None}
use Rattle.std.specs.Map.{lookup}
use Rattle.dcc_machine.specs.declared.image.Image.{Image}
use Rattle.dcc_prog.specs.declared.procedure.Layout.{Layout}
use Rattle.dcc_prog.specs.declared.procedure.Node.{Node}
use Rattle.dcc_prog.specs.declared.procedure.Proc.{Proc}
use Rattle.dcc_machine.specs.declared.instr.Op.{Op}
use Rattle.dcc_prog.specs.declared.refusal.ConstructKind.TheVariants.{OutsideProfile, StackHeight}
use Rattle.dcc_prog.specs.declared.refusal.Refusal.{Refusal}
use Rattle.dcc_prog.specs.declared.refusal.Refusal.TheVariants.{Construct, Memory}
use Rattle.dcc_prog.specs.FrameForm.{is_framed}
use Rattle.dcc_prog.specs.Found.{IsFound}
use Rattle.dcc_heights.specs.Moves.{removed_in, height_after}
use Rattle.dcc_heights.specs.Form.{is_misplaced, is_bad}

-- A procedure as the search sees it: with whether it is framed, and with what a CALL removes, by the entries of the
-- procedures.
pub record SearchedProcedure : Type 0 where
  pub entry : ℕ
  pub framed : Bool
  pub nodes : List (ℕ × Node)
  pub removed : List (ℕ × ℕ)

abbrev pub searched_procedure : Proc → Bool → List (ℕ × ℕ) → SearchedProcedure
searched_procedure proc framed removed =
    record { entry = proc.entry; framed = framed; nodes = proc.nodes.entries; removed = removed }

-- the node at an offset
abbrev pub node_in : SearchedProcedure → ℕ → Option Node
node_in scene at = lookup (nat_eq at) scene.nodes

-- the height that an offset has so far
abbrev pub height_in : List (ℕ × ℕ) → ℕ → Option ℕ
height_in heights at = lookup (nat_eq at) heights

-- One instruction.

-- the height after the operation, where this is the height before it
abbrev pub after_in : SearchedProcedure → Op → ℕ → ℤ
after_in scene op height = height_after (removed_in scene.removed) op (pos height)

-- in a framed procedure, and not at its entry, the form stands at a height at which it is none
abbrev pub is_misplaced_in : SearchedProcedure → ℕ → Op → ℕ → Bool
is_misplaced_in scene at op height = scene.framed && not (at == scene.entry) && is_misplaced op height

-- the operation may stand at the height, and leads to the other one
pub record IsStep (scene : SearchedProcedure) (at : ℕ) (op : Op) (height after : ℕ) : Type 0 where
  pub placed : is_misplaced_in scene at op height ≡ false
  pub fine : is_bad scene.framed op height (after_in scene op height) ≡ false
  pub after_is : after_in scene op height ≡ pos after

-- the operation may not stand at the height, and is refused for that
pub data IsStepFault (scene : SearchedProcedure) (at : ℕ) (op : Op) (height : ℕ) : Refusal → Type 0 where
  misplaced : is_misplaced_in scene at op height ≡ true → IsStepFault scene at op height (Construct OutsideProfile at)
  bad :
      is_bad scene.framed op height (after_in scene op height) ≡ true
      → IsStepFault scene at op height (Construct StackHeight at)

-- a trail comes to an offset at a height, which is the first one there or the known one
pub data IsArrived (old new : List (ℕ × ℕ)) (to height : ℕ) : Type 0 where
  known : height_in old to ≡ Some height → new ≡ old → IsArrived old new to height
  first : height_in old to ≡ None → new ≡ old ++ (to, height) ∷ [] → IsArrived old new to height

-- the offset has another height, or there is no memory for one
pub data IsArrivalFault (old : List (ℕ × ℕ)) (to height : ℕ) : Refusal → Type 0 where
  other :
      {known : ℕ}
      → height_in old to ≡ Some known
      → known ≢ height
      → IsArrivalFault old to height (Construct StackHeight to)
  no_memory : IsArrivalFault old to height Memory

-- The search.

-- going from the entry to successors, an offset is reached at a height
pub data IsReachedAt (scene : SearchedProcedure) : ℕ → ℕ → Type 0 where
  entered : IsReachedAt scene scene.entry 0
  gone_on :
      {from to height after : ℕ} {node : Node}
      → IsReachedAt scene from height
      → node_in scene from ≡ Some node
      → IsStep scene from node.instr.op height after
      → Contains node.succ.items to
      → IsReachedAt scene to after

-- an offset that is reached has a fault
pub data IsFault (scene : SearchedProcedure) : Refusal → Type 0 where
  of_step :
      {at height : ℕ} {node : Node} {refusal : Refusal}
      → IsReachedAt scene at height
      → node_in scene at ≡ Some node
      → IsStepFault scene at node.instr.op height refusal
      → IsFault scene refusal
  two_heights :
      {at height other : ℕ}
      → IsReachedAt scene at height
      → IsReachedAt scene at other
      → height ≢ other
      → IsFault scene (Construct StackHeight at)
  no_memory : IsFault scene Memory

-- the heights have all that the earlier ones have, at the same places
pub record Extends (old new : List (ℕ × ℕ)) : Type 0 where
  pub heights : (at height : ℕ) → height_in old at ≡ Some height → height_in new at ≡ Some height
  pub places : (k : ℕ) (entry : ℕ × ℕ) → slice_get old k ≡ Some entry → slice_get new k ≡ Some entry

-- the node at an offset may stand at the height, and each of its successors has the height after it
pub record IsClosedAt (scene : SearchedProcedure) (heights : List (ℕ × ℕ)) (at height : ℕ) (node : Node) : Type 0 where
  pub after : ℕ
  pub step : IsStep scene at node.instr.op height after
  pub onward : All (λ to. height_in heights to ≡ Some after) node.succ.items

-- the offsets are reached at their heights, and are offsets of a segment
pub record AreReached (scene : SearchedProcedure) (heights : List (ℕ × ℕ)) : Type 0 where
  pub start : height_in heights scene.entry ≡ Some 0
  pub reached : (at height : ℕ) → height_in heights at ≡ Some height → IsReachedAt scene at height
  pub small : (at height : ℕ) → height_in heights at ≡ Some height → at < 65536

-- from an offset with the height `after` behind its operation, the search has gone on to the successors in `passed`
pub record IsGoing (scene : SearchedProcedure) (old new : List (ℕ × ℕ)) (after : ℕ) (passed : List ℕ) : Type 0 where
  pub are : AreReached scene new
  pub extends : Extends old new
  pub onward : All (λ to. height_in new to ≡ Some after) passed

-- the offset at a place was followed
pub record IsFollowed (scene : SearchedProcedure) (old new : List (ℕ × ℕ)) (place : ℕ) : Type 0 where
  pub are : AreReached scene new
  pub extends : Extends old new
  pub closed :
      (at height : ℕ) (node : Node)
      → slice_get new place ≡ Some (at, height)
      → node_in scene at ≡ Some node
      → IsClosedAt scene new at height node

-- what is found, where the offsets below a place were followed
pub record IsSearched (scene : SearchedProcedure) (heights : List (ℕ × ℕ)) (next : ℕ) : Type 0 where
  pub are : AreReached scene heights
  pub closed :
      (k at height : ℕ) (node : Node)
      → k < next
      → slice_get heights k ≡ Some (at, height)
      → node_in scene at ≡ Some node
      → IsClosedAt scene heights at height node

-- all heights: the entry has 0, and from each offset with a height the search went on
pub record AreAllHeights (scene : SearchedProcedure) (heights : List (ℕ × ℕ)) : Type 0 where
  pub start : height_in heights scene.entry ≡ Some 0
  pub closed :
      (at height : ℕ) (node : Node)
      → height_in heights at ≡ Some height
      → node_in scene at ≡ Some node
      → IsClosedAt scene heights at height node

-- One procedure.

-- whether the procedure is framed, as it is in every program in which it is found
abbrev pub TellsFramed : Proc → Bool → Type 0
TellsFramed proc framed =
    (image : Image) (layout : Layout) → IsFound image layout proc → framed ≡ is_framed image layout proc.entry

-- the height of an offset, if it has one
abbrev pub entry_of : ℕ → Option ℕ → List (ℕ × ℕ)
entry_of at None = []
entry_of at (Some height) = (at, height) ∷ []

-- the heights of the nodes, in their order
abbrev pub ordered_by : List (ℕ × ℕ) → List (ℕ × Node) → List (ℕ × ℕ)
ordered_by heights [] = []
ordered_by heights (node ∷ nodes) = entry_of node.0 (height_in heights node.0) ++ ordered_by heights nodes

-- the heights of a procedure's nodes, by how many bytes a CALL of each procedure removes
pub record AreHeightsBy (removed : List (ℕ × ℕ)) (proc : Proc) (heights : List (ℕ × ℕ)) : Type 0 where
  pub framed : Bool
  pub framed_is : TellsFramed proc framed
  pub found : List (ℕ × ℕ)
  pub all : AreAllHeights (searched_procedure proc framed removed) found
  pub ordered : heights ≡ ordered_by found proc.nodes.entries

-- a fault in the procedure
pub record HasFault (removed : List (ℕ × ℕ)) (proc : Proc) (refusal : Refusal) : Type 0 where
  pub framed : Bool
  pub framed_is : TellsFramed proc framed
  pub fault : IsFault (searched_procedure proc framed removed) refusal
