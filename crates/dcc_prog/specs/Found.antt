-- The procedures of a program as they are found.
use Rattle.std.specs.Prelude.{◌≡◌, ◌≢◌, ◌<◌, ℕ, List, ◌∷◌, slice_get, All, AllPairs, Some, None}
use Rattle.dcc_machine.specs.declared.image.Image.{Image}
use Rattle.dcc_prog.specs.declared.procedure.Layout.{Layout}
use Rattle.dcc_prog.specs.declared.procedure.Node.{Node}
use Rattle.dcc_prog.specs.declared.procedure.Proc.{Proc}
use Rattle.dcc_prog.specs.declared.refusal.ConstructKind.{ConstructKind}
use Rattle.dcc_prog.specs.declared.refusal.LimitName.{LimitName}
use Rattle.dcc_machine.specs.declared.instr.Op.TheVariants.{Int21}
use Rattle.dcc_prog.specs.Trail.{instruction_in, known_ah, successors, IsTrail, IsNode, IsEntry}
use Rattle.dcc_prog.specs.Construct.{IsOfTrails}
use Rattle.dcc_prog.specs.Limit.{IsAbove}

-- the offset is a node, with its instruction, with the successors of every trail that ends there, and, if it is INT
-- 21h, with the number that every trail tells of AH
pub record IsNodeFound (image : Image) (layout : Layout) (entry : ℕ) (found : ℕ × Node) : Type 0 where
  pub node : IsNode image layout entry found.0
  pub instr : instruction_in image layout found.0 ≡ Some found.1.instr
  pub succ :
      (before : List ℕ)
      → IsTrail image layout entry (found.0 ∷ before)
      → found.1.succ.items ≡ successors image layout (found.0 ∷ before)
  pub number :
      found.1.instr.op ≡ Int21
      → (before : List ℕ)
      → IsTrail image layout entry (found.0 ∷ before)
      → known_ah image layout before ≡ found.1.number
  pub no_number : ¬ (found.1.instr.op ≡ Int21) → found.1.number ≡ None

-- an offset is among the nodes
pub record IsListed (nodes : List (ℕ × Node)) (at : ℕ) : Type 0 where
  pub node : Node
  pub place : ℕ
  pub listed : slice_get nodes place ≡ Some (at, node)

-- the procedure has just the nodes of its entry, in ascending order
pub record IsFound (image : Image) (layout : Layout) (proc : Proc) : Type 0 where
  pub nodes : All (IsNodeFound image layout proc.entry) proc.nodes.entries
  pub ascending : AllPairs (λ (a b : ℕ × Node). a.0 < b.0) proc.nodes.entries
  pub every : (at : ℕ) → IsNode image layout proc.entry at → IsListed proc.nodes.entries at

-- a procedure with that entry is among the procedures
pub record HasEntry (procs : List Proc) (entry : ℕ) : Type 0 where
  pub proc : Proc
  pub place : ℕ
  pub listed : slice_get procs place ≡ Some proc
  pub entry_is : proc.entry ≡ entry

-- the entry procedure stands first, and then the others in ascending order of their entries
pub record AreInOrder (layout : Layout) (procs : List Proc) : Type 0 where
  pub start : Proc
  pub others : List Proc
  pub procs_are : procs ≡ start ∷ others
  pub first : start.entry ≡ layout.start_ip
  pub apart : All (λ proc. proc.entry ≢ layout.start_ip) others
  pub ascending : AllPairs (λ (a b : Proc). a.entry < b.entry) others

-- the list has just the procedures that are reached, in order, each with just its nodes; no construct that trails tell
-- stands anywhere, and no count is too great
pub record AreFound (image : Image) (layout : Layout) (procs : List Proc) : Type 0 where
  pub order : AreInOrder layout procs
  pub reached : All (λ proc. IsEntry image layout proc.entry) procs
  pub every : (entry : ℕ) → IsEntry image layout entry → HasEntry procs entry
  pub found : All (IsFound image layout) procs
  pub no_construct : (kind : ConstructKind) (at : ℕ) → ¬ IsOfTrails kind image layout at
  pub no_limit : (what : LimitName) (count : ℕ) → ¬ IsAbove image layout what count
