-- What is found of one procedure, and of those that were reached so far. This stands between the definitions and the
-- code; no public contract rests on it.
use Rattle.std.specs.Prelude.{◌≡◌, ◌≢◌, ◌≤◌, ◌<◌, ℕ, List, [], ◌∷◌, ◌++◌, length, get_or, map, sum_by, take, AllPairs}
use Rattle.std.specs.Prelude.{All, Contains, Some}
use Rattle.dcc_machine.specs.declared.image.Image.{Image}
use Rattle.dcc_prog.specs.declared.procedure.Layout.{Layout}
use Rattle.dcc_prog.specs.declared.procedure.Node.{Node}
use Rattle.dcc_prog.specs.declared.procedure.Proc.{Proc}
use Rattle.dcc_machine.specs.declared.instr.Op.{Op}
use Rattle.dcc_machine.specs.declared.instr.Op.TheVariants.{Call}
use Rattle.dcc_prog.specs.Trail.{StandsAt, IsNode}
use Rattle.dcc_prog.specs.Construct.{HasNumber, IsAtNode}
use Rattle.dcc_prog.specs.Found.{IsFound}
use Rattle.dcc_procs.specs.declared.procedures.Finder.{Finder}
use Rattle.dcc_prog.specs.declared.refusal.ConstructKind.{ConstructKind}
use Rattle.dcc_procs.specs.Search.{work_of, IsFresh}
use Rattle.dcc_procs.specs.Entries.{AreAllReached, AreEntries}

-- the procedure with that entry, in which no construct stands and no count is too great
pub record IsProcedure (image : Image) (layout : Layout) (entry : ℕ) (proc : Proc) : Type 0 where
  pub entry_is : proc.entry ≡ entry
  pub found : IsFound image layout proc
  pub clean : (kind : ConstructKind) (at : ℕ) → IsNode image layout entry at → ¬ IsAtNode image layout entry at kind
  pub few : length proc.nodes.entries ≤ 4096
  pub small : (at number : ℕ) → HasNumber image layout entry at (Some number) → number ≤ 255

-- the target, if the operation is a call
abbrev pub target_of : Op → List ℕ
target_of (Call target) = target ∷ []
target_of op = []

-- the targets of the calls
abbrev pub calls_of : List (ℕ × Node) → List ℕ
calls_of [] = []
calls_of (node ∷ rest) = target_of node.1.instr.op ++ calls_of rest

-- how many instructions the procedures have
abbrev pub total_of : List Proc → ℕ
total_of procs = sum_by (λ proc. length proc.nodes.entries) procs

-- the target of each call of the procedure is among the entries
abbrev pub HasCallees : Image → Layout → ℕ → List ℕ → Type 0
HasCallees image layout entry entries =
    (at target : ℕ) → IsNode image layout entry at → StandsAt image layout at (Call target) → Contains entries target

-- the procedures of the first entries, of which the entry procedure is the first
pub record AreFirst (image : Image) (layout : Layout) (entries : List ℕ) (procs : List Proc) : Type 0 where
  pub start : get_or entries 0 0 ≡ layout.start_ip
  pub some : 0 < length entries
  pub short : length procs ≤ length entries
  pub entries_are : map (λ proc. proc.entry) procs ≡ take (length procs) entries
  pub procedures : All (λ proc. IsProcedure image layout proc.entry proc) procs
  pub callees : All (λ proc. HasCallees image layout proc.entry entries) procs
  pub total : total_of procs ≤ 32768

-- what is found so far
pub record IsFinding (image : Image) (layout : Layout) (finder : Finder) : Type 0 where
  pub fresh : IsFresh (work_of finder.search)
  pub ready : length finder.ready.items ≡ 65536
  pub entries : AreEntries image layout finder.entries
  pub first : AreFirst image layout finder.entries.order.items finder.procs.items
  pub total_is : finder.total ≡ total_of finder.procs.items

-- the procedures of all entries that are reached, in the order in which they were reached
pub record AreReached (image : Image) (layout : Layout) (procs : List Proc) : Type 0 where
  pub entries : List ℕ
  pub reached : AreAllReached image layout entries
  pub distinct : AllPairs (λ x y. x ≢ y) entries
  pub few : length entries ≤ 512
  pub first : AreFirst image layout entries procs
  pub all : length procs ≡ length entries
