-- What is available along chains of blocks, of which each but the first has one edge in, from a Goto of the one before.
use Rattle.std.specs.Prelude.{◌≡◌, ◌≢◌, ℕ, List, [], ◌∷◌, ◌++◌, Contains, slice_get, Some}
use Rattle.dcc_ir.specs.declared.syntax.Loc.{Loc}
use Rattle.dcc_ir.specs.Tree.{Expr, Stmt, Call, Goto, Block, Graph}
use Rattle.dcc_ir.specs.Flow.{targets}
use Rattle.dcc_substitution.specs.Available.{Availability, IsAvailableAfter}

-- what is available after statements, where this is so before them
abbrev pub after_all : (Loc → Expr → Type 0) → List Stmt → Loc → Expr → Type 0
after_all Before [] = Before
after_all Before (stmt ∷ stmts) = after_all (IsAvailableAfter stmt Before) stmts

abbrev pub nothing : Loc → Expr → Type 0
nothing location e = ⊥

-- what statements that follow each other make available
abbrev pub along : List Stmt → Loc → Expr → Type 0
along stmts = after_all nothing stmts

-- An edge leaves of what is available just what is made of locations alone, as does a call that gives nothing back.
abbrev pub edge : Stmt
edge = Call [] 0 [] 0

-- the one edge to a block, no first one, comes from a Goto at the end of this one
pub record IsOnlyEdge (graph : Graph) (from : ℕ) (block : Block) (to : ℕ) : Type 0 where
  pub placed : slice_get graph.blocks from ≡ Some block
  pub goes : block.exit ≡ Goto to
  pub later : to ≢ 0
  pub only : (place : ℕ) (other : Block) → slice_get graph.blocks place ≡ Some other
      → Contains (targets other.exit) to → place ≡ from

-- the statements lead along a chain to the block at the place
pub data IsLead (graph : Graph) : ℕ → List Stmt → Type 0 where
  begins : {place : ℕ} → IsLead graph place []
  goes_on : {from to : ℕ} {block : Block} {lead : List Stmt} → IsOnlyEdge graph from block to → IsLead graph from lead
      → IsLead graph to (lead ++ (block.stmts ++ edge ∷ []))

-- the assignment is available before the last statements of the block at the place, along a chain to it
pub record IsAvailableAlong (graph : Graph) (place : ℕ) (rest : List Stmt) (location : Loc) (e : Expr) : Type 0 where
  pub lead : List Stmt
  pub leads : IsLead graph place lead
  pub block : Block
  pub placed : slice_get graph.blocks place ≡ Some block
  pub passed : List Stmt
  pub split : block.stmts ≡ passed ++ rest
  pub told : along (lead ++ passed) location e

-- what is available along the chains of a graph
abbrev pub chained : Graph → Availability
chained graph place rest location e = IsAvailableAlong graph place rest location e
