-- Which locations matter where, and assignments that may go since what they set doesn't matter.
use Rattle.std.specs.Prelude.{◌≡◌, ℕ, true, false, ◌⊎◌, List, [], ◌∷◌, Contains, slice_get, Some}
use Rattle.std.specs.List.{AllZip}
use Rattle.dcc_ir.specs.declared.syntax.Loc.{Loc}
use Rattle.dcc_ir.specs.Tree.{Stmt, Block, Graph}
use Rattle.dcc_ir.specs.Use.{writes_of}
use Rattle.dcc_ir.specs.Demand.{is_assignment, uses_of, makes_of, tests_of, IsNeededIn}
use Rattle.dcc_ir.specs.Flow.{targets}
use Rattle.dcc_ir.specs.Live.{block_in, reads_first, writes, IsLiveAfter}

-- a family: which locations matter before the last statements of a block
abbrev pub Family : Type 1
Family = Block → List Stmt → Loc → Type 0

-- A family is closed: what a statement or a block's end uses matters before it; where a location that a statement
-- makes matters after it, what it is made of matters before it; what matters after a statement that doesn't write it
-- matters before it too; and what matters where a block begins matters at the end of each block that goes there.
pub record IsClosed (graph : Graph) (family : Family) : Type 0 where
  pub used : (block : Block) (stmt : Stmt) (rest : List Stmt) (location : Loc) → Contains (uses_of stmt) location
      → family block (stmt ∷ rest) location
  pub made_of : (block : Block) (stmt : Stmt) (rest : List Stmt) (location to : Loc) → Contains (writes_of stmt) to
      → Contains (makes_of stmt) location → family block rest to → family block (stmt ∷ rest) location
  pub left : (block : Block) (stmt : Stmt) (rest : List Stmt) (location : Loc) → ¬ Contains (writes_of stmt) location
      → family block rest location → family block (stmt ∷ rest) location
  pub tested : (block : Block) (location : Loc) → Contains (tests_of block.exit) location → family block [] location
  pub goes : (block next : Block) (place : ℕ) (location : Loc) → Contains (targets block.exit) place
      → slice_get graph.blocks place ≡ Some next → family next next.stmts location → family block [] location

-- the least closed family: what is needed
abbrev pub needed : Graph → Family
needed graph = IsNeededIn graph

-- A location is live where a block begins: the block reads it first, or it doesn't write it and it is live at its end.
abbrev pub IsLiveAtStart : Graph → ℕ → Loc → Type 0
IsLiveAtStart graph place location =
    let block = block_in graph place in
    (reads_first block.stmts block.exit location ≡ true)
    ⊎ ((writes block.stmts location ≡ false) × IsLiveAfter graph place location)

-- the family of what is live: the rest of the block reads the location first, or doesn't write it and the location is
-- live at the begin of a block to which the block goes
abbrev pub live : Graph → Family
live graph block stmts location =
    (reads_first stmts block.exit location ≡ true)
    ⊎ ((place : ℕ) × (writes stmts location ≡ false) × Contains (targets block.exit) place
    × IsLiveAtStart graph place location)

-- the family that has all locations everywhere
abbrev pub everything : Family
everything block stmts location = Unit {0}

-- the statement writes no location of the kind
abbrev pub WritesNone : (Loc → Type 0) → Stmt → Type 0
WritesNone Has stmt = (location : Loc) → Contains (writes_of stmt) location → ¬ Has location

-- the second statements are the first without some assignments to locations that don't matter after them
pub data IsWithout (Has : List Stmt → Loc → Type 0) : List Stmt → List Stmt → Type 0 where
  done : IsWithout Has [] []
  stays : {stmt : Stmt} {rest rest' : List Stmt} → IsWithout Has rest rest'
      → IsWithout Has (stmt ∷ rest) (stmt ∷ rest')
  goes : {stmt : Stmt} {rest rest' : List Stmt} → is_assignment stmt ≡ true → WritesNone (Has rest) stmt
      → IsWithout Has rest rest' → IsWithout Has (stmt ∷ rest) rest'

pub record IsBlockWithout (family : Family) (before after : Block) : Type 0 where
  pub at : after.at ≡ before.at
  pub exit : after.exit ≡ before.exit
  pub stmts : IsWithout (family before) before.stmts after.stmts

-- the second graph is the first without some assignments to locations that don't matter after them
pub record IsGraphWithout (family : Family) (before after : Graph) : Type 0 where
  pub entry : after.entry ≡ before.entry
  pub params : after.params ≡ before.params
  pub local : after.local ≡ before.local
  pub pushed : after.pushed ≡ before.pushed
  pub bits : after.bits ≡ before.bits
  pub blocks : AllZip (IsBlockWithout family) before.blocks after.blocks

-- Each assignment among the last statements of the block makes a location that is needed after it.
abbrev pub AllNeeded : Graph → Block → List Stmt → Type 0
AllNeeded graph block [] = Unit {0}
AllNeeded graph block (stmt ∷ rest) =
    (is_assignment stmt
    ≡ true → (location : Loc) × Contains (writes_of stmt) location × IsNeededIn graph block rest location)
    × AllNeeded graph block rest
