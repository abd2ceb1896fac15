-- Graphs in which other locations stand for those that matter.
use Rattle.std.specs.Prelude.{◌≡◌, ◌≢◌, ℕ, List, [], ◌∷◌, length, map, flat_map, All, Contains, slice_get, Some}
use Rattle.dcc_ir.specs.declared.syntax.Loc.{Loc}
use Rattle.dcc_ir.specs.Tree.{Stmt, Block, Graph}
use Rattle.dcc_ir.specs.Location.{location_width}
use Rattle.dcc_ir.specs.Use.{reads_of, exprs_of, writes_of}
use Rattle.dcc_ir.specs.Demand.{tests_of}
use Rattle.dcc_ir.specs.Flow.{targets}
use Rattle.dcc_ir.specs.Families.{Family}
use Rattle.dcc_passes.specs.Renaming.{renamed_stmt, renamed_exit, renamed_param, param_places}

-- which location stands for another before the last statements of the block at a place
abbrev pub Renaming : Type 0
Renaming = ℕ → List Stmt → Loc → Loc

-- The locations are written as others: one that matters afterwards as what stands for it then, and none as what stands
-- for another one that matters.
pub record AreWrittenAs (Has : Loc → Type 0) (name written : Loc → Loc) (locations : List Loc) : Type 0 where
  pub taken : (location : Loc) → Contains locations location → Has location → written location ≡ name location
  pub apart : (location other : Loc) → Contains locations location → Has other → other ≢ location
      → written location ≢ name other

module _ (family : Family) (name : Renaming) (before after : Graph) where
  -- each of the locations has the width of what stands for it
  abbrev pub HaveWidths : (Loc → Loc) → List Loc → Type 0
  HaveWidths to locations =
      All (λ location. location_width after.bits (to location) ≡ location_width before.bits location) locations

  -- The second statement is the first one, before the last statements of the block at the place, with other locations.
  -- What it reads and what matters is read as what stands for it, and what isn't written is still stood for by the same.
  pub record IsRenamedStmt (place : ℕ) (block : Block) (stmt : Stmt) (rest : List Stmt) (new : Stmt) : Type 0 where
    pub read : Loc → Loc
    pub written : Loc → Loc
    pub is : new ≡ renamed_stmt read written stmt
    pub reads : (location : Loc) → Contains (flat_map reads_of (exprs_of stmt)) location
        → family block (stmt ∷ rest) location → read location ≡ name place (stmt ∷ rest) location
    pub read_widths : HaveWidths read (flat_map reads_of (exprs_of stmt))
    pub writes : AreWrittenAs (family block rest) (name place rest) written (writes_of stmt)
    pub write_widths : HaveWidths written (writes_of stmt)
    pub left : (location : Loc) → ¬ Contains (writes_of stmt) location → family block rest location
        → name place (stmt ∷ rest) location ≡ name place rest location

  -- the second statements are the first ones with other locations
  abbrev pub AreRenamed : ℕ → Block → List Stmt → List Stmt → Type 0
  AreRenamed place block [] [] = Unit {0}
  AreRenamed place block (stmt ∷ rest) (new ∷ news) =
      IsRenamedStmt place block stmt rest new × AreRenamed place block rest news
  AreRenamed place block _ _ = ⊥

  -- The second block is the first one with other locations. What matters where a block begins is stood for by the same
  -- at the end of each block that goes there.
  pub record IsRenamedBlock (place : ℕ) (block new : Block) : Type 0 where
    pub at : new.at ≡ block.at
    pub stmts : AreRenamed place block block.stmts new.stmts
    pub read : Loc → Loc
    pub exit : new.exit ≡ renamed_exit read block.exit
    pub reads : (location : Loc) → Contains (tests_of block.exit) location → read location ≡ name place [] location
    pub read_widths : HaveWidths read (tests_of block.exit)
    pub goes : (to : ℕ) (next : Block) (location : Loc) → Contains (targets block.exit) to
        → slice_get before.blocks to ≡ Some next → family next next.stmts location
        → name to next.stmts location ≡ name place [] location

  -- The arguments go to what stands for their places where the block, the first one, begins, and the fill has one width
  -- in what matters there and in what stands for it.
  pub record IsRenamedStart (start : Loc → Loc) (block : Block) : Type 0 where
    pub writes : AreWrittenAs (family block block.stmts) (name 0 block.stmts) start (param_places before.params)
    pub widths : (location : Loc) → family block block.stmts location
        → location_width after.bits (name 0 block.stmts location) ≡ location_width before.bits location

  -- the second graph is the first one with other locations
  pub record IsRenamed : Type 0 where
    pub entry : after.entry ≡ before.entry
    pub local : after.local ≡ before.local
    pub pushed : after.pushed ≡ before.pushed
    pub start : Loc → Loc
    pub params : after.params ≡ map (renamed_param start) before.params
    pub param_widths : HaveWidths start (param_places before.params)
    pub first : (block : Block) → slice_get before.blocks 0 ≡ Some block → IsRenamedStart start block
    pub count : length after.blocks ≡ length before.blocks
    pub blocks : (place : ℕ) (block new : Block) → slice_get before.blocks place ≡ Some block
        → slice_get after.blocks place ≡ Some new → IsRenamedBlock place block new
