-- Settled copies: of a copy `W := T`, W is the name of T from then on. The writer of T writes W, what reads T reads W, and
-- the copy goes (coalescing).
use Rattle.std.specs.Prelude.{◌≡◌, ℕ, Bool, true, ◌&&◌, if◌then◌else◌, List, [], ◌∷◌, map, flat_map, Contains, slice_get, Some}
use Rattle.std.specs.List.{list_all}
use Rattle.dcc_ir.specs.declared.syntax.Loc.{Loc}
use Rattle.dcc_ir.specs.Tree.{Stmt, Block, Graph}
use Rattle.dcc_ir.specs.Location.{location_width}
use Rattle.dcc_ir.specs.Use.{reads_of, exprs_of, exit_exprs}
use Rattle.dcc_ir.specs.Flow.{targets}
use Rattle.dcc_ir.specs.WellFormed.{is_location}
use Rattle.dcc_passes.specs.Renaming.{renamed_stmt, renamed_exit}
use Rattle.dcc_webs.specs.Temporaries.{is_temp}
use Rattle.dcc_copies.specs.Held.{Held, is_own_copy, held_after, held_after_all}

-- The graph with names for locations.

module _ (name : Loc → Loc) where
  -- each location is its name, and copies of locations to their own names are gone
  abbrev pub settled_stmts : List Stmt → List Stmt
  settled_stmts [] = []
  settled_stmts (stmt ∷ rest) =
      if is_own_copy name stmt then settled_stmts rest else renamed_stmt name name stmt ∷ settled_stmts rest

  abbrev pub settled_block : Block → Block
  settled_block block = record block { stmts = settled_stmts block.stmts; exit = renamed_exit name block.exit }

  abbrev pub settled : Graph → Graph
  settled graph = record graph { blocks = map settled_block graph.blocks }

-- Which names are right.

-- the locations that a statement reads, and those that a block's end reads
abbrev pub stmt_reads : Stmt → List Loc
stmt_reads stmt = flat_map reads_of (exprs_of stmt)

abbrev pub end_reads : Block → List Loc
end_reads block = flat_map reads_of (exit_exprs block.exit)

module _ (name : Loc → Loc) where
  -- each location that the statements read is held by its name where it is read
  abbrev pub reads_are_held : List Stmt → Held → Bool
  reads_are_held [] held = true
  reads_are_held (stmt ∷ rest) held = list_all held (stmt_reads stmt) && reads_are_held rest (held_after name stmt held)

  -- Where these are held where each block begins, whatever the block reads is held where it is read, and what is held
  -- where a block begins is held at the end of each block that goes there.
  pub record IsRightBlock (begins : ℕ → Held) (place : ℕ) (block : Block) : Type 0 where
    pub stmts : reads_are_held block.stmts (begins place) ≡ true
    pub exit : list_all (held_after_all name block.stmts (begins place)) (end_reads block) ≡ true
    pub goes : (to : ℕ) → Contains (targets block.exit) to → (location : Loc) → begins to location ≡ true
        → held_after_all name block.stmts (begins place) location ≡ true

  -- A name has its location's width, and is a temporary where that is one. Where the graph begins, no locations are held
  -- but those that are their own names.
  pub record IsRight (graph : Graph) : Type 0 where
    pub widths : (location : Loc) → location_width graph.bits (name location) ≡ location_width graph.bits location
    pub places : (location : Loc) → is_location graph.bits (name location) ≡ is_location graph.bits location
    pub temps : (location : Loc) → is_temp (name location) ≡ is_temp location
    pub begins : ℕ → Held
    pub start : (location : Loc) → begins 0 location ≡ true → name location ≡ location
    pub blocks : (place : ℕ) (block : Block) → slice_get graph.blocks place ≡ Some block
        → IsRightBlock begins place block

-- the second graph is the first one with copies settled, one lot after another
pub data AreSettled : Graph → Graph → Type 0 where
  done : {graph : Graph} → AreSettled graph graph
  settles : {graph after : Graph} (name : Loc → Loc) → IsRight name graph → AreSettled (settled name graph) after
      → AreSettled graph after
