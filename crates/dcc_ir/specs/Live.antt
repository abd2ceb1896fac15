-- What is live (A. V. Aho, R. Sethi, J. D. Ullman, Compilers, 1986, 10.5).
use Rattle.std.specs.Prelude.{◌≡◌, ℕ, ◌<◌, ◌==◌, Bool, true, false, ◌&&◌, ◌||◌, not, ◌↔◌, List, [], ◌∷◌, length}
use Rattle.std.specs.Prelude.{flat_map, get_or, Contains}
use Rattle.std.specs.List.{list_any}
use Rattle.dcc_ir.specs.declared.syntax.Loc.{Loc}
use Rattle.dcc_ir.specs.Tree.{Expr, Stmt, Exit, Block, Graph}
use Rattle.dcc_ir.specs.Location.{same_location}
use Rattle.dcc_ir.specs.Run.{no_block}
use Rattle.dcc_ir.specs.Flow.{targets, IsPath}
use Rattle.dcc_ir.specs.Use.{reads_of, exprs_of, writes_of, exit_exprs}

-- the location is one of the list
abbrev pub is_among : List Loc → Loc → Bool
is_among locations location = list_any (same_location location) locations

-- one of the expressions reads the location
abbrev pub reads : List Expr → Loc → Bool
reads es location = is_among (flat_map reads_of es) location

-- the location is read by these statements or the block's end before it is written
abbrev pub reads_first : List Stmt → Exit → Loc → Bool
reads_first [] exit location = reads (exit_exprs exit) location
reads_first (stmt ∷ stmts) exit location =
    reads (exprs_of stmt) location || (not (is_among (writes_of stmt) location) && reads_first stmts exit location)

-- one of the statements writes the location
abbrev pub writes : List Stmt → Loc → Bool
writes stmts location = is_among (flat_map writes_of stmts) location

-- the block at a place of a graph
abbrev pub block_in : Graph → ℕ → Block
block_in graph place = get_or graph.blocks place no_block

-- the block at the first place has an edge to that at the second
abbrev pub follows : Graph → ℕ → ℕ → Bool
follows graph a b = list_any (λ place. place == b) (targets (block_in graph a).exit)

-- a block that does not write the location
abbrev pub Passes : Graph → Loc → ℕ → Type 0
Passes graph location place = writes (block_in graph place).stmts location ≡ false

-- a path leads from the end of the block, through blocks that do not write the location, to one that reads it first
pub record IsLiveAfter (graph : Graph) (block : ℕ) (location : Loc) : Type 0 where
  pub between : List ℕ
  pub reader : ℕ
  pub path : IsPath (follows graph) (Passes graph location) block between reader
  pub read : reads_first (block_in graph reader).stmts (block_in graph reader).exit location ≡ true

-- the lists hold, for each block of the graph, exactly what is live at its end
pub record IsLive (graph : Graph) (at_end : List (List Loc)) : Type 0 where
  pub len : length at_end ≡ length graph.blocks
  pub exact : (block : ℕ) (location : Loc) → block < length graph.blocks
      → Contains (get_or at_end block []) location ↔ IsLiveAfter graph block location
