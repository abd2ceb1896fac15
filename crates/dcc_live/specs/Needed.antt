-- How what is needed flows backwards through statements and blocks, and what is left of these.
use Rattle.std.specs.Prelude.{◌≡◌, ℕ, Bool, true, ◌&&◌, not, ◌↔◌, if◌then◌else◌, List, [], ◌∷◌, length, get_or}
use Rattle.std.specs.Prelude.{slice_get, Some, map}
use Rattle.std.specs.List.{list_any}
use Rattle.dcc_ir.specs.declared.syntax.Loc.{Loc}
use Rattle.dcc_ir.specs.Tree.{Stmt, Block, Graph}
use Rattle.dcc_ir.specs.Demand.{IsNeededIn}
use Rattle.dcc_flow.specs.Uses.{AreLists}
use Rattle.dcc_flow.specs.Access.{Access, BlockAccess, access_of, block_access_of}
use Rattle.dcc_flow.specs.Marks.{empty, with_all, without_all, selected}

-- the statement stays where this is needed after it
abbrev pub stays : Access → (Loc → Bool) → Bool
stays a needed = not (a.assigns && not (list_any needed a.writes))

-- what is needed before a statement, where this is needed after it
abbrev pub before_one : Access → (Loc → Bool) → Loc → Bool
before_one a needed = if stays a needed then with_all (without_all needed a.writes) a.reads else needed

-- what is needed before statements
abbrev pub before_all : List Access → (Loc → Bool) → Loc → Bool
before_all [] needed = needed
before_all (a ∷ stmts) needed = before_one a (before_all stmts needed)

-- what is needed after the statements of a block, where these places of locations are needed after the block
abbrev pub after_stmts : List Loc → List Bool → List Loc → Loc → Bool
after_stmts places bits last = with_all (with_all empty (selected places bits)) last

-- what is needed before a block
abbrev pub before_block : List Loc → List Bool → BlockAccess → Loc → Bool
before_block places bits b = before_all b.stmts (after_stmts places bits b.last)

-- For each block the bits tell which of these locations are needed at its end; with what the end itself reads, nothing
-- else is needed after its statements.
pub record AreNeededAtEnds (graph : Graph) (places : List Loc) (at_end : List (List Bool)) : Type 0 where
  pub are : AreLists (length graph.blocks) (length places) at_end
  pub exact : (place : ℕ) (block : Block) (x : Loc) → slice_get graph.blocks place ≡ Some block
      → (after_stmts places (get_or at_end place []) (block_access_of block).last x ≡ true)
      ↔ IsNeededIn graph block [] x

-- the statements that stay, where this is needed after them
abbrev pub left_of : List Stmt → (Loc → Bool) → List Stmt
left_of [] needed = []
left_of (stmt ∷ rest) needed =
    if stays (access_of stmt) (before_all (map access_of rest) needed) then stmt ∷ left_of rest needed
    else left_of rest needed

-- what is left of a block
abbrev pub block_left : List Loc → List Bool → Block → Block
block_left places bits b =
    record b { stmts = left_of b.stmts (after_stmts places bits (block_access_of b).last) }

-- what is left of each block
abbrev pub blocks_left : List Loc → List (List Bool) → List Block → List Block
blocks_left places (bits ∷ at_end) (b ∷ blocks) = block_left places bits b ∷ blocks_left places at_end blocks
blocks_left places at_end blocks = []
