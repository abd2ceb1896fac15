-- Assignments that are available: made on each way to a place, and since then neither what they set nor what they read
-- was written (A. V. Aho, R. Sethi, J. D. Ullman, Compilers, 1986, 10.5).
use Rattle.std.specs.Prelude.{◌≡◌, ◌≢◌, ℕ, Bool, true, false, ◌&&◌, not, List, [], ◌∷◌, All, Contains, slice_get, Some}
use Rattle.std.specs.List.{list_any}
use Rattle.dcc_ir.specs.declared.syntax.Loc.{Loc}
use Rattle.dcc_ir.specs.Tree.{Expr, Get, Address, Stmt, Set, Store, Call, Block, Graph}
use Rattle.dcc_ir.specs.Location.{location_width}
use Rattle.dcc_ir.specs.Value.{width_of, Environment, value_of}
use Rattle.dcc_ir.specs.Use.{parts_of, reads_of, writes_of}
use Rattle.dcc_ir.specs.Joinable.{is_load}
use Rattle.dcc_ir.specs.Flow.{targets}
use Rattle.dcc_substitution.specs.Substitute.{IsSubstitute}

-- which assignments are available before the last statements of the block at a place: each by the location that it
-- sets and the expression of which that holds the value
abbrev pub Availability : Type 1
Availability = ℕ → List Stmt → Loc → Expr → Type 0

-- the expression reads the memory
abbrev pub loads : Expr → Bool
loads e = list_any is_load (parts_of e)

abbrev pub is_address : Expr → Bool
is_address (Address distance) = true
is_address _ = false

-- the expression has an address in the frame
abbrev pub addresses : Expr → Bool
addresses e = list_any is_address (parts_of e)

-- the expression's value is made of locations alone
abbrev pub is_of_locations : Expr → Bool
is_of_locations e = not (loads e) && not (addresses e)

-- The statement leaves what the expression reads outside of the locations. After a call just the locations are known.
abbrev pub leaves_outside : Stmt → Expr → Bool
leaves_outside (Store width address value) e = not (loads e)
leaves_outside (Call results entry arguments depth) e = is_of_locations e
leaves_outside stmt e = true

-- An assignment is available after a statement: the statement makes it, by a value, or by what may stand in the place of
-- its value, that doesn't read what it sets; or the statement copies the location, so that it holds what the copy holds;
-- or it was available, and the statement leaves the location and what the expression reads.
pub data IsAvailableAfter (stmt : Stmt) (Before : Loc → Expr → Type 0) (location : Loc) (e : Expr) : Type 0 where
  made : {value : Expr} → stmt ≡ Set location value → IsSubstitute Before value e → ¬ Contains (reads_of e) location
      → IsAvailableAfter stmt Before location e
  copied : {to : Loc} → stmt ≡ Set to (Get location) → e ≡ Get to → to ≢ location
      → IsAvailableAfter stmt Before location e
  left : Before location e → ¬ Contains (writes_of stmt) location
      → All (λ read. ¬ Contains (writes_of stmt) read) (reads_of e) → leaves_outside stmt e ≡ true
      → IsAvailableAfter stmt Before location e

module _ (graph : Graph) (available : Availability) where
  -- what is available after each of the last statements of the block at the place is so by what is before it
  abbrev pub AreRight : ℕ → List Stmt → Type 0
  AreRight place [] = Unit {0}
  AreRight place (stmt ∷ rest) =
      ((location : Loc) (e : Expr) → available place rest location e
      → IsAvailableAfter stmt (available place (stmt ∷ rest)) location e)
      × AreRight place rest

  -- The table is right: nothing is available where the graph begins; where a block begins just that is which is so at
  -- the end of each block that goes there, and is made of locations alone; each expression has its location's width.
  pub record IsRight : Type 0 where
    pub start : (block : Block) (location : Loc) (e : Expr) → slice_get graph.blocks 0 ≡ Some block
        → ¬ available 0 block.stmts location e
    pub stmts : (place : ℕ) (block : Block) → slice_get graph.blocks place ≡ Some block → AreRight place block.stmts
    pub goes : (place to : ℕ) (block next : Block) (location : Loc) (e : Expr)
        → slice_get graph.blocks place ≡ Some block → Contains (targets block.exit) to
        → slice_get graph.blocks to ≡ Some next → available to next.stmts location e
        → available place [] location e × (is_of_locations e ≡ true)
    pub widths : (place : ℕ) (rest : List Stmt) (location : Loc) (e : Expr) → available place rest location e
        → width_of graph.bits e ≡ location_width graph.bits location

-- each location of an assignment that is available holds the value of the expression
abbrev pub Holds : (Loc → Expr → Type 0) → Environment → Type 0
Holds Is scene = (location : Loc) (e : Expr) → Is location e → scene.values location ≡ value_of scene e
