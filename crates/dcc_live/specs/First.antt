-- What a block reads before it writes it, and how code tells it at the places of a list.
use Rattle.std.specs.Prelude.{◌≡◌, ℕ, ◌<◌, Bool, true, not, ◌↔◌, List, [], ◌∷◌, ◌++◌, length, get_or, filter, flat_map}
use Rattle.std.specs.Prelude.{slice_get, Some}
use Rattle.dcc_ir.specs.declared.syntax.Loc.{Loc}
use Rattle.dcc_ir.specs.Tree.{Graph}
use Rattle.dcc_ir.specs.Live.{IsLiveAfter}
use Rattle.dcc_flow.specs.Bits.{bit}
use Rattle.dcc_flow.specs.Uses.{AreLists}
use Rattle.dcc_live.specs.declared.rows.Row.{Row as RowOf}
use Rattle.dcc_flow.specs.Access.{Access, BlockAccess}
use Rattle.dcc_flow.specs.Marks.{empty, with_all}

-- the locations of a list that are not in the set
abbrev pub others : (Loc → Bool) → List Loc → List Loc
others written xs = filter (λ x. not (written x)) xs

-- what these statements, and the end after them, read before they write it, where this was written before
abbrev pub first_reads : (Loc → Bool) → List Access → List Loc → List Loc
first_reads written [] last = others written last
first_reads written (a ∷ stmts) last = others written a.reads ++ first_reads (with_all written a.writes) stmts last

-- what a block reads before it writes it, and what it writes
pub record Row : Type 0 where
  pub first : List Loc
  pub writes : List Loc

abbrev pub row_of : BlockAccess → Row
row_of b = record { first = first_reads empty b.stmts b.last; writes = flat_map (λ a. a.writes) b.stmts }

abbrev pub row_in : RowOf → Row
row_in r = record { first = r.first.items; writes = r.writes.items }

-- at the place of each location the bits tell whether it is in the set
abbrev pub Tells : List Loc → (Loc → Bool) → List Bool → Type 0
Tells places has bits = (k : ℕ) (x : Loc) → slice_get places k ≡ Some x → bit bits k ≡ has x

-- at the place of each location the bits tell whether it is in the list
abbrev pub TellsOf : List Loc → List Loc → List Bool → Type 0
TellsOf places xs bits = Tells places (with_all empty xs) bits

-- for each block the bits tell which of these locations it reads before it writes them, and which it writes
pub record AreTold (places : List Loc) (rows : List Row) (used written : List (List Bool)) : Type 0 where
  pub used_are : AreLists (length rows) (length places) used
  pub written_are : AreLists (length rows) (length places) written
  pub tell_used : (block : ℕ) (row : Row) → slice_get rows block ≡ Some row
      → TellsOf places row.first (get_or used block [])
  pub tell_written : (block : ℕ) (row : Row) → slice_get rows block ≡ Some row
      → TellsOf places row.writes (get_or written block [])

-- for each block the bits tell which of these locations are live at its end
pub record AreLiveBits (graph : Graph) (places : List Loc) (answer : List (List Bool)) : Type 0 where
  pub are : AreLists (length graph.blocks) (length places) answer
  pub exact : (block k : ℕ) (x : Loc) → block < length graph.blocks → slice_get places k ≡ Some x
      → (bit (get_or answer block []) k ≡ true) ↔ IsLiveAfter graph block x
