-- The cells of extents, and the extents that are too long for one, as lists. This stands between the definitions and
-- the code; no public contract rests on it.
use Rattle.std.specs.Prelude.{◌≡◌, ◌<◌, ℕ, pos, ◌+ℤ◌, int_le, Bool, not, ◌||◌, if◌then◌else◌, List, length, Contains}
use Rattle.std.specs.Prelude.{Option, Some, None}
use Rattle.std.specs.List.{flat_map}
use Rattle.std.specs.Option.{option_to_list}
use Rattle.dcc_prog.specs.declared.frame.Cell.{Cell}
use Rattle.dcc_prog.specs.declared.refusal.ConstructKind.TheVariants.{FrameAccess}
use Rattle.dcc_prog.specs.declared.refusal.FrameFault.TheVariants.{LongExtent}
use Rattle.dcc_prog.specs.declared.refusal.LimitName.TheVariants.{Cells}
use Rattle.dcc_prog.specs.declared.refusal.Refusal.{Refusal}
use Rattle.dcc_prog.specs.declared.refusal.Refusal.TheVariants.{Construct, Limit, Memory}
use Rattle.dcc_frames.specs.declared.bytes.Bytes.{Bytes}
use Rattle.dcc_frames.specs.declared.bytes.Piece.{Piece}
use Rattle.dcc_frames.specs.Bytes.{is_small}

-- the cell of one or two bytes
abbrev pub cell_of : Bytes → Cell
cell_of bytes = record { first = bytes.first; size = if int_le bytes.end (bytes.first +ℤ pos 1) then 1 else 2 }

-- the cell of an extent, if it has at most two bytes
abbrev pub small_cell : Piece → Option Cell
small_cell extent = if is_small extent.bytes then Some (cell_of extent.bytes) else None

abbrev pub cells_from : List Piece → List Cell
cells_from extents = flat_map (λ extent. option_to_list (small_cell extent)) extents

-- there are too many cells, or there is no memory for them
abbrev pub IsOverfull : List Cell → Refusal → Type 0
IsOverfull cells (Limit Cells count) = (count ≡ 513) × (512 < length cells)
IsOverfull cells Memory = Unit {0}
IsOverfull cells refusal = ⊥

-- the user of an extent that is too long for a cell, where the frame's addresses can't be told
abbrev pub long_user : Bool → Piece → Option ℕ
long_user lacks_addresses extent = if not lacks_addresses || is_small extent.bytes then None else extent.user

-- one of the extents is too long, and this is told at its user
pub data IsToldOfExtents (lacks_addresses : Bool) (extents : List Piece) : Refusal → Type 0 where
  told :
      {extent : Piece} {at : ℕ}
      → Contains extents extent
      → long_user lacks_addresses extent ≡ Some at
      → IsToldOfExtents lacks_addresses extents (Construct (FrameAccess LongExtent) at)
