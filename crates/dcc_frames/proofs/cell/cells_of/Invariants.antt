use Rattle.std.proofs.Common.{◌≡◌, ◌≤◌, take, length}
use Rattle.dcc_frames.specs.CellLists.{cells_from}
use Rattle.dcc_frames.proofs.cell.cells_of.Given as goal

abbrev pub invariant-loop-extent : goal.invariant-loop-extent
invariant-loop-extent l = (l.cells.items ≡ cells_from (take l.extent-index l.extents)) × (length l.cells.items ≤ 512)
