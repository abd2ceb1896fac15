use Rattle.std.proofs.Common.{◌≡◌, None, All, take}
use Rattle.dcc_frames.specs.declared.bytes.Piece.{Piece}
use Rattle.dcc_frames.specs.CellLists.{long_user}
use Rattle.dcc_frames.proofs.cell.check_extents.Given as goal

abbrev pub invariant-loop-extent : goal.invariant-loop-extent
invariant-loop-extent l = All (λ (extent : Piece). long_user l.lacks_addresses extent
    ≡ None) (take l.extent-index l.extents)
