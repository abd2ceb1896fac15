use Rattle.std.proofs.Common.{◌≡◌, [], None, take}
use Rattle.dcc_frames.specs.Extents.{AreAscending, AreExtents, with_last}
use Rattle.dcc_frames.proofs.joined.extents.Given as goal

abbrev pub invariant-loop-piece : goal.invariant-loop-piece
invariant-loop-piece l =
    (l.last ≡ None → l.extents.items ≡ [])
    × (AreAscending l.pieces → AreExtents (take l.piece-index l.pieces) (with_last l.extents.items l.last))
