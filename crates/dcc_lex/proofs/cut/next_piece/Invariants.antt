use Rattle.std.proofs.Common.{[], ◌≤◌, ◌+◌, length}
use Rattle.dcc_c.specs.Pieces.{cut}
use Rattle.dcc_lex.specs.CutViews.{spot_of, Continues}
use Rattle.dcc_lex.proofs.cut.next_piece.Given as goal

-- the cuts so far pass over a part of the bytes that has no piece
abbrev pub invariant-loop-rest : goal.invariant-loop-rest
invariant-loop-rest l =
    Continues (spot_of l.fn.spot) l.fn.line l.fn.bytes (cut [] (spot_of l.spot) l.line l.rest)
    × (l.line + length l.rest ≤ l.fn.line + length l.fn.bytes)
    × (length l.rest ≤ length l.fn.bytes)

abbrev pub decreases-loop-rest : goal.decreases-loop-rest
decreases-loop-rest l = length l.rest
