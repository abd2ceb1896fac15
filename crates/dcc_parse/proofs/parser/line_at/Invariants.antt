use Rattle.std.proofs.Common.{◌≡◌, ◌-◌}
use Rattle.dcc_c.specs.Pieces.{line_at}
use Rattle.dcc_lex.specs.PiecesViews.{pieces_of}
use Rattle.dcc_parse.proofs.parser.line_at.Given as goal

-- in what is left, the piece is by so much nearer
abbrev pub invariant-loop-passed : goal.invariant-loop-passed
invariant-loop-passed l = line_at (pieces_of l.left) l.last (l.at - l._passed) ≡ line_at (pieces_of l.pieces) l.last l.at
