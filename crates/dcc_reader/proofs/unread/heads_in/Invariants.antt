use Rattle.std.proofs.Common.{◌≡◌, ◌++◌, length, map}
use Rattle.dcc_c.specs.Known.{known_functions, heads_in}
use Rattle.dcc_lex.specs.PiecesViews.{pieces_of}
use Rattle.dcc_reader.specs.PartialViews.{function_of}
use Rattle.dcc_reader.proofs.unread.heads_in.Given as goal

-- with the heads that are left, all are there
abbrev pub invariant-loop-left : goal.invariant-loop-left
invariant-loop-left l = known_functions (map function_of l.heads.items) ++ heads_in (pieces_of l.left) ≡ heads_in (pieces_of l.rest)

abbrev pub decreases-loop-left : goal.decreases-loop-left
decreases-loop-left l = length (pieces_of l.left)
