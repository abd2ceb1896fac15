use Rattle.std.proofs.Common.{◌≡◌, ◌++◌}
use Rattle.dcc_frames.specs.Pieces.{words_from}
use Rattle.dcc_frames.proofs.pieces.add_words.Given as goal

abbrev pub invariant-loop-number : goal.invariant-loop-number
invariant-loop-number l = l.pieces.items ≡ l.fn.pieces.items ++ words_from l.first l.number l.user
