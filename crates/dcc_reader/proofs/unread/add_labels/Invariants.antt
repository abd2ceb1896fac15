use Rattle.std.proofs.Common.{◌≡◌, length}
use Rattle.std.specs.Prelude.{◌||◌}
use Rattle.dcc_c.specs.Grammar.{is_among}
use Rattle.dcc_c.specs.Known.{labels_before_head}
use Rattle.dcc_c.specs.Tree.{Word}
use Rattle.dcc_lex.specs.PiecesViews.{pieces_of}
use Rattle.dcc_reader.specs.WordViews.{holds}
use Rattle.dcc_reader.proofs.unread.add_labels.Given as goal

-- with the labels that are left, all are there
abbrev pub invariant-loop-left : goal.invariant-loop-left
invariant-loop-left l = (word : Word) →
    is_among (labels_before_head (pieces_of l.left)) word || holds l.words word
    ≡ is_among (labels_before_head (pieces_of l.rest)) word || holds l.initial.words word

abbrev pub decreases-loop-left : goal.decreases-loop-left
decreases-loop-left l = length (pieces_of l.left)
