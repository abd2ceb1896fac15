use Rattle.std.proofs.Common.{◌≡◌, ◌||◌, drop}
use Rattle.dcc_c.specs.Tree.{Word}
use Rattle.dcc_c.specs.Grammar.{is_among}
use Rattle.dcc_c.specs.TextOffences.{words_of}
use Rattle.dcc_check.specs.Names.{lent_names}
use Rattle.dcc_reader.specs.WordViews.{holds}
use Rattle.dcc_check.proofs.names.add_words.Given as goal

-- with the words that are left, all are there
abbrev pub invariant-loop-name : goal.invariant-loop-name
invariant-loop-name l = (word : Word) →
    is_among (words_of (lent_names (drop l.name-index l.names))) word || holds l.words word
    ≡ is_among (words_of (lent_names l.names)) word || holds l.initial.words word
