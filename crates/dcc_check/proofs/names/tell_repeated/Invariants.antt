use Rattle.std.proofs.Common.{◌≡◌, ◌||◌, List, drop}
use Rattle.dcc_c.specs.Tree.{Word}
use Rattle.dcc_c.specs.Grammar.{is_among}
use Rattle.dcc_c.specs.Kinds.{first_after}
use Rattle.dcc_c.specs.Offences.{repeated}
use Rattle.dcc_check.specs.Names.{lent_names}
use Rattle.dcc_reader.specs.WordViews.{holds}
use Rattle.dcc_reader.specs.Told.{told}
use Rattle.dcc_check.proofs.names.tell_repeated.Given as goal

-- the names that are left, after those that have been seen, tell what all names do
abbrev pub invariant-loop-name : goal.invariant-loop-name
invariant-loop-name l = (before : List Word) → ((word : Word) → holds l.taken word ≡ is_among before word) →
    (known : List Word)
    × ((word : Word) → (holds l.taken word || holds l.own word) ≡ is_among known word)
    × (first_after (told l.first) (repeated known (lent_names (drop l.name-index l.names)))
    ≡ first_after (told l.initial.first) (repeated before (lent_names l.names)))
