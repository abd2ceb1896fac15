-- The words that references to names, and sets of words, stand for.
use Rattle.std.specs.Prelude.{ℕ, Bool, List}
use Rattle.std.specs.BTreeSet as set
use Rattle.std.specs.Cmp.Lexicographic.{slice_cmp}
use Rattle.std.specs.Ordering.{nat_cmp}
use denote.Ref.{Bor}
use Rattle.dcc_c.specs.Partial as partial
use Rattle.dcc_c.specs.Tree.{Word}
use Rattle.dcc_reader.specs.declared.partial.WordAt.{WordAt}
use Rattle.dcc_reader.specs.PartialViews.{word_of}

-- the name of a reference
abbrev pub lent_word : Bor WordAt → partial.WordAt
lent_word w = word_of w.now

-- a set of words holds the word
abbrev pub holds : set.BTreeSet (Bor (List ℕ)) → Word → Bool
holds words word = set.contains_by (λ k. slice_cmp nat_cmp word k.now) words
