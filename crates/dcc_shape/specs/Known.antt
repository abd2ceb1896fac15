-- What the code keeps of numbers and offsets. No public contract rests on it.
use Rattle.std.specs.Prelude.{◌≡◌, ℕ, ◌<◌, nat_le, Bool, false, List}
use Rattle.std.specs.BTreeSet.{BTreeSet, contains}
use Rattle.std.specs.Ordering.{nat_cmp}
use Rattle.dcc_flow.specs.Edges.{is_in}
use Rattle.dcc_c.specs.Tree.{Word}
use Rattle.dcc_shape.specs.declared.tally.Tally.{Tally}
use Rattle.dcc_shape.specs.Shape.{label_of}

-- the set has just the numbers of the list
abbrev pub IsSetOf : BTreeSet ℕ → List ℕ → Type 0
IsSetOf known numbers = (n : ℕ) → contains nat_cmp known n ≡ is_in numbers n

-- the tally has the numbers that are counted once at least, and those that are counted twice at least
pub record IsTally (tally : Tally) (counts : ℕ → ℕ) : Type 0 where
  pub once : (n : ℕ) → contains nat_cmp tally.once n ≡ nat_le 1 (counts n)
  pub twice : (n : ℕ) → contains nat_cmp tally.twice n ≡ nat_le 2 (counts n)

-- the words that pass the test are the labels of the offsets in the set
pub record AreNamed (known : BTreeSet ℕ) (test : Word → Bool) : Type 0 where
  pub offsets : (at : ℕ) → at < 65536 → test (label_of at) ≡ contains nat_cmp known at
  pub others : (word : Word) → ((at : ℕ) → ¬ (word ≡ label_of at)) → test word ≡ false
