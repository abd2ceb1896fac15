-- Prefixes of lists.
use Rattle.std.specs.Prelude.{◌≡◌, ◌⊎◌, List, ◌++◌}

-- the first list is a prefix of the second; they may be equal
pub record IsPrefix {A : Type 0} (front whole : List A) : Type 0 where
  pub rest : List A
  pub joins : whole ≡ front ++ rest

-- one of two lists is a prefix of the other
abbrev pub AreComparable : {A : Type 0} → List A → List A → Type 0
AreComparable xs ys = IsPrefix xs ys ⊎ IsPrefix ys xs
