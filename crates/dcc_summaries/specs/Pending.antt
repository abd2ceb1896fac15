-- What waits to be followed, by lists of it, as code keeps it.
use Rattle.std.specs.Prelude.{◌≡◌, ℕ, zero, suc, List, [], ◌∷◌, ◌++◌, length, get_or, slice_set}
use Rattle.dcc_summaries.specs.declared.table.Want.{Want}

-- the lists after a want has come to the list at a place; past the last list it is in one of its own
abbrev pub with_pending : List (List Want) → ℕ → Want → List (List Want)
with_pending [] place x = (x ∷ []) ∷ []
with_pending (list ∷ lists) zero x = (list ++ x ∷ []) ∷ lists
with_pending (list ∷ lists) (suc place) x = list ∷ with_pending lists place x

-- no list has a want
abbrev pub NoneWait : List (List Want) → Type 0
NoneWait lists = (place : ℕ) → length (get_or lists place []) ≡ 0

-- the last want of one of the lists was taken
pub record IsTaken (lists after : List (List Want)) (x : Want) : Type 0 where
  pub place : ℕ
  pub rest : List Want
  pub last : get_or lists place [] ≡ rest ++ x ∷ []
  pub after_is : after ≡ slice_set lists place rest
