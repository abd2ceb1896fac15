-- Ways through places along edges: where each closed one holds a kept place, the places of one that passes none differ.
use Rattle.std.proofs.Common.{◌≡◌, ◌≢◌, ℕ, zero, suc, ◌<◌, Bool, false, List, [], ◌∷◌, length, take, get_or, AllPairs, refl, sym, ◌∙◌, arith}
use Rattle.std.proofs.lemmas.List.Kept.{AllPairs-cons}

-- where a way to a place began, along these, the newest first
abbrev pub origin : {P : Type 0} → P → List P → P
origin c [] = c
origin c (b ∷ before) = origin b before

module _ {P : Type 0} (kept : P → Bool) (goes : P → P → Type 0) where
  -- along edges to a place, from the last of these on, the newest first, where no place but the last is kept
  abbrev pub IsWay : P → List P → Type 0
  IsWay c [] = Unit {0}
  IsWay c (b ∷ before) = (kept c ≡ false) × goes b c × IsWay b before

  -- each closed way holds a kept place
  abbrev pub AllClosedHold : Type 0
  AllClosedHold = (c b : P) (before : List P) → IsWay c (b ∷ before) → origin b before ≡ c → ⊥

  -- the newest part of a way
  newest : (n : ℕ) (c : P) (before : List P) → IsWay c before → IsWay c (take n before)
  newest zero c before way = tt
  newest (suc n) c [] way = tt
  newest (suc n) c (b ∷ before) way = (way.0, way.1, newest n b before way.2)

  -- began at one of its places
  newest-origin : (n : ℕ) (c d : P) (before : List P) → n < length before
      → origin c (take (suc n) before) ≡ get_or before n d
  newest-origin n c d [] inside = absurd (omega (arith, inside))
  newest-origin zero c d (b ∷ before) inside = refl
  newest-origin (suc n) c d (b ∷ before) inside = newest-origin n b d before (omega (arith, inside))

  -- so the places of a way differ
  pub way-differs : AllClosedHold → (c : P) (before : List P) → IsWay c before → AllPairs (λ a b. a ≢ b) (c ∷ before)
  way-differs hold c [] way = λ i j d less inside. absurd (omega (arith, less, inside))
  way-differs hold c (b ∷ before) way =
      AllPairs-cons (λ a b. a ≢ b) c (b ∷ before) (λ k d inside same. returns k d inside (sym same))
      (way-differs hold b before way.2)
    where
      returns : (k : ℕ) (d : P) → k < length (b ∷ before) → get_or (b ∷ before) k d ≡ c → ⊥
      returns k d inside same =
          hold c b (take k before) (newest (suc k) c (b ∷ before) way)
          (newest-origin k c d (b ∷ before) inside ∙ same)
