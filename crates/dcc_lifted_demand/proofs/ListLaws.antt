-- Members of lists of locations.
use Rattle.std.proofs.Common.{◌≡◌, inl, inr, List, [], ◌∷◌, sym, subst}
use Rattle.std.specs.Prelude.{Contains, flat_map}
use Rattle.std.proofs.lemmas.List.Elements.{Contains-append_left, Contains-append_right, Contains-append_cases}
use Rattle.dcc_ir.proofs.LocationLaws.{Contains-none, Contains-here, Contains-later, Contains-cases}

module _ {X Y : Type 0} (f : X → List Y) where
  -- a member of the joined lists, and the one from which it comes
  pub in_flat : (xs : List X) (x : X) (y : Y) → Contains xs x → Contains (f x) y → Contains (flat_map f xs) y
  in_flat [] x y c d = absurd (Contains-none x c)
  in_flat (z ∷ xs) x y c d =
      Contains-cases z xs x (Contains (flat_map f (z ∷ xs)) y)
      (λ e. Contains-append_left (f z) (flat_map f xs) y (subst (λ a. Contains (f a) y) (sym e) d))
      (λ later. Contains-append_right (f z) (flat_map f xs) y (in_flat xs x y later d)) c

  pub of_flat : (xs : List X) (y : Y) → Contains (flat_map f xs) y → (x : X) × Contains xs x × Contains (f x) y
  of_flat [] y c = absurd (Contains-none y c)
  of_flat (z ∷ xs) y c = elim (Contains-append_cases (f z) (flat_map f xs) y c) [
    | inl here ↦ (z, Contains-here z xs, here)
    | inr there ↦ let rest = of_flat xs y there in (rest.0, Contains-later z xs rest.0 rest.1, rest.2)
  ]

-- the one member
pub only : {X : Type 0} (x y : X) → Contains (x ∷ []) y → x ≡ y
only x y c = Contains-cases x [] y (x ≡ y) (λ e. e) (λ none. absurd (Contains-none y none)) c
