-- Neighbours that are one, from the end of a list on.
use Rattle.std.proofs.Common.{◌≡◌, List, [], ◌∷◌, ◌++◌, Option, Some, None, refl, sym, ap, ◌∙◌, map}
use Rattle.std.specs.Prelude.{option_map, Contains}
use Rattle.dcc_ir.proofs.LocationLaws.{Contains-here, Contains-later}
use Rattle.dcc_signatures.specs.Packed.{two_or_one, in_front, merged}

module _ {A : Type 0} (one : A → A → Option A) where
  -- the elements before a list in which neighbours are one already
  abbrev pub merged_onto : List A → List A → List A
  merged_onto [] later = later
  merged_onto (x ∷ xs) later = in_front one x (merged_onto xs later)

  pub merged-onto : (xs : List A) → merged_onto xs [] ≡ merged one xs
  merged-onto [] = refl
  merged-onto (x ∷ xs) = ap (in_front one x) (merged-onto xs)

  pub merged_onto-last : (xs : List A) (x : A) (later : List A) → merged_onto (xs ++ x ∷ []) later ≡ merged_onto xs (in_front one x later)
  merged_onto-last [] x later = refl
  merged_onto-last (y ∷ xs) x later = ap (in_front one y) (merged_onto-last xs x later)

  -- the last element comes before those that are done
  pub onto-next : (fewer rest later more all : List A) (x : A) → rest ≡ fewer ++ x ∷ [] → more ≡ in_front one x later → merged_onto rest later ≡ merged one all → merged_onto fewer more ≡ merged one all
  onto-next fewer rest later more all x is put so_far =
      ap (merged_onto fewer) put ∙ sym (ap (λ l. merged_onto l later) is ∙ merged_onto-last fewer x later) ∙ so_far

  front-none : (x : A) (ys : List A) → ((y : A) → one x y ≡ None) → in_front one x ys ≡ x ∷ ys
  front-none x [] none = refl
  front-none x (y ∷ ys) none = ap (two_or_one x y ys) (none y)

  -- elements that are one with no other stay
  pub merged-apart : (ws xs : List A) → ((w y : A) → Contains ws w → one w y ≡ None) → merged one (ws ++ xs) ≡ ws ++ merged one xs
  merged-apart [] xs none = refl
  merged-apart (w ∷ ws) xs none =
      ap (in_front one w) (merged-apart ws xs (λ v y c. none v y (Contains-later w ws v c))) ∙ front-none w (ws ++ merged one xs) (λ y. none w y (Contains-here w ws))

-- What stands for elements is one where these are.
module _ {A B : Type 0} (one : A → A → Option A) (other : B → B → Option B) (f : A → B) (same : (x y : A) → other (f x) (f y) ≡ option_map f (one x y)) where
  front-map : (x : A) (xs : List A) → in_front other (f x) (map f xs) ≡ map f (in_front one x xs)
  front-map x [] = refl
  front-map x (y ∷ ys) = ap (two_or_one (f x) (f y) (map f ys)) (same x y) ∙ go (one x y)
    where
      go : (o : Option A) → two_or_one (f x) (f y) (map f ys) (option_map f o) ≡ map f (two_or_one x y ys o)
      go (Some z) = refl
      go None = refl

  pub merged-map : (xs : List A) → merged other (map f xs) ≡ map f (merged one xs)
  merged-map [] = refl
  merged-map (x ∷ xs) = ap (in_front other (f x)) (merged-map xs) ∙ front-map x (merged one xs)
