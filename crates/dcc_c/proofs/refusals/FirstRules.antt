-- There is a first offence just where there is one.
use Rattle.std.proofs.Common.{◌≡◌, true, false, List, [], ◌∷◌, ◌++◌, Option, Some, None, refl, sym, ap, ◌∙◌}
use Rattle.std.specs.Prelude.{if◌then◌else◌}
use Rattle.dcc_c.specs.Kinds.{Offence, is_before, earlier, first_after, first_of}

-- the first of offences after others
pub first-append : (first : Option Offence) (xs ys : List Offence) → first_after first (xs ++ ys) ≡ first_after (first_after first xs) ys
first-append first [] ys = refl
first-append first (x ∷ xs) ys = first-append (earlier first x) xs ys

earlier-some : (first : Option Offence) (o : Offence) → (x : Offence) × (earlier first o ≡ Some x)
earlier-some None o = (o, refl)
earlier-some (Some first) o = elim (is_before o first) as (λ b. (x : Offence) × ((if b then Some o else Some first) ≡ Some x)) [
  | true ↦ (o, refl)
  | false ↦ (first, refl)
]

some-following : (o : Offence) (xs : List Offence) → (x : Offence) × (first_after (Some o) xs ≡ Some x)
some-following o [] = (o, refl)
some-following o (y ∷ ys) =
    let next = earlier-some (Some o) y in
    let rest = some-following next.0 ys in
    (rest.0, ap (λ f. first_after f ys) next.1 ∙ rest.1)

-- no offence is first: there is none
pub first-none : (xs : List Offence) → first_of xs ≡ None → xs ≡ []
first-none [] e = refl
first-none (x ∷ xs) e = absurd (no-some (sym e ∙ (some-following x xs).1)) where
  no-some : {o : Offence} → None ≡ Some o → ⊥
  no-some e = absurd cc

-- there is an offence: one is first
pub first-some : (xs : List Offence) (o : Offence) → first_of xs ≡ Some o → xs ≡ [] → ⊥
first-some xs o e none = no-some (sym (ap first_of none) ∙ e) where
  no-some : {o : Offence} → None ≡ Some o → ⊥
  no-some e = absurd cc
