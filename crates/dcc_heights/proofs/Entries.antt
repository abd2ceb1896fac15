-- Look-ups in lists of entries whose keys are numbers.
use Rattle.std.proofs.Common.{map, sym, ◌≡◌, ◌⊎◌, inl, inr, ℕ, zero, suc, ◌<◌, Bool, true, false, cond, nat_eq, List, [], ◌∷◌, ◌++◌, length, slice_get, Option, Some, None, refl, ap, ◌∙◌}
use Rattle.std.specs.Borrow.{Bor}
use Rattle.std.specs.Iterator.{Yields}
use Rattle.std.specs.Map.{lookup}
use Rattle.std.specs.Map.Iter.{TakesFirst, deref_pair}
use Rattle.std.proofs.lemmas.Bool.{eq-eqb}
use Rattle.std.proofs.lemmas.Option.{slice_get-get_or}
use Rattle.std.proofs.lemmas.Map.Iter.{rest_so_far, rest_more}
use Rattle.std.proofs.lemmas.Map.Views.{Contains-from_lookup, exact_unsigned_eq}

-- what is found stays so as more entries are put behind
pub lookup-left :
    {X : Type 0} (es more : List (ℕ × X)) (key : ℕ) (x : X) → lookup (nat_eq key) es ≡ Some x
    → lookup (nat_eq key) (es ++ more) ≡ Some x
lookup-left [] more key x is = let clash = is in cc
lookup-left (e ∷ es) more key x is =
    elim (nat_eq key e.0) as (λ b.
    cond b (Some e.1) (lookup (nat_eq key) es) ≡ Some x
    → cond b (Some e.1) (lookup (nat_eq key) (es ++ more)) ≡ Some x) [
      | true ↦ λ i. i
      | false ↦ λ i. lookup-left es more key x i
    ]
    is

-- a new key is found with its value
pub lookup-push :
    {X : Type 0} (es : List (ℕ × X)) (key : ℕ) (x : X) → lookup (nat_eq key) es ≡ None
    → lookup (nat_eq key) (es ++ (key, x) ∷ []) ≡ Some x
lookup-push [] key x none = ap (λ b. cond b (Some x) None) (eq-eqb key key refl)
lookup-push (e ∷ es) key x none =
    elim (nat_eq key e.0) as (λ b.
    cond b (Some e.1) (lookup (nat_eq key) es) ≡ None
    → cond b (Some e.1) (lookup (nat_eq key) (es ++ (key, x) ∷ [])) ≡ Some x) [
      | true ↦ λ i. let clash = i in cc
      | false ↦ λ i. lookup-push es key x i
    ]
    none

one-pushed :
    {X : Type 0} (key : ℕ) (x : X) (at : ℕ) (y : X) (b : Bool) → nat_eq at key ≡ b → cond b (Some x) None ≡ Some y
    → (at ≡ key) × (Some x ≡ Some y)
one-pushed key x at y true e i = (exact_unsigned_eq at key e, i)
one-pushed key x at y false e i = let clash = i in cc

-- what is found after a new entry was there before, or is the new one
pub lookup-pushed :
    {X : Type 0} (es : List (ℕ × X)) (key : ℕ) (x : X) (at : ℕ) (y : X)
    → lookup (nat_eq at) (es ++ (key, x) ∷ []) ≡ Some y
    → (lookup (nat_eq at) es ≡ Some y) ⊎ ((at ≡ key) × (Some x ≡ Some y))
lookup-pushed [] key x at y is = inr (one-pushed key x at y (nat_eq at key) refl is)
lookup-pushed (e ∷ es) key x at y is =
    elim (nat_eq at e.0) as (λ b.
    cond b (Some e.1) (lookup (nat_eq at) (es ++ (key, x) ∷ [])) ≡ Some y
    → (cond b (Some e.1) (lookup (nat_eq at) es) ≡ Some y) ⊎ ((at ≡ key) × (Some x ≡ Some y))) [
      | true ↦ λ i. inl i
      | false ↦ λ i. lookup-pushed es key x at y i
    ]
    is

-- places stay as more entries are put behind
pub get-left :
    {A : Type 0} (xs ys : List A) (i : ℕ) (x : A) → slice_get xs i ≡ Some x → slice_get (xs ++ ys) i ≡ Some x
get-left [] ys i x e = let clash = e in cc
get-left (a ∷ xs) ys zero x e = e
get-left (a ∷ xs) ys (suc i) x e = get-left xs ys i x e

-- what is found has a place
pub place-of :
    {X : Type 0} (es : List (ℕ × X)) (key : ℕ) (x : X) → lookup (nat_eq key) es ≡ Some x
    → (k : ℕ) × (k < length es) × (slice_get es k ≡ Some (key, x))
place-of es key x is =
    let there = Contains-from_lookup exact_unsigned_eq key x es is in
    (there.0, there.1, slice_get-get_or es there.0 (key, x) there.1 ∙ ap Some there.2)

-- what a loop over a map has yielded, its next entry and the rest are all entries
pub turn-split :
    {K X : Type 0} (all : List (K × X)) (xs : List (Bor K × Bor X)) (s t u : List (K × X))
    (r : Option (Bor K × Bor X)) (x : Bor K × Bor X) → s ≡ all → Yields (TakesFirst deref_pair) s xs t → r ≡ Some x
    → TakesFirst deref_pair t r u
    → all ≡ map deref_pair xs ++ deref_pair x ∷ u
turn-split all xs s t u r x start yields is step =
    sym start
    ∙ rest_so_far deref_pair xs s t yields
    ∙ ap (λ l. map deref_pair xs ++ l) (rest_more deref_pair t u r x is step)
