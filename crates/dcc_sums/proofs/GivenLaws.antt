-- What locations hold after they have taken values one after another, all of these or some.
use Rattle.std.proofs.Common.{◌≡◌, ℕ, suc, Bool, true, false, cond, List, [], ◌∷◌, ◌++◌, length, Some, refl, sym, ap, ap₂, ◌∙◌, subst, true≢false, map, slice_get}
use Rattle.std.specs.Prelude.{if◌then◌else◌, Contains}
use Rattle.dcc_ir.specs.declared.syntax.Loc.{Loc}
use Rattle.dcc_ir.specs.Location.{same_location, Values, with_value}
use Rattle.dcc_ir.specs.Passes.{with_values, FitIn}
use Rattle.dcc_ir.specs.Trimmed.{kept}
use Rattle.dcc_ir.proofs.LocationLaws.{location_same, location_itself, Contains-here, Contains-later, Contains-none, Contains-cases, location_decided}
use Rattle.dcc_sums.proofs.KeptLaws.{later}

pub fit_length : (widths ns : List ℕ) → FitIn widths ns → length ns ≡ length widths
fit_length [] [] fit = refl
fit_length (w ∷ widths) (n ∷ ns) fit = ap suc (fit_length widths ns fit.1)
fit_length [] (n ∷ ns) fit = absurd fit
fit_length (w ∷ widths) [] fit = absurd fit

kept_whole : {A : Type 0} (xs : List A) → kept (λ k. true) xs ≡ xs
kept_whole [] = refl
kept_whole (x ∷ xs) = ap (λ l. x ∷ l) (kept_whole xs)

module _ (l : Loc) where
  -- another location takes a value
  pub other_value : (v : Values) (x : Loc) (n : ℕ) → same_location l x ≡ false → with_value v x n l ≡ v l
  other_value v x n e = ap (λ b. if b then n else v l) e

  -- the location itself takes one
  pub own_value : (v : Values) (x : Loc) (n : ℕ) → same_location l x ≡ true → with_value v x n l ≡ n
  own_value v x n e = ap (λ b. if b then n else v l) e

  not_here : (x : Loc) (xs : List Loc) → same_location l x ≡ false → (Contains xs l → ⊥) → Contains (x ∷ xs) l → ⊥
  not_here x xs e out c = Contains-cases x xs l ⊥ (λ same. true≢false (sym (subst (λ y. same_location l y ≡ true) (sym same) (location_itself l)) ∙ e)) out c

  apart : (x : Loc) (xs : List Loc) → (Contains (x ∷ xs) l → ⊥) → same_location l x ≡ false
  apart x xs out = go (same_location l x) refl
    where
      go : (b : Bool) → same_location l x ≡ b → b ≡ false
      go true e = absurd (out (subst (λ y. Contains (x ∷ xs) y) (sym (location_same l x e)) (Contains-here x xs)))
      go false e = refl

  -- A location holds the same after some of the values as after all, where all that it takes stay.
  pub given-kept : (stays : ℕ → Bool) (xs : List Loc) (ns : List ℕ) (v v' : Values) → length ns ≡ length xs → ((k : ℕ) → slice_get xs k ≡ Some l → stays k ≡ true) → ((Contains xs l → ⊥) → v' l ≡ v l) →
      with_values v' (kept stays xs) (kept stays ns) l ≡ with_values v xs ns l
  given-kept stays [] [] v v' len all same = same (Contains-none l)
  given-kept stays (x ∷ xs) (n ∷ ns) v v' len all same = go (stays 0) refl (same_location l x) refl (λ u u' same'. given-kept (later stays) xs ns u u' (cc) (λ k e. all (suc k) e) same')
    where
      go : (b : Bool) → stays 0 ≡ b → (c : Bool) → same_location l x ≡ c →
          ((u u' : Values) → ((Contains xs l → ⊥) → u' l ≡ u l) → with_values u' (kept (later stays) xs) (kept (later stays) ns) l ≡ with_values u xs ns l) →
          with_values v' (cond b (x ∷ kept (later stays) xs) (kept (later stays) xs)) (cond b (n ∷ kept (later stays) ns) (kept (later stays) ns)) l ≡ with_values (with_value v x n) xs ns l
      go true e true is rest = rest (with_value v x n) (with_value v' x n) (λ out. own_value v' x n is ∙ sym (own_value v x n is))
      go true e false is rest = rest (with_value v x n) (with_value v' x n) (λ out. other_value v' x n is ∙ same (not_here x xs is out) ∙ sym (other_value v x n is))
      go false e true is rest = absurd (true≢false (sym (all 0 (ap Some (sym (location_same l x is)))) ∙ e))
      go false e false is rest = rest (with_value v x n) v' (λ out. same (not_here x xs is out) ∙ sym (other_value v x n is))
  given-kept stays [] (n ∷ ns) v v' len all same = absurd (cc)
  given-kept stays (x ∷ xs) [] v v' len all same = absurd (cc)

  -- A location holds what it held where none of the values that it takes stays.
  pub given-dropped : (stays : ℕ → Bool) (xs : List Loc) (ns : List ℕ) (v : Values) → length ns ≡ length xs → ((k : ℕ) → slice_get xs k ≡ Some l → stays k ≡ false) →
      with_values v (kept stays xs) (kept stays ns) l ≡ v l
  given-dropped stays [] [] v len none = refl
  given-dropped stays (x ∷ xs) (n ∷ ns) v len none = go (stays 0) refl (λ u. given-dropped (later stays) xs ns u (cc) (λ k e. none (suc k) e))
    where
      go : (b : Bool) → stays 0 ≡ b → ((u : Values) → with_values u (kept (later stays) xs) (kept (later stays) ns) l ≡ u l) →
          with_values v (cond b (x ∷ kept (later stays) xs) (kept (later stays) xs)) (cond b (n ∷ kept (later stays) ns) (kept (later stays) ns)) l ≡ v l
      go true e rest = rest (with_value v x n) ∙ other_value v x n (away (same_location l x) refl)
        where
          away : (c : Bool) → same_location l x ≡ c → c ≡ false
          away true is = absurd (true≢false (sym e ∙ none 0 (ap Some (sym (location_same l x is)))))
          away false is = refl
      go false e rest = rest v
  given-dropped stays [] (n ∷ ns) v len none = absurd (cc)
  given-dropped stays (x ∷ xs) [] v len none = absurd (cc)

  pub given-alike : (xs : List Loc) (ns : List ℕ) (v v' : Values) → length ns ≡ length xs → ((Contains xs l → ⊥) → v' l ≡ v l) → with_values v' xs ns l ≡ with_values v xs ns l
  given-alike xs ns v v' len same =
      ap₂ (λ ys ms. with_values v' ys ms l) (sym (kept_whole xs)) (sym (kept_whole ns)) ∙ given-kept (λ k. true) xs ns v v' len (λ k e. refl) same

  pub given-none : (xs : List Loc) (ns : List ℕ) (v : Values) → (Contains xs l → ⊥) → with_values v xs ns l ≡ v l
  given-none [] ns v out = refl
  given-none (x ∷ xs) [] v out = refl
  given-none (x ∷ xs) (n ∷ ns) v out = given-none xs ns (with_value v x n) (λ c. out (Contains-later x xs l c)) ∙ other_value v x n (apart x xs out)

  -- what others take after it doesn't matter
  pub given-first : (xs ys : List Loc) (ns : List ℕ) (v : Values) → (Contains ys l → ⊥) → with_values v (xs ++ ys) ns l ≡ with_values v xs ns l
  given-first [] ys ns v out = given-none ys ns v out
  given-first (x ∷ xs) ys [] v out = refl
  given-first (x ∷ xs) ys (n ∷ ns) v out = given-first xs ys ns (with_value v x n) out

  -- locations that take the values of some state hold these
  pub given-read : (v : Values) (xs : List Loc) (more : List ℕ) (u : Values) → Contains xs l → with_values u xs (map v xs ++ more) l ≡ v l
  given-read v [] more u c = absurd (Contains-none l c)
  given-read v (x ∷ xs) more u c = location_decided xs l _ (λ d. given-read v xs more (with_value u x (v x)) d)
      (λ out. given-none xs (map v xs ++ more) (with_value u x (v x)) out ∙ Contains-cases x xs l _
      (λ e. own_value u x (v x) (subst (λ y. same_location l y ≡ true) (sym e) (location_itself l)) ∙ ap v e) (λ d. absurd (out d)) c)
