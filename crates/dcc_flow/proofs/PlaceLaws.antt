-- Laws of lists of locations that tell at which place a location is.
use Rattle.std.proofs.Common.{◌≡◌, ◌≢◌, ℕ, zero, suc, ◌+◌, ◌<◌, ◌≤◌, Bool, true, false, inl, inr, List, [], ◌∷◌, ◌++◌, length, get_or, slice_get, slice_set, drop, Some, refl, sym, ap, ◌∙◌, subst, true≢false, arith, Contains}
use Rattle.std.specs.Prelude.{◌↔◌, if◌then◌else◌, All}
use Rattle.std.proofs.Common.{drop_of_length-le as drop_past}
use Rattle.std.proofs.lemmas.Bool.{cases_eq, cases_lt}
use Rattle.std.proofs.lemmas.List.{length-set, length_push, get_or_read, get_or-set_same, get_or-set_other, get_or_append_left, drop_more}
use Rattle.std.proofs.lemmas.List.Elements.{All-weaker, Contains-append_left, Contains-push, All-contains_itself}
use Rattle.std.proofs.lemmas.Option.{get_or_from_slice_get, slice_get-get_or, slice_get_within, same_Some}
use Rattle.std.proofs.Math.Seq.{get_or-append_seam}
use Rattle.dcc_ir.specs.declared.syntax.Loc.{Loc}
use Rattle.dcc_ir.specs.Live.{is_among}
use Rattle.dcc_ir.proofs.PathLaws.{decided}
use Rattle.dcc_ir.proofs.LocationLaws.{among_contains, contains_among, Contains-none, Contains-cases}
use Rattle.dcc_flow.specs.Marks.{location_number}
use Rattle.dcc_flow.specs.Places.{IsPlace, with_place, with_places, AreAt}
use Rattle.dcc_flow.proofs.MarkLaws.{number_same}

-- Where a location is.

-- a location of a list stands at some place of it
pub at_place : (list : List Loc) (x : Loc) → is_among list x ≡ true → (k : ℕ) × (slice_get list k ≡ Some x)
at_place list x t = let c = among_contains list x t in (c.0, slice_get-get_or list c.0 x c.1 ∙ ap Some c.2)

pub place_among : (list : List Loc) (x : Loc) (k : ℕ) → slice_get list k ≡ Some x → is_among list x ≡ true
place_among list x k at = contains_among list x (k, slice_get_within list k x at, get_or_from_slice_get list k x x at)

-- the place that stands at a location's number, where the list has the location there
pub place_is : (list : List Loc) (at : List ℕ) (x : Loc) (n k : ℕ) → AreAt list at → n ≡ location_number x → get_or at n 0 ≡ k → slice_get list k ≡ Some x
    → IsPlace list x k
place_is list at x n k are is noted there j = (
  λ e. sym (are j x e).1 ∙ ap (λ m. get_or at m 0) (sym is) ∙ noted,
  λ e. ap (slice_get list) e ∙ there,
)

-- a location that is not where its number tells is not in the list
pub place_none : (list : List Loc) (at : List ℕ) (x : Loc) (n : ℕ) → AreAt list at → n ≡ location_number x
    → (n < length at → slice_get list (get_or at n 0) ≡ Some x → true ≡ false) → is_among list x ≡ false
place_none list at x n are is away = elim (decided (is_among list x)) [
  | inl t ↦
      let one = at_place list x t in
      let told = are one.0 x one.1 in
      let inside : n < length at = subst (λ m. m < length at) (sym is) told.0 in
      absurd (true≢false (away inside (ap (slice_get list) (ap (λ m. get_or at m 0) is ∙ told.1) ∙ one.1)))
  | inr f ↦ f
]

-- where the list has another one at the place that its number tells, or no one
pub place_away : (list : List Loc) (at : List ℕ) (x : Loc) (n k : ℕ) → AreAt list at → n ≡ location_number x → n < length at → k ≡ get_or at n k
    → (slice_get list k ≡ Some x → true ≡ false) → is_among list x ≡ false
place_away list at x n k are is inside read away =
    place_none list at x n are is (λ less e. away (ap (slice_get list) (get_or_read at n k inside read 0) ∙ e))

-- One more location.

pub at_still : (list : List Loc) (at more : List ℕ) → ((n : ℕ) → get_or more n 0 ≡ get_or at n 0) → length at ≤ length more → AreAt list at → AreAt list more
at_still list at more same longer are k x e = let told = are k x e in (omega (arith, told.0, longer), same (location_number x) ∙ told.1)

pub at_more : (list : List Loc) (at : List ℕ) (x : Loc) (n : ℕ) → n ≡ location_number x → n < length at → is_among list x ≡ false → AreAt list at
    → AreAt (list ++ x ∷ []) (slice_set at n (length list))
at_more list at x n is inside out are k y e = elim (cases_lt k (length list)) [
  | inl below ↦
      let there : slice_get list k ≡ Some y =
      slice_get-get_or list k y below ∙ ap Some (sym (get_or_append_left list (x ∷ []) y k below) ∙ get_or_from_slice_get (list ++ x ∷ []) k y y e) in
      let told = are k y there in
      let other : location_number y ≢ n = λ same.
      true≢false (sym (place_among list y k there) ∙ ap (is_among list) (number_same y x (same ∙ is)) ∙ out) in (
        omega (arith, told.0, length-set at n (length list)),
        get_or-set_other at n (location_number y) (length list) 0 other ∙ told.1,
      )
  | inr past ↦
      let within = slice_get_within (list ++ x ∷ []) k y e in
      let last : k ≡ length list = omega (arith, past, within, length_push list x) in
      let same : y ≡ x = sym (get_or_from_slice_get (list ++ x ∷ []) k y x e) ∙ ap (λ j. get_or (list ++ x ∷ []) j x) last ∙ get_or-append_seam list x [] x in
      let number : location_number y ≡ n = ap location_number same ∙ sym is in (
        omega (arith, number, inside, length-set at n (length list)),
        ap (λ m. get_or (slice_set at n (length list)) m 0) number ∙ get_or-set_same at n (length list) 0 inside ∙ sym last,
      )
]

-- the list has the location
pub with_known : (list : List Loc) (x : Loc) (k : ℕ) → IsPlace list x k → list ≡ with_place list x
with_known list x k is = sym (ap (λ b. if b then list else list ++ x ∷ []) (place_among list x k ((is k).1 refl)))

pub with_new : (list : List Loc) (x : Loc) → is_among list x ≡ false → list ++ x ∷ [] ≡ with_place list x
with_new list x out = sym (ap (λ b. if b then list else list ++ x ∷ []) out)

-- What is put in stays.

with_place_has : (list : List Loc) (x : Loc) → Contains (with_place list x) x
with_place_has list x = elim (decided (is_among list x)) [
  | inl t ↦ subst (λ b. Contains (if b then list else list ++ x ∷ []) x) (sym t) (among_contains list x t)
  | inr f ↦ subst (λ b. Contains (if b then list else list ++ x ∷ []) x) (sym f) (Contains-push list x)
]

with_place_keeps : (list : List Loc) (x y : Loc) → Contains list y → Contains (with_place list x) y
with_place_keeps list x y c = go (is_among list x)
  where
    go : (b : Bool) → Contains (if b then list else list ++ x ∷ []) y
    go true = c
    go false = Contains-append_left list (x ∷ []) y c

pub with_places_keep : (list xs : List Loc) (y : Loc) → Contains list y → Contains (with_places list xs) y
with_places_keep list [] y c = c
with_places_keep list (x ∷ xs) y c = with_places_keep (with_place list x) xs y (with_place_keeps list x y c)

with_places_contain : (list xs : List Loc) (y : Loc) → Contains xs y → Contains (with_places list xs) y
with_places_contain list [] y c = absurd (Contains-none y c)
with_places_contain list (x ∷ xs) y c = Contains-cases x xs y (Contains (with_places list (x ∷ xs)) y)
    (λ e. with_places_keep (with_place list x) xs y (subst (Contains (with_place list x)) e (with_place_has list x)))
    (λ d. with_places_contain (with_place list x) xs y d) c

pub with_places_have : (list xs : List Loc) → All (Contains (with_places list xs)) xs
with_places_have list xs = All-weaker (Contains xs) (Contains (with_places list xs)) (λ y c. with_places_contain list xs y c) xs (All-contains_itself xs)

-- The loop of add_all goes on, and ends.

pub places_step : (list after xs : List Loc) (i : ℕ) (d : Loc) → i < length xs → after ≡ with_place list (get_or xs i d)
    → with_places after (drop (i + 1) xs) ≡ with_places list (drop i xs)
places_step list after xs i d inside is =
    ap (λ l. with_places l (drop (i + 1) xs)) is ∙ sym (ap (with_places list) (drop_more xs i d inside))

pub places_end : (list goal xs : List Loc) (i : ℕ) → length xs ≤ i → with_places list (drop i xs) ≡ goal → list ≡ goal
places_end list goal xs i past is = sym (ap (with_places list) (drop_past xs past)) ∙ is
