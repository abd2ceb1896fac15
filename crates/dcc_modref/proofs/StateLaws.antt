-- What statements do to states.
use Rattle.std.proofs.Common.{◌≡◌, ℕ, Bool, true, false, ◌&&◌, ◌||◌, not, List, [], ◌∷◌, inl, inr, refl, sym, ap, ◌∙◌, true≢false}
use Rattle.std.specs.Prelude.{filter, if◌then◌else◌}
use Rattle.std.specs.List.{list_any}
use Rattle.std.proofs.lemmas.Bool.{or_cases, or_left, or_right}
use Rattle.dcc_ir.specs.declared.syntax.Loc.{Loc}
use Rattle.dcc_ir.specs.Location.{same_location}
use Rattle.dcc_ir.specs.Live.{is_among}
use Rattle.dcc_ir.specs.Tree.{Get, Stmt, Set}
use Rattle.dcc_ir.proofs.PathLaws.{decided}
use Rattle.dcc_ir.proofs.LocationLaws.{location_same, location_itself}
use Rattle.dcc_demand.specs.Procedures.{Leaves, Copies, Pops, is_left}
use Rattle.dcc_sums.specs.Instance.{is_half, is_pushed, written_by, effect_of, action_of}

-- a location is among those of a list that pass a test, if it is in the list and passes it
passing : (test : Loc → Bool) (xs : List Loc) (l x : Loc) → is_among (filter test xs) l ≡ (is_among xs l && test l)
    → (t s : Bool) → test x ≡ t → same_location l x ≡ s → is_among (if t then x ∷ filter test xs else filter test xs) l ≡ ((same_location l x || is_among xs l) && test l)
passing test xs l x on true true t s = ap (λ b. b || is_among (filter test xs) l) s ∙ sym (ap (λ b. (b || is_among xs l) && test l) s ∙ (ap test (location_same l x s) ∙ t))
passing test xs l x on true false t s = ap (λ b. b || is_among (filter test xs) l) s ∙ on ∙ sym (ap (λ b. (b || is_among xs l) && test l) s)
passing test xs l x on false true t s =
    let fails = ap test (location_same l x s) ∙ t in
    on ∙ ap (λ b. is_among xs l && b) fails ∙ none (is_among xs l) ∙ sym (ap (λ b. (b || is_among xs l) && test l) s ∙ fails)
  where
    none : (a : Bool) → (a && false) ≡ false
    none true = refl
    none false = refl
passing test xs l x on false false t s = on ∙ sym (ap (λ b. (b || is_among xs l) && test l) s)

pub among_filter : (test : Loc → Bool) (xs : List Loc) (l : Loc) → is_among (filter test xs) l ≡ (is_among xs l && test l)
among_filter test [] l = refl
among_filter test (x ∷ xs) l = passing test xs l x (among_filter test xs l) (test x) (same_location l x) refl refl

-- a test finds something among what another one leaves, where it finds something that the other one leaves
pub any_filter : (p q : Loc → Bool) (xs : List Loc) → list_any p (filter q xs) ≡ list_any (λ x. q x && p x) xs
any_filter p q [] = refl
any_filter p q (x ∷ xs) = by (q x) (any_filter p q xs)
  where
    by : (b : Bool) → list_any p (filter q xs) ≡ list_any (λ y. q y && p y) xs → list_any p (if b then x ∷ filter q xs else filter q xs) ≡ ((b && p x) || list_any (λ y. q y && p y) xs)
    by true e = ap (λ r. p x || r) e
    by false e = e

-- a test finds a location of the list that it takes
any_here : (p : Loc → Bool) (xs : List Loc) (l : Loc) → is_among xs l ≡ true → p l ≡ true → list_any p xs ≡ true
any_here p [] l e t = absurd (true≢false (sym e))
any_here p (x ∷ xs) l e t = elim (or_cases (same_location l x) (is_among xs l) e) [
  | inl s ↦ or_left (p x) (list_any p xs) (sym (ap p (location_same l x s)) ∙ t)
  | inr m ↦ or_right (p x) (list_any p xs) (any_here p xs l m t)
]

-- where some of the one list are in the other, some of the other are in the one
any_turned : (xs ys zs : List Loc) → ((l : Loc) → is_among zs l ≡ true → is_among ys l ≡ true) → list_any (is_among xs) zs ≡ true → list_any (is_among ys) xs ≡ true
any_turned xs ys [] within e = absurd (true≢false (sym e))
any_turned xs ys (z ∷ zs) within e = elim (or_cases (is_among xs z) (list_any (is_among xs) zs) e) [
  | inl m ↦ any_here (is_among ys) xs z m (within z (or_left (same_location z z) (is_among zs z) (location_itself z)))
  | inr r ↦ any_turned xs ys zs (λ l m. within l (or_right (same_location l z) (is_among zs l) m)) r
]

none_out : (p : Loc → Bool) (xs : List Loc) → list_any p xs ≡ false → filter (λ x. not (p x)) xs ≡ xs
none_out p [] e = refl
none_out p (x ∷ xs) e = by (p x) e (none_out p xs)
  where
    by : (b : Bool) → (b || list_any p xs) ≡ false → (list_any p xs ≡ false → filter (λ y. not (p y)) xs ≡ xs) → (if not b then x ∷ filter (λ y. not (p y)) xs else filter (λ y. not (p y)) xs) ≡ x ∷ xs
    by true f rest = absurd (true≢false f)
    by false f rest = ap (λ l. x ∷ l) (rest f)

-- where no word that holds the location saved is written, all of them stay
pub none_overwritten : (written saved : List Loc) → list_any (is_among saved) written ≡ false → filter (λ word. not (is_among written word)) saved ≡ saved
none_overwritten written saved e = none_out (is_among written) saved (elim (decided (list_any (is_among written) saved)) [
  | inl t ↦ absurd (true≢false (sym (any_turned written saved saved (λ l m. m) t) ∙ e))
  | inr f ↦ f
])

-- a statement doesn't leave what it writes
effect_makes : (pushed : ℕ) (stmt : Stmt) → is_left (effect_of pushed stmt) ≡ false
effect_makes pushed (Set l (Get from)) = by (is_half l && is_pushed pushed from)
  where
    by : (b : Bool) → is_left (if b then Pops from else Copies from) ≡ false
    by true = refl
    by false = refl
effect_makes pushed stmt = refl

pub left_unwritten : (pushed : ℕ) (stmt : Stmt) (l : Loc) → not (is_left ((action_of pushed stmt).effect l)) ≡ is_among (written_by stmt) l
left_unwritten pushed stmt l = by (is_among (written_by stmt) l)
  where
    by : (b : Bool) → not (is_left (if b then effect_of pushed stmt else Leaves)) ≡ b
    by true = ap not (effect_makes pushed stmt)
    by false = refl
