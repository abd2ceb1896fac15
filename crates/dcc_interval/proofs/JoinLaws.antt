-- Laws of how a node joins the interval that grows.
use Rattle.std.proofs.Common.{◌≡◌, ℕ, ◌<◌, ◌≤◌, Bool, true, false, ◌||◌, inl, inr, List, [], ◌∷◌, ◌++◌, length, get_or, slice_set, sym, ap, ◌∙◌, subst, arith}
use Rattle.std.specs.Prelude.{nat_lt, if◌then◌else◌}
use Rattle.std.proofs.lemmas.Bool.{false≢true, cases_Bool, cases_eq, cases_lt, lt-ltb, le-ltb, or_right, or_from}
use Rattle.std.proofs.lemmas.List.{get_or-set_same, get_or-set_other}
use Rattle.dcc_interval.specs.Growing.{Growing, is_held, joined, AreChecked}
use Rattle.dcc_interval.proofs.PlaceLaws.{place_of, in_at}
use Rattle.dcc_interval.proofs.GrowthLaws.{some_passes, passes_at}

-- a node that joins, or does not

pub joined_claimed : (sources : List (List ℕ)) (s : Growing) (n : ℕ) → get_or s.claimed n false ≡ true → s ≡ joined sources s n
joined_claimed sources s n t =
    sym (ap (λ b. if b || is_held s.free (get_or sources n []) then s else record { free = slice_set s.free n false; claimed = slice_set s.claimed n true; members = s.members ++ n ∷ [] }) t)

pub joined_held : (sources : List (List ℕ)) (s : Growing) (n : ℕ) → is_held s.free (get_or sources n []) ≡ true → s ≡ joined sources s n
joined_held sources s n t =
    sym (ap (λ b. if b then s else record { free = slice_set s.free n false; claimed = slice_set s.claimed n true; members = s.members ++ n ∷ [] })
    (or_right (get_or s.claimed n false) (is_held s.free (get_or sources n [])) t))

pub joined_now : (sources : List (List ℕ)) (s : Growing) (n : ℕ) → get_or s.claimed n false ≡ false → is_held s.free (get_or sources n []) ≡ false
    → record { free = slice_set s.free n false; claimed = slice_set s.claimed n true; members = s.members ++ n ∷ [] } ≡ joined sources s n
joined_now sources s n unclaimed unheld =
    sym (ap (λ b. if b then s else record { free = slice_set s.free n false; claimed = slice_set s.claimed n true; members = s.members ++ n ∷ [] })
    (or_from (get_or s.claimed n false) (is_held s.free (get_or sources n [])) unclaimed unheld))

-- What was looked at.

-- where none before a place is free, whether one is free is whether the one there is
pub held_is : (free : List Bool) (nodes : List ℕ) (place : ℕ) → place ≤ length nodes
    → ((k : ℕ) → k < place → get_or free (get_or nodes k 0) false ≡ false)
    → (place < length nodes → get_or free (get_or nodes place 0) false ≡ true)
    → nat_lt place (length nodes) ≡ is_held free nodes
held_is free nodes place within passed stops = elim (cases_lt place (length nodes)) [
  | inl less ↦ lt-ltb place (length nodes) less ∙ sym (passes_at (λ m. get_or free m false) nodes (get_or nodes place 0) (in_at nodes place less) (stops less))
  | inr past ↦ le-ltb place (length nodes) past ∙ sym (elim (cases_Bool (is_held free nodes)) [
    | inl t ↦
        let some = some_passes (λ m. get_or free m false) nodes t in
        let at = place_of nodes some.0 some.1 in
        absurd (false≢true (sym (passed at.0 (omega (arith, past, at.1))) ∙ subst (λ m. get_or free m false ≡ true) (sym at.2) some.2))
    | inr f ↦ f
  ])
]

-- the places before the first that was not looked at, and those passed since
pub all_passed : (sources : List (List ℕ)) (free : List Bool) (checked : List ℕ) (node place : ℕ) → AreChecked sources free checked
    → ((k : ℕ) → get_or checked node 0 ≤ k → k < place → get_or free (get_or (get_or sources node []) k 0) false ≡ false)
    → (k : ℕ) → k < place → get_or free (get_or (get_or sources node []) k 0) false ≡ false
all_passed sources free checked node place right passed k less = elim (cases_lt k (get_or checked node 0)) [
  | inl before ↦ right node k before
  | inr since ↦ passed k since less
]

pub checked_on : (sources : List (List ℕ)) (free : List Bool) (checked : List ℕ) (node place : ℕ) → node < length checked → AreChecked sources free checked
    → ((k : ℕ) → k < place → get_or free (get_or (get_or sources node []) k 0) false ≡ false)
    → AreChecked sources free (slice_set checked node place)
checked_on sources free checked node place inside right passed n k less = elim (cases_eq node n) [
  | inl e ↦ subst (λ m. k < get_or (slice_set checked node place) m 0 → get_or free (get_or (get_or sources m []) k 0) false ≡ false) e
      (λ l. passed k (let is = get_or-set_same checked node place 0 inside in omega (arith, is, l))) less
  | inr o ↦ right n k (let is = get_or-set_other checked node n place 0 (λ e. o (sym e)) in omega (arith, is, less))
]

-- a node that is free no longer makes no difference
pub checked_still : (sources : List (List ℕ)) (free : List Bool) (checked : List ℕ) (node : ℕ) → node < length free → AreChecked sources free checked
    → AreChecked sources (slice_set free node false) checked
checked_still sources free checked node inside right n k less =
    let m = get_or (get_or sources n []) k 0 in
    elim (cases_eq node m) [
      | inl e ↦ subst (λ x. get_or (slice_set free node false) x false ≡ false) e (get_or-set_same free node false false inside)
      | inr o ↦ get_or-set_other free node m false false (λ e. o (sym e)) ∙ right n k less
    ]
