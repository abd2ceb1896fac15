-- Laws of visits.
use Rattle.std.proofs.Common.{◌≡◌, ℕ, zero, suc, ◌+◌, Bool, true, false, cond, List, [], ◌∷◌, ◌++◌, Option, Some, None, refl, sym, ap, ap₂, ◌∙◌, append_assoc, true≢false, arith}
use Rattle.std.specs.Prelude.{if◌then◌else◌}
use Rattle.dcc_run.specs.End.{is_over}
use Rattle.dcc_run.specs.System.{System, after, IsLawful}
use Rattle.dcc_run.specs.Visits.{Visit, visit_at, visit_of, visits, visits_of, EndsAlike, VisitsKept}

-- the visits of m + n steps are those of m steps and those of n more
pub visits-add : {S P : Type 0} (system : System S) (mark : S → Option P) (m n : ℕ) (s : S) →
    visits system mark (m + n) s ≡ visits system mark m s ++ visits system mark n (after system.step m s)
visits-add system mark zero n s = let e : 0 + n ≡ n = omega arith in ap (λ k. visits system mark k s) e
visits-add system mark (suc m) n s =
    let e : suc m + n ≡ suc (m + n) = omega arith in
    ap (λ k. visits system mark k s) e
    ∙ ap (λ vs. visit_of system mark s ++ vs) (visits-add system mark m n (system.step s))
    ∙ sym (append_assoc (visit_of system mark s) (visits system mark m (system.step s)) (visits system mark n (after system.step m (system.step s))))

-- what is kept of visits, and of others after them
pub visits_of-append : {P : Type 0} (kept : P → Bool) (vs us : List (Visit P)) → visits_of kept (vs ++ us) ≡ visits_of kept vs ++ visits_of kept us
visits_of-append kept [] us = refl
visits_of-append kept (v ∷ vs) us =
    elim (kept v.place) as (λ b. cond b (v ∷ visits_of kept (vs ++ us)) (visits_of kept (vs ++ us)) ≡ cond b (v ∷ visits_of kept vs) (visits_of kept vs) ++ visits_of kept us) [
      | true ↦ ap (λ l. v ∷ l) (visits_of-append kept vs us)
      | false ↦ visits_of-append kept vs us
    ]

-- Where the second test lets fewer places through, testing twice is testing by the second.
pub visits_of_twice : {P : Type 0} (first second : P → Bool) → ((place : P) → second place ≡ true → first place ≡ true) → (vs : List (Visit P)) →
    visits_of second (visits_of first vs) ≡ visits_of second vs
visits_of_twice first second fewer [] = refl
visits_of_twice first second fewer (v ∷ vs) = both (first v.place) (second v.place) refl (fewer v.place) (visits_of_twice first second fewer vs)
  where
    both : (a b : Bool) → second v.place ≡ b → (b ≡ true → a ≡ true) → visits_of second (visits_of first vs) ≡ visits_of second vs →
        visits_of second (cond a (v ∷ visits_of first vs) (visits_of first vs)) ≡ cond b (v ∷ visits_of second vs) (visits_of second vs)
    both true b e h later = ap₂ (λ c l. cond c (v ∷ l) l) e later
    both false true e h later = absurd (true≢false (sym (h refl)))
    both false false e h later = later

-- the places of the visits are all kept
all_kept : {S P : Type 0} (kept : P → Bool) (system : System S) (mark : S → Option P) (holds : S → Type 0) →
    ((s : S) → holds s → holds (system.step s)) → ((s : S) → holds s → (place : P) → mark s ≡ Some place → kept place ≡ true) →
    (n : ℕ) (s : S) → holds s → visits_of kept (visits system mark n s) ≡ visits system mark n s
all_kept kept system mark holds steps marked zero s h = refl
all_kept kept system mark holds steps marked (suc n) s h =
    visits_of-append kept (visit_of system mark s) (visits system mark n (system.step s))
    ∙ ap₂ (λ a b. a ++ b) (here (is_over (system.end s)) (mark s) (marked s h)) (all_kept kept system mark holds steps marked n (system.step s) (steps s h))
  where
    here : (over : Bool) (place : Option _) → ((p : _) → place ≡ Some p → kept p ≡ true) →
        visits_of kept (if over then [] else visit_at system s place) ≡ (if over then [] else visit_at system s place)
    here true place m = refl
    here false None m = refl
    here false (Some p) m = ap (λ b. cond b (record { place = p; events = system.events s } ∷ []) []) (m p refl)

-- A run keeps its own visits, where all its marked places are kept.
pub visits_kept_refl : {S P : Type 0} (kept : P → Bool) (system : System S) (mark : S → Option P) (holds : S → Type 0) →
    ((s : S) → holds s → holds (system.step s)) → ((s : S) → holds s → (place : P) → mark s ≡ Some place → kept place ≡ true) →
    (s : S) → holds s → VisitsKept kept system mark s system mark s
visits_kept_refl kept system mark holds steps marked s h = record {
  forth = λ n. (n, sym (all_kept kept system mark holds steps marked n s h), λ over. record { end = refl; events = refl });
  back = λ n. (n, sym (all_kept kept system mark holds steps marked n s h), λ over. record { end = refl; events = refl });
}

-- What a third run keeps of a second one's visits it keeps of those of the first, where it keeps no other places.
pub visits_kept_trans : {S T U P : Type 0} (kept fewer : P → Bool) → ((place : P) → fewer place ≡ true → kept place ≡ true) →
    (first : System S) (mark : S → Option P) (s : S) (second : System T) (second_mark : T → Option P) (t : T) (third : System U) (third_mark : U → Option P) (u : U) →
    VisitsKept kept first mark s second second_mark t → VisitsKept fewer second second_mark t third third_mark u →
    VisitsKept fewer first mark s third third_mark u
visits_kept_trans kept fewer less first mark s second second_mark t third third_mark u a b = record {
  forth = λ n.
      let x = a.forth n in
      let y = b.forth x.0 in (
        y.0,
        y.1 ∙ ap (visits_of fewer) x.1 ∙ visits_of_twice kept fewer less (visits first mark n s),
        λ over.
            let e = x.2 over in
            let e' = y.2 (ap is_over e.end ∙ over) in
            record { end = e'.end ∙ e.end; events = e'.events ∙ e.events },
      );
  back = λ k.
      let y = b.back k in
      let x = a.back y.0 in (
        x.0,
        y.1 ∙ ap (visits_of fewer) x.1 ∙ visits_of_twice kept fewer less (visits first mark x.0 s),
        λ over.
            let e' = y.2 over in
            let e = x.2 (sym (ap is_over e'.end) ∙ over) in
            record { end = e'.end ∙ e.end; events = e'.events ∙ e.events },
      );
}

-- two states that a step of both keeps related, and that show the same to whoever looks at the kept places
pub record StepsTogether {S T P : Type 0} (kept : P → Bool) (first : System S) (mark : S → Option P) (second : System T) (other_mark : T → Option P) (related : S → T → Type 0) : Type 0 where
  pub steps : (s : S) (t : T) → related s t → related (first.step s) (second.step t)
  pub visit : (s : S) (t : T) → related s t → visit_of second other_mark t ≡ visits_of kept (visit_of first mark s)
  pub end : (s : S) (t : T) → related s t → second.end t ≡ first.end s
  pub events : (s : S) (t : T) → related s t → second.events t ≡ first.events s

module _ {S T P : Type 0} (kept : P → Bool) (first : System S) (mark : S → Option P) (second : System T) (other_mark : T → Option P) (related : S → T → Type 0)
    (together : StepsTogether kept first mark second other_mark related) where
  visits_together : (n : ℕ) (s : S) (t : T) → related s t → visits second other_mark n t ≡ visits_of kept (visits first mark n s)
  visits_together zero s t r = refl
  visits_together (suc n) s t r =
      ap₂ (λ a b. a ++ b) (together.visit s t r) (visits_together n (first.step s) (second.step t) (together.steps s t r))
      ∙ sym (visits_of-append kept (visit_of first mark s) (visits first mark n (first.step s)))

  related_after : (n : ℕ) (s : S) (t : T) → related s t → related (after first.step n s) (after second.step n t)
  related_after zero s t r = r
  related_after (suc n) s t r = related_after n (first.step s) (second.step t) (together.steps s t r)

  alike : (n : ℕ) (s : S) (t : T) → related s t → EndsAlike first s n second t n
  alike n s t r =
      let r' = related_after n s t r in
      record { end = together.end _ _ r'; events = together.events _ _ r' }

  -- Where related states step to related ones, the second run visits what is kept of the first one's visits.
  pub visits_kept_from_steps : (s : S) (t : T) → related s t → VisitsKept kept first mark s second other_mark t
  visits_kept_from_steps s t r = record {
    forth = λ n. (n, visits_together n s t r, λ over. alike n s t r);
    back = λ n. (n, visits_together n s t r, λ over. alike n s t r);
  }

module _ {S P : Type 0} (system : System S) (mark : S → Option P) (law : IsLawful system) where
  -- a run that is over visits nothing
  pub visits-over : (n : ℕ) (s : S) → is_over (system.end s) ≡ true → visits system mark n s ≡ []
  visits-over zero s over = refl
  visits-over (suc n) s over =
      ap₂ (λ b vs. cond b [] (visit_at system s (mark s)) ++ vs) over
      (ap (λ t. visits system mark n t) (law.stays s over) ∙ visits-over n s over)
