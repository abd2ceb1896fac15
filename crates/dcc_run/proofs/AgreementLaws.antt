-- From a run that shadows another, and the paces of the two, to their agreement within numbers of steps.
use Rattle.std.proofs.Common.{◌≡◌, ℕ, zero, suc, ◌+◌, ◌-◌, ◌*◌, ◌≤◌, ◌<◌, inl, inr, Bool, true, false, cond, List, [], ◌∷◌, ◌++◌, length, Option, Some, None, refl, sym, ap, ap₂, ◌∙◌, subst, true≢false, arith}
use Rattle.std.specs.Prelude.{◌||◌, ◌⊎◌, is_some, All}
use Rattle.std.proofs.Math.Nat.{suc-mul}
use Rattle.std.proofs.lemmas.Bool.{cases_lt}
use Rattle.std.proofs.lemmas.List.{append-nil, length-append}
use Rattle.std.proofs.lemmas.List.Elements.{All-append, All-nil, All-cons, All-head, All-tail}
use Rattle.dcc_run.specs.End.{is_over}
use Rattle.dcc_run.specs.Event.{Event}
use Rattle.dcc_run.specs.Prefix.{IsPrefix}
use Rattle.dcc_run.specs.System.{events_after, end_after}
use Rattle.dcc_run.specs.Visits.{Visit, visit_at, visit_of, visits}
use Rattle.dcc_run.specs.Agreement.{KeepsUp}
use Rattle.dcc_run.specs.Watched.{Watched, IsWatchable, state, is_shown}
use Rattle.dcc_run.specs.Shadows.{ShowsAt, Shadows, IsMarked, is_marked, has_ended, is_foul, KeepsPace}
use Rattle.dcc_run.proofs.PrefixLaws.{prefix_refl, prefix_trans}
use Rattle.dcc_run.proofs.RunLaws.{events_grow, grows_by, over_stays, over_same}
use Rattle.dcc_run.proofs.VisitLaws.{visits-add, visits-over}
use Rattle.dcc_run.proofs.ShadowLaws.{clean_before}

module _ {S P : Type 0} (w : Watched S P) where
  -- a state visits at most one place
  few_here : (s : S) → length (visit_of w.system w.mark s) ≤ 1
  few_here s = few (is_over (w.system.end s)) (w.mark s)
    where
      few : (b : Bool) (place : Option P) → length (cond b [] (visit_at w.system s place)) ≤ 1
      few true place = omega arith
      few false None = omega arith
      few false (Some place) = omega arith

  -- so many steps visit at most as many places
  pub few_visits : (n : ℕ) (s : S) → length (visits w.system w.mark n s) ≤ n
  few_visits zero s = omega arith
  few_visits (suc n) s =
      let here = few_here s in
      let later = few_visits n (w.system.step s) in
      let e = length-append (visit_of w.system w.mark s) (visits w.system w.mark n (w.system.step s)) in
      omega (arith, here, later, e)

  -- more steps visit no fewer places
  pub more_visits : (m n : ℕ) (s : S) → m ≤ n → length (visits w.system w.mark m s) ≤ length (visits w.system w.mark n s)
  more_visits m n s le =
      let e : n ≡ m + (n - m) = omega (arith, le) in
      let whole = ap (λ k. length (visits w.system w.mark k s)) e ∙ ap length (visits-add w.system w.mark m (n - m) s)
      ∙ length-append (visits w.system w.mark m s) (visits w.system w.mark (n - m) (state w m s)) in
      omega (arith, whole)

  -- a marked state visits its place
  pub marked_visit : (s : S) (m : IsMarked w s) → visit_of w.system w.mark s ≡ record { place = m.place; events = w.system.events s } ∷ []
  marked_visit s m = ap₂ (λ b place. cond b [] (visit_at w.system s place)) m.running m.mark

  -- the visit of a marked state is one more
  pub one_more_visit : (i : ℕ) (s : S) → IsMarked w (state w i s) → length (visits w.system w.mark (suc i) s) ≡ length (visits w.system w.mark i s) + 1
  one_more_visit i s m =
      let e : suc i ≡ i + 1 = omega arith in
      ap (λ k. length (visits w.system w.mark k s)) e
      ∙ ap length (visits-add w.system w.mark i 1 s)
      ∙ length-append (visits w.system w.mark i s) (visits w.system w.mark 1 (state w i s))
      ∙ ap (λ l. length (visits w.system w.mark i s) + length l) (append-nil _ ∙ marked_visit (state w i s) m)

  -- what is shown is marked or over
  pub shown_is : (s : S) → is_shown w s ≡ true → (is_over (w.system.end s) ≡ true) ⊎ IsMarked w s
  shown_is s shown = is (is_over (w.system.end s)) (w.mark s) refl refl shown
    where
      is : (b : Bool) (place : Option P) → is_over (w.system.end s) ≡ b → w.mark s ≡ place → (b || is_some place) ≡ true → (is_over (w.system.end s) ≡ true) ⊎ IsMarked w s
      is true place e e' h = inl e
      is false (Some place) e e' h = inr (record { place = place; mark = e'; running = e })
      is false None e e' h = absurd (true≢false (sym h))

  -- a marked state is shown, and so is one that is over
  pub marked_shows : (s : S) → IsMarked w s → is_shown w s ≡ true
  marked_shows s m = ap₂ (λ a b. a || is_some b) m.running m.mark

  pub over_shows : (s : S) → is_over (w.system.end s) ≡ true → is_shown w s ≡ true
  over_shows s over = ap (λ b. b || is_some (w.mark s)) over

  -- where the run is, after some of so many steps: over, foul, or at a marked place that is at least visit k + 1
  pub data Reaches (s : S) (k i : ℕ) : Type 0 where
    at_end : is_over (end_after w.system i s) ≡ true → Reaches s k i
    at_foul : w.foul (state w i s) ≡ true → Reaches s k i
    at_mark : IsMarked w (state w i s) → k < length (visits w.system w.mark (suc i) s) → Reaches s k i

  -- By its pace a run comes to its visit k + 1, its end or a foul state within so many steps.
  pub reaches : (s : S) (begin within : ℕ) → KeepsPace w s begin within → (k : ℕ) → (i : ℕ) × (i ≤ begin + k * within) × Reaches s k i
  reaches s begin within pace zero =
      let x = pace.first in
      let le : x.0 ≤ begin + 0 * within = omega (arith, x.1) in
      elim x.2 [
        | is_marked m ↦
            let more = one_more_visit x.0 s m in
            let some : 0 < length (visits w.system w.mark (suc x.0) s) = omega (arith, more) in
            (x.0, le, at_mark m some)
        | has_ended o ↦ (x.0, le, at_end o)
        | is_foul f ↦ (x.0, le, at_foul f)
      ]
  reaches s begin within pace (suc k) =
      let x = reaches s begin within pace k in
      let product = suc-mul k within in
      let le : x.0 ≤ begin + suc k * within = omega (arith, x.1, product) in
      elim x.2 [
        | at_end o ↦ (x.0, le, at_end o)
        | at_foul f ↦ (x.0, le, at_foul f)
        | at_mark m many ↦
            let y = pace.next x.0 m in
            let le' : y.0 ≤ begin + suc k * within = elim y.2 [ inl early ↦ omega (arith, early) | inr near ↦ omega (arith, x.1, near, product) ] in
            elim y.3 [
              | has_ended o ↦ (y.0, le', at_end o)
              | is_foul f ↦ (y.0, le', at_foul f)
              | is_marked m' ↦
                  let more = one_more_visit y.0 s m' in
                  let up : suc x.0 ≤ y.0 = omega (arith, y.1) in
                  let before = more_visits (suc x.0) y.0 s up in
                  let many' : suc k < length (visits w.system w.mark (suc y.0) s) = omega (arith, many, more, before) in
                  (y.0, le', at_mark m' many')
            ]
      ]

module _ {S P : Type 0} (w : Watched S P) (law : IsWatchable w) where
  -- the events after the first n steps begin with those of each visit in them
  pub visits_until : (n : ℕ) (s : S) (whole : List Event) → IsPrefix (events_after w.system n s) whole → All (λ v. IsPrefix v.events whole) (visits w.system w.mark n s)
  visits_until zero s whole less = All-nil (λ v. IsPrefix v.events whole)
  visits_until (suc n) s whole less =
      All-append (λ v. IsPrefix v.events whole) (visit_of w.system w.mark s) (visits w.system w.mark n (w.system.step s))
      (here (is_over (w.system.end s)) (w.mark s) (prefix_trans (grows_by w.system law.lawful (suc n) s) less))
      (visits_until n (w.system.step s) whole less)
    where
      here : (b : Bool) (place : Option P) → IsPrefix (w.system.events s) whole → All (λ v. IsPrefix v.events whole) (cond b [] (visit_at w.system s place))
      here true place less' = All-nil (λ v. IsPrefix v.events whole)
      here false None less' = All-nil (λ v. IsPrefix v.events whole)
      here false (Some place) less' = All-cons (λ v. IsPrefix v.events whole) (record { place = place; events = w.system.events s }) [] less' (All-nil (λ v. IsPrefix v.events whole))

  -- the events of each visit begin with what was out before
  pub visits_since : (n : ℕ) (s : S) (front : List Event) → IsPrefix front (w.system.events s) → All (λ v. IsPrefix front v.events) (visits w.system w.mark n s)
  visits_since zero s front less = All-nil (λ v. IsPrefix front v.events)
  visits_since (suc n) s front less =
      All-append (λ v. IsPrefix front v.events) (visit_of w.system w.mark s) (visits w.system w.mark n (w.system.step s))
      (here (is_over (w.system.end s)) (w.mark s))
      (visits_since n (w.system.step s) front (prefix_trans less (law.lawful.grows s)))
    where
      here : (b : Bool) (place : Option P) → All (λ v. IsPrefix front v.events) (cond b [] (visit_at w.system s place))
      here true place = All-nil (λ v. IsPrefix front v.events)
      here false None = All-nil (λ v. IsPrefix front v.events)
      here false (Some place) = All-cons (λ v. IsPrefix front v.events) (record { place = place; events = w.system.events s }) [] less (All-nil (λ v. IsPrefix front v.events))

  -- Where more than k of the first m states are at marked places, the events after k steps are a part of each list that
  -- begins with those of all these visits.
  pub events_before_visits : (k m : ℕ) (s : S) (whole : List Event) → k < length (visits w.system w.mark m s) → All (λ v. IsPrefix v.events whole) (visits w.system w.mark m s) → IsPrefix
      (events_after w.system k s) whole
  events_before_visits k m s whole many all =
      let few = few_visits w m s in
      let e : m ≡ k + (m - k) = omega (arith, few, many) in
      let split = ap (λ i. visits w.system w.mark i s) e ∙ visits-add w.system w.mark k (m - k) s in
      let count = ap length split ∙ length-append (visits w.system w.mark k s) (visits w.system w.mark (m - k) (state w k s)) in
      let low = few_visits w k s in
      let some : 0 < length (visits w.system w.mark (m - k) (state w k s)) = omega (arith, count, low, many) in
      between (visits w.system w.mark (m - k) (state w k s)) some
      (visits_since (m - k) (state w k s) (events_after w.system k s) (prefix_refl _))
      (right (visits w.system w.mark k s) (visits w.system w.mark (m - k) (state w k s)) (subst (All (λ v. IsPrefix v.events whole)) split all))
    where
      right : (vs us : List (Visit P)) → All (λ v. IsPrefix v.events whole) (vs ++ us) → All (λ v. IsPrefix v.events whole) us
      right [] us h = h
      right (v ∷ vs) us h = right vs us (All-tail (λ u. IsPrefix u.events whole) v (vs ++ us) h)

      between : (vs : List (Visit P)) → 0 < length vs → All (λ v. IsPrefix (events_after w.system k s) v.events) vs → All (λ v. IsPrefix v.events whole) vs → IsPrefix (events_after w.system k s) whole
      between [] some low high = absurd (omega (arith, some))
      between (v ∷ vs) some low high =
          prefix_trans (All-head (λ u. IsPrefix (events_after w.system k s) u.events) v vs low) (All-head (λ u. IsPrefix u.events whole) v vs high)

  -- no visit comes after the end
  pub visits_stop : (k m : ℕ) (s : S) → is_over (end_after w.system k s) ≡ true → length (visits w.system w.mark m s) ≤ k
  visits_stop k m s over =
      elim (cases_lt m k) [
        | inl lt ↦ let few = few_visits w m s in omega (arith, few, lt)
        | inr ge ↦
            let e : m ≡ k + (m - k) = omega (arith, ge) in
            let none = visits-over w.system w.mark law.lawful (m - k) (state w k s) over in
            let count = ap (λ i. length (visits w.system w.mark i s)) e ∙ ap length (visits-add w.system w.mark k (m - k) s)
            ∙ length-append (visits w.system w.mark k s) (visits w.system w.mark (m - k) (state w k s)) ∙ ap (λ l. length (visits w.system w.mark k s) + length l) none in
            let few = few_visits w k s in
            omega (arith, count, few)
      ]

module _ {S T P : Type 0} (first : Watched S P) (second : Watched T P) (law : IsWatchable first) (other_law : IsWatchable second) (s : S) (t : T) (shadows : Shadows first s second t) where
  -- A run that shadows another and keeps pace has caught up with n clean steps of it, each of which visits at most one
  -- place.
  pub second_keeps_up : (begin within : ℕ) → KeepsPace second t begin within → ((u : T) → second.foul u ≡ false) →
      (n : ℕ) → first.foul (state first n s) ≡ false → KeepsUp first.system s n second.system t (begin + n * within)
  second_keeps_up begin within pace never n clean =
      let x = shadows n clean in
      let m = x.0 in
      let y = reaches second t begin within pace n in
      let last = begin + n * within in
      elim y.2 [
        | at_foul f ↦ absurd (true≢false (sym f ∙ never (state second y.0 t)))
        | at_end over ↦
            let there = over_stays second.system other_law.lawful y.0 last t y.1 over in
            let over' : is_over (end_after second.system last t) ≡ true = ap (λ u. is_over (second.system.end u)) there ∙ over in
            record {
              events = caught m last x.1 over';
              alike = λ o.
                  let z = x.1.alike o in
                  let same = over_same second.system other_law.lawful m last t (ap is_over z.end ∙ o) over' in
                  record { end = ap second.system.end same ∙ z.end; events = ap second.system.events same ∙ z.events };
            }
        | at_mark mark many ↦
            let equal = ap length x.1.visits_are in
            let few = few_visits first n s in
            let reached : m ≤ y.0 =
            elim (cases_lt y.0 m) [
              | inl lt ↦
                  let le : suc y.0 ≤ m = omega (arith, lt) in
                  let more = more_visits second (suc y.0) m t le in
                  absurd (omega (arith, equal, few, more, many))
              | inr ge ↦ ge
            ]
            in
            record {
              events = prefix_trans (x.1.ahead y.0 reached (marked_shows second (state second y.0 t) mark)) (events_grow second.system other_law.lawful y.0 last t y.1);
              alike = λ o.
                  let z = x.1.alike o in
                  let same = over_stays second.system other_law.lawful m y.0 t reached (ap is_over z.end ∙ o) in
                  absurd (true≢false (sym (ap is_over z.end ∙ o) ∙ sym (ap (λ u. is_over (second.system.end u)) same) ∙ mark.running));
            }
      ]
    where
      caught : (m last : ℕ) → ShowsAt first s n second t m → is_over (end_after second.system last t) ≡ true → IsPrefix (events_after first.system n s) (events_after second.system last t)
      caught m last x over =
          elim (cases_lt last m) [
            | inl lt ↦
                let le : last ≤ m = omega (arith, lt) in
                let low : m ≤ m = omega arith in
                let same = over_stays second.system other_law.lawful last m t le over in
                let there : is_over (end_after second.system m t) ≡ true = ap (λ u. is_over (second.system.end u)) same ∙ over in
                subst (λ u. IsPrefix (events_after first.system n s) (second.system.events u)) same (x.ahead m low (over_shows second (state second m t) there))
            | inr ge ↦ x.ahead last ge (over_shows second (state second last t) over)
          ]

  -- The first run, which keeps pace, has caught up with k steps of its shadow after clean steps that come to its visit
  -- k + 1.
  pub first_keeps_up : (begin within : ℕ) → KeepsPace first s begin within →
      (k n : ℕ) → begin + k * within < n → first.foul (state first n s) ≡ false → KeepsUp second.system t k first.system s n
  first_keeps_up begin within pace k n lt clean =
      let x = shadows n clean in
      let m = x.0 in
      let y = reaches first s begin within pace k in
      let le : y.0 ≤ n = omega (arith, y.1, lt) in
      elim y.2 [
        | at_foul f ↦ absurd (true≢false (sym f ∙ clean_before first law y.0 n s le clean))
        | at_end over ↦
            let there = over_stays first.system law.lawful y.0 n s le over in
            let over' : is_over (end_after first.system n s) ≡ true = ap (λ u. is_over (first.system.end u)) there ∙ over in
            let z = x.1.alike over' in
            let other_over = ap is_over z.end ∙ over' in
            record {
              events = elim (cases_lt m k) [
                | inl lt' ↦
                    let less : m ≤ k = omega (arith, lt') in
                    let same = over_stays second.system other_law.lawful m k t less other_over in
                    subst (λ l. IsPrefix l (events_after first.system n s)) (sym (ap second.system.events same ∙ z.events)) (prefix_refl _)
                | inr ge ↦ subst (λ l. IsPrefix (events_after second.system k t) l) z.events (events_grow second.system other_law.lawful k m t ge)
              ];
              alike = λ o.
                  let same = over_same second.system other_law.lawful m k t other_over o in
                  record { end = sym (ap second.system.end same ∙ z.end); events = sym (ap second.system.events same ∙ z.events) };
            }
        | at_mark mark many ↦
            let up : suc y.0 ≤ n = omega (arith, y.1, lt) in
            let more = more_visits first (suc y.0) n s up in
            let equal = ap length x.1.visits_are in
            let many' : k < length (visits second.system second.mark m t) = omega (arith, many, more, equal) in
            record {
              events = events_before_visits second other_law k m t (events_after first.system n s) many'
                  (subst (All (λ v. IsPrefix v.events (events_after first.system n s))) (sym x.1.visits_are) (visits_until first law n s (events_after first.system n s) (prefix_refl _)));
              alike = λ o. let stop = visits_stop second other_law k m t o in absurd (omega (arith, stop, many'));
            }
      ]
