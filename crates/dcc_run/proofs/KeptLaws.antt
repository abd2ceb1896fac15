-- What shadows a run also shadows it in what is kept of its marked places, through a third run that keeps the second
-- one's visits.
use Rattle.std.proofs.Common.{◌≡◌, ℕ, zero, suc, ◌+◌, ◌-◌, ◌≤◌, inl, inr, Bool, true, false, cond, List, [], ◌∷◌, ◌++◌, length, Option, Some, None, refl, sym, ap, ap₂, ◌∙◌, subst, append_assoc, arith}
use Rattle.std.specs.Prelude.{All}
use Rattle.std.proofs.lemmas.Bool.{cases_lt}
use Rattle.std.proofs.lemmas.List.{append_cancel_left, append-nil, length-append}
use Rattle.std.proofs.lemmas.List.Elements.{All-append, All-nil, All-cons, All-head, All-tail, All-filter}
use Rattle.dcc_run.specs.End.{is_over}
use Rattle.dcc_run.specs.Event.{Event}
use Rattle.dcc_run.specs.Prefix.{IsPrefix}
use Rattle.dcc_run.specs.System.{events_after, end_after}
use Rattle.dcc_run.specs.Visits.{Visit, visit_at, visit_of, visits, visits_of, VisitsKept}
use Rattle.dcc_run.specs.Watched.{Watched, IsWatchable, state, is_shown}
use Rattle.dcc_run.specs.Shadows.{Shadows, IsMarked, IsSeen, is_marked, has_ended, is_foul, KeepsPace, kept_mark, only}
use Rattle.dcc_run.proofs.AgreementLaws.{marked_visit, marked_shows, over_shows, shown_is}
use Rattle.dcc_run.proofs.RunLaws.{over_stays}
use Rattle.dcc_run.proofs.ShadowLaws.{state-add}
use Rattle.dcc_run.proofs.VisitLaws.{visits-add, visits_of-append}

module _ {S P : Type 0} (kept : P → Bool) (w : Watched S P) where
  -- the visits of the kept places are what is kept of the visits
  pub only_visits : (n : ℕ) (s : S) → visits w.system (only kept w).mark n s ≡ visits_of kept (visits w.system w.mark n s)
  only_visits zero s = refl
  only_visits (suc n) s =
      ap₂ (λ a b. a ++ b) (here (is_over (w.system.end s)) (w.mark s)) (only_visits n (w.system.step s))
      ∙ sym (visits_of-append kept (visit_of w.system w.mark s) (visits w.system w.mark n (w.system.step s)))
    where
      at : (place : P) (b : Bool) → cond false [] (visit_at w.system s (cond b (Some place) None)) ≡ cond b (record { place = place; events = w.system.events s } ∷ []) []
      at place true = refl
      at place false = refl

      here : (b : Bool) (place : Option P) → cond b [] (visit_at w.system s (kept_mark kept place)) ≡ visits_of kept (cond b [] (visit_at w.system s place))
      here true place = refl
      here false None = refl
      here false (Some place) = at place (kept place)

module _ {S P : Type 0} (w : Watched S P) where
  -- in its kept places alone a run is as watchable
  pub only_watchable : (kept : P → Bool) → IsWatchable w → IsWatchable (only kept w)
  only_watchable kept law = record { lawful = law.lawful; stays = law.stays; unmarked = λ s foul. ap (kept_mark kept) (law.unmarked s foul) }

  -- where all places are kept, the marks are as before
  all_kept_mark : (place : Option P) → kept_mark (λ p. true) place ≡ place
  all_kept_mark None = refl
  all_kept_mark (Some place) = refl

  all_kept_seen : (s : S) → IsSeen w s → IsSeen (only (λ place. true) w) s
  all_kept_seen s (is_marked m) = is_marked (record { place = m.place; mark = all_kept_mark (w.mark s) ∙ m.mark; running = m.running })
  all_kept_seen s (has_ended over) = has_ended over
  all_kept_seen s (is_foul foul) = is_foul foul

  -- where all places are kept, the pace is as before
  pub pace_of_all : (s : S) (begin within : ℕ) → KeepsPace w s begin within → KeepsPace (only (λ place. true) w) s begin within
  pace_of_all s begin within pace = record {
    first = (pace.first.0, pace.first.1, all_kept_seen (state w pace.first.0 s) pace.first.2);
    next = λ i m.
        let x = pace.next i (record { place = m.place; mark = sym (all_kept_mark (w.mark (state w i s))) ∙ m.mark; running = m.running }) in
        (x.0, x.1, x.2, all_kept_seen (state w x.0 s) x.3);
  }

  -- what holds of the output of each marked state holds of each visit
  pub visits_hold : (F : List Event → Type 0) (n : ℕ) (s : S) → ((k : ℕ) → IsMarked w (state w k s) → F (events_after w.system k s)) → All (λ v. F v.events) (visits w.system w.mark n s)
  visits_hold F zero s h = All-nil (λ v. F v.events)
  visits_hold F (suc n) s h =
      All-append (λ v. F v.events) (visit_of w.system w.mark s) (visits w.system w.mark n (w.system.step s))
      (here (is_over (w.system.end s)) (w.mark s) refl refl)
      (visits_hold F n (w.system.step s) (λ k. h (suc k)))
    where
      here : (b : Bool) (place : Option P) → is_over (w.system.end s) ≡ b → w.mark s ≡ place → All (λ v. F v.events) (cond b [] (visit_at w.system s place))
      here true place e e' = All-nil (λ v. F v.events)
      here false None e e' = All-nil (λ v. F v.events)
      here false (Some place) e e' =
          All-cons (λ v. F v.events) (record { place = place; events = w.system.events s }) [] (h 0 (record { place = place; mark = e'; running = e })) (All-nil (λ v. F v.events))

-- what holds of all of two lists joined holds of the second
pub right_part : {A : Type 0} (F : A → Type 0) (xs ys : List A) → All F (xs ++ ys) → All F ys
right_part F [] ys h = h
right_part F (x ∷ xs) ys h = right_part F xs ys (All-tail F x (xs ++ ys) h)

module _ {S T U P : Type 0} (kept : P → Bool) (first : Watched S P) (second : Watched T P) (third : Watched U P) (other_law : IsWatchable second) (s : S) (t : T) (u : U)
    (shadows : Shadows first s second t) (keeps : VisitsKept kept second.system second.mark t third.system third.mark u) where
  -- where the third run is over
  ahead_over : (n m k : ℕ) → ((i : ℕ) → m ≤ i → is_shown second (state second i t) ≡ true → IsPrefix (events_after first.system n s) (events_after second.system i t)) →
      is_over (end_after third.system k u) ≡ true → IsPrefix (events_after first.system n s) (events_after third.system k u)
  ahead_over n m k ahead over =
      let b = keeps.back k in
      let z = b.2 over in
      let there : is_over (end_after second.system b.0 t) ≡ true = sym (ap is_over z.end) ∙ over in
      subst (λ l. IsPrefix (events_after first.system n s) l) (sym z.events)
      (elim (cases_lt b.0 m) [
        | inl lt ↦
            let le : b.0 ≤ m = omega (arith, lt) in
            let low : m ≤ m = omega arith in
            let same = over_stays second.system other_law.lawful b.0 m t le there in
            let shown = over_shows second (state second m t) (ap (λ x. is_over (second.system.end x)) same ∙ there) in
            subst (λ x. IsPrefix (events_after first.system n s) (second.system.events x)) same (ahead m low shown)
        | inr ge ↦ ahead b.0 ge (over_shows second (state second b.0 t) there)
      ])

  -- where the third run is at a marked place
  ahead_marked : (n m m' k : ℕ) → ((i : ℕ) → m ≤ i → is_shown second (state second i t) ≡ true → IsPrefix (events_after first.system n s) (events_after second.system i t)) →
      visits third.system third.mark m' u ≡ visits_of kept (visits second.system second.mark m t) → m' ≤ k → (x : IsMarked third (state third k u)) →
      IsPrefix (events_after first.system n s) (events_after third.system k u)
  ahead_marked n m m' k ahead same le x =
      let F : Visit P → Type 0 = λ v. IsPrefix (events_after first.system n s) v.events in
      let b = keeps.back (suc k) in
      let i = b.0 in
      let front = visits third.system third.mark m' u in
      let middle = visits third.system third.mark (k - m') (state third m' u) in
      let last : Visit P = record { place = x.place; events = events_after third.system k u } in
      let to_k : visits third.system third.mark k u ≡ front ++ middle =
      let e : k ≡ m' + (k - m') = omega (arith, le) in
      ap (λ j. visits third.system third.mark j u) e ∙ visits-add third.system third.mark m' (k - m') u
      in
      let to_last : visits third.system third.mark (suc k) u ≡ front ++ (middle ++ (last ∷ [])) =
      let e : suc k ≡ k + 1 = omega arith in
      ap (λ j. visits third.system third.mark j u) e
      ∙ visits-add third.system third.mark k 1 u
      ∙ ap₂ (λ vs ws. vs ++ ws) to_k (append-nil _ ∙ marked_visit third (state third k u) x)
      ∙ append_assoc front middle (last ∷ [])
      in
      let up : m ≤ i =
      elim (cases_lt i m) [
        | inl lt ↦
            let e : m ≡ i + (m - i) = omega (arith, lt) in
            let rest = visits_of kept (visits second.system second.mark (m - i) (state second i t)) in
            let whole = same
            ∙ ap (λ j. visits_of kept (visits second.system second.mark j t)) e
            ∙ ap (visits_of kept) (visits-add second.system second.mark i (m - i) t)
            ∙ visits_of-append kept (visits second.system second.mark i t) (visits second.system second.mark (m - i) (state second i t))
            in
            let count = ap length whole ∙ length-append (visits_of kept (visits second.system second.mark i t)) rest in
            let seen = ap length (sym b.1 ∙ to_last) ∙ length-append front (middle ++ (last ∷ [])) in
            let tail = length-append middle (last ∷ []) in
            absurd (omega (arith, count, seen, tail))
        | inr ge ↦ ge
      ]
      in
      let rest = visits second.system second.mark (i - m) (state second m t) in
      let parts : front ++ (middle ++ (last ∷ [])) ≡ front ++ visits_of kept rest =
      let e : i ≡ m + (i - m) = omega (arith, up) in
      sym to_last
      ∙ b.1
      ∙ ap (λ j. visits_of kept (visits second.system second.mark j t)) e
      ∙ ap (visits_of kept) (visits-add second.system second.mark m (i - m) t)
      ∙ visits_of-append kept (visits second.system second.mark m t) rest
      ∙ ap (λ vs. vs ++ visits_of kept rest) (sym same)
      in
      let all : All F rest =
      visits_hold second (λ events. IsPrefix (events_after first.system n s) events) (i - m) (state second m t) (λ j y.
      let e : m + j ≡ m + j = refl in
      let low : m ≤ m + j = omega arith in
      let at = state-add second m j (m + j) t e in
      subst (λ z. IsPrefix (events_after first.system n s) (second.system.events z)) at
      (ahead (m + j) low (ap (λ z. is_shown second z) at ∙ marked_shows second (state second j (state second m t)) y)))
      in
      let kept_all = All-filter (λ v. kept v.place) F rest all in
      All-head F last [] (right_part F middle (last ∷ []) (subst (All F) (sym (append_cancel_left front (middle ++ (last ∷ [])) (visits_of kept rest) parts)) kept_all))

  -- The third run shadows the first, of whose places those that are kept are marked.
  pub shadows_kept : Shadows (only kept first) s third u
  shadows_kept n clean =
      let x = shadows n clean in
      let m = x.0 in
      let y = keeps.forth m in (
        y.0,
        record {
          visits_are = y.1 ∙ ap (visits_of kept) x.1.visits_are ∙ sym (only_visits kept first n s);
          alike = λ over.
              let z = x.1.alike over in
              let z' = y.2 (ap is_over z.end ∙ over) in
              record { end = z'.end ∙ z.end; events = z'.events ∙ z.events };
          ahead = λ k le shown.
              elim (shown_is third (state third k u) shown) [
                | inl over ↦ ahead_over n m k x.1.ahead over
                | inr mark ↦ ahead_marked n m y.0 k x.1.ahead y.1 le mark
              ];
        },
      )
