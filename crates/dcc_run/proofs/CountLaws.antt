-- From a run that shadows another, and a third that counts its visits, to the agreement of the first and the third
-- within numbers of steps.
use Rattle.std.proofs.Common.{◌≡◌, ℕ, zero, suc, ◌+◌, ◌-◌, ◌*◌, ◌≤◌, ◌<◌, inl, inr, Bool, true, false, cond, [], ◌∷◌, ◌++◌, length, Option, Some, None, refl, sym, ap, ◌∙◌, subst, true≢false, arith}
use Rattle.std.specs.Prelude.{All, ◌⊎◌, ◌||◌, is_some}
use Rattle.std.proofs.Math.Nat.{mul-le-mul_left}
use Rattle.std.proofs.lemmas.Bool.{cases_lt}
use Rattle.std.proofs.lemmas.List.{append-nil, length-append}
use Rattle.std.proofs.lemmas.List.Elements.{All-head}
use Rattle.dcc_run.specs.End.{is_over, Stuck}
use Rattle.dcc_run.specs.Prefix.{IsPrefix}
use Rattle.dcc_run.specs.System.{System, IsLawful, events_after, end_after}
use Rattle.dcc_run.specs.Visits.{Visit, visit_at, visit_of, visits, visits_of, EndsAlike}
use Rattle.dcc_run.specs.Agreement.{KeepsUp}
use Rattle.dcc_run.specs.Watched.{Watched, IsWatchable, state, is_shown}
use Rattle.dcc_run.specs.Shadows.{Shadows, IsMarked, KeepsPace, only, Counts}
use Rattle.dcc_run.proofs.AgreementLaws.{at_end, at_foul, at_mark, reaches, few_visits, more_visits, marked_visit, visits_until}
use Rattle.dcc_run.proofs.KeptLaws.{only_visits, right_part}
use Rattle.dcc_run.proofs.PrefixLaws.{prefix_refl, prefix_trans}
use Rattle.dcc_run.proofs.RunLaws.{events_grow, over_stays, over_same}
use Rattle.dcc_run.proofs.ShadowLaws.{which, clean_before}
use Rattle.dcc_run.proofs.VisitLaws.{visits-add, visits_of-append}

module _ {S P : Type 0} (kept : P → Bool) (w : Watched S P) where
  -- the number of the kept places that the first m states are at
  abbrev pub kept_count : ℕ → S → ℕ
  kept_count m s = length (visits_of kept (visits w.system w.mark m s))

  -- after a state the count is that before it, and one more where the state is at a kept place
  count_on : (m : ℕ) (s : S) → kept_count (suc m) s ≡ kept_count m s + length (visits_of kept (visit_of w.system w.mark (state w m s)))
  count_on m s =
      let e : suc m ≡ m + 1 = omega arith in
      ap (λ k. kept_count k s) e
      ∙ ap (λ vs. length (visits_of kept vs)) (visits-add w.system w.mark m 1 s)
      ∙ ap length (visits_of-append kept (visits w.system w.mark m s) (visits w.system w.mark 1 (state w m s)))
      ∙ length-append (visits_of kept (visits w.system w.mark m s)) (visits_of kept (visits w.system w.mark 1 (state w m s)))
      ∙ ap (λ vs. kept_count m s + length (visits_of kept vs)) (append-nil _)

  -- a state is at a marked place, or nothing of it counts
  marked_or_none : (s : S) → IsMarked w s ⊎ (length (visits_of kept (visit_of w.system w.mark s)) ≡ 0)
  marked_or_none s = by (is_over (w.system.end s)) (w.mark s) refl refl
    where
      by : (b : Bool) (place : Option P) → is_over (w.system.end s) ≡ b → w.mark s ≡ place → IsMarked w s ⊎ (length (visits_of kept (cond b [] (visit_at w.system s place))) ≡ 0)
      by true place e e' = inr refl
      by false None e e' = inr refl
      by false (Some place) e e' = inl (record { place = place; mark = e'; running = e })

  -- a marked state counts once at most
  once : (s : S) → IsMarked w s → length (visits_of kept (visit_of w.system w.mark s)) ≤ 1
  once s m =
      let e = ap (λ vs. length (visits_of kept vs)) (marked_visit w s m) in
      elim (which (kept m.place)) [
        | inl passes ↦ let e' = e ∙ ap (λ b. length {A = Visit P} (cond b (record { place = m.place; events = w.system.events s } ∷ []) [])) passes in omega (arith, e')
        | inr stays ↦ let e' = e ∙ ap (λ b. length {A = Visit P} (cond b (record { place = m.place; events = w.system.events s } ∷ []) [])) stays in omega (arith, e')
      ]

  -- Where more than k kept places are visited in m steps, one of these steps is at visit k + 1.
  pub visit_number : (k m : ℕ) (s : S) → k < kept_count m s → (i : ℕ) × (i < m) × (kept_count i s ≡ k) × IsMarked w (state w i s)
  visit_number k zero s many = absurd (omega (arith, many))
  visit_number k (suc m) s many =
      elim (cases_lt k (kept_count m s)) [
        | inl more ↦
            let x = visit_number k m s more in
            let lt : x.0 < suc m = omega (arith, x.1) in
            (x.0, lt, x.2, x.3)
        | inr few ↦
            let on = count_on m s in
            elim (marked_or_none (state w m s)) [
              | inl mark ↦
                  let one = once (state w m s) mark in
                  let lt : m < suc m = omega arith in
                  let e : kept_count m s ≡ k = omega (arith, many, few, on, one) in
                  (m, lt, e, mark)
              | inr none ↦ absurd (omega (arith, many, few, on, none))
            ]
      ]

module _ {S P : Type 0} (w : Watched S P) where
  -- a state of which nothing is shown visits nothing
  hidden_visit : (s : S) → is_shown w s ≡ false → visit_of w.system w.mark s ≡ []
  hidden_visit s none = by (is_over (w.system.end s)) (w.mark s) none
    where
      by : (b : Bool) (place : Option P) → (b || is_some place) ≡ false → cond b [] (visit_at w.system s place) ≡ []
      by true place e = refl
      by false None e = refl
      by false (Some place) e = absurd (true≢false e)

  -- one step from a state of which nothing is shown visits no place
  hidden_step : (m : ℕ) (s : S) → is_shown w (state w m s) ≡ false → length (visits w.system w.mark (suc m) s) ≡ length (visits w.system w.mark m s)
  hidden_step m s none =
      let e : suc m ≡ m + 1 = omega arith in
      let more = ap (λ k. length (visits w.system w.mark k s)) e
      ∙ ap length (visits-add w.system w.mark m 1 s)
      ∙ length-append (visits w.system w.mark m s) (visits w.system w.mark 1 (state w m s))
      ∙ ap (λ l. length (visits w.system w.mark m s) + length l) (append-nil _ ∙ hidden_visit (state w m s) none) in
      omega (arith, more)

  -- the next state that is shown: up to there no place is visited
  record NextShown (m : ℕ) (s : S) : Type 0 where
    at : ℕ
    late : m ≤ at
    shown : is_shown w (state w at s) ≡ true
    same : length (visits w.system w.mark at s) ≡ length (visits w.system w.mark m s)

  next_shown : (d m : ℕ) (s : S) → is_shown w (state w (m + d) s) ≡ true → NextShown m s
  next_shown zero m s there =
      let e : m ≡ m + 0 = omega arith in
      let le : m ≤ m = omega arith in
      record { at = m; late = le; shown = ap (λ k. is_shown w (state w k s)) e ∙ there; same = refl }
  next_shown (suc d) m s there =
      let e : suc m + d ≡ m + suc d = omega arith in
      let x = next_shown d (suc m) s (ap (λ k. is_shown w (state w k s)) e ∙ there) in
      elim (which (is_shown w (state w m s))) [
        | inl here ↦ let le : m ≤ m = omega arith in record { at = m; late = le; shown = here; same = refl }
        | inr none ↦
            let le : m ≤ x.at = omega (arith, x.late) in
            record { at = x.at; late = le; shown = x.shown; same = x.same ∙ hidden_step m s none }
      ]

module _ {S T U P : Type 0} (kept : P → Bool) (first : Watched S P) (second : Watched T P) (third : System U) (law : IsWatchable first)
    (third_law : IsLawful third) (s : S) (t : T) (u : U) (within : ℕ) (counts : Counts kept second t third u within) where
  -- where the second run is over, its events begin with those of the third at any time, and the third's end is the same
  over_alike : (m k : ℕ) → is_over (end_after second.system m t) ≡ true →
      IsPrefix (events_after third k u) (events_after second.system m t) × (is_over (end_after third k u) ≡ true → EndsAlike second.system t m third u k)
  over_alike m k over =
      let c = counts m in
      let j = c.0 in
      let there : is_over (end_after third j u) ≡ true = ap is_over c.1.stands.end ∙ over in (
        subst (λ l. IsPrefix (events_after third k u) l) c.1.stands.events
            (elim (cases_lt j k) [
              | inl lt ↦
                  let le : j ≤ k = omega (arith, lt) in
                  subst (λ z. IsPrefix (third.events z) (events_after third j u)) (sym (over_stays third third_law j k u le there)) (prefix_refl _)
              | inr ge ↦ events_grow third third_law k j u ge
            ]),
        λ o.
            let same = over_same third third_law j k u there o in
            record { end = ap third.end same ∙ c.1.stands.end; events = ap third.events same ∙ c.1.stands.events },
      )

  -- Where something is shown of the second run again and again, the third has caught up with n clean steps of the first.
  pub third_keeps_up : Shadows first s second t → ((m : ℕ) → (k : ℕ) × (m ≤ k) × (is_shown second (state second k t) ≡ true)) →
      (n : ℕ) → first.foul (state first n s) ≡ false → KeepsUp first.system s n third u (within * (n + 1))
  third_keeps_up shadows again n clean =
      let x = shadows n clean in
      let m = x.0 in
      let late = again m in
      let e : late.0 ≡ m + (late.0 - m) = omega (arith, late.1) in
      let y = next_shown second (late.0 - m) m t (sym (ap (λ k. is_shown second (state second k t)) e) ∙ late.2) in
      let c = counts y.at in
      let here = counts m in
      let last = within * (n + 1) in
      let few = few_visits first n s in
      let equal = ap length x.1.visits_are in
      let less : length (visits second.system second.mark m t) + 1 ≤ n + 1 = omega (arith, few, equal) in
      let less_there : length (visits second.system second.mark y.at t) + 1 ≤ n + 1 = omega (arith, few, equal, y.same) in
      let product = mul-le-mul_left within less in
      let product_there = mul-le-mul_left within less_there in
      let le : here.0 ≤ last = omega (arith, here.1.high, product) in
      let le_there : c.0 ≤ last = omega (arith, c.1.high, product_there) in
      record {
        events = prefix_trans (x.1.ahead y.at y.late y.shown) (subst (λ l. IsPrefix l (events_after third last u)) c.1.stands.events (events_grow third third_law c.0 last u le_there));
        alike = λ o.
            let z = x.1.alike o in
            let same = over_stays third third_law here.0 last u le (ap is_over (here.1.stands.end ∙ z.end) ∙ o) in
            record { end = ap third.end same ∙ here.1.stands.end ∙ z.end; events = ap third.events same ∙ here.1.stands.events ∙ z.events };
      }

  -- The first run, which keeps pace in its kept places, has caught up with k steps of the third.
  pub first_keeps_up_with_third : Shadows first s second t → (begin near : ℕ) → KeepsPace (only kept first) s begin near →
      (k n : ℕ) → begin + k * near < n → first.foul (state first n s) ≡ false → KeepsUp third u k first.system s n
  first_keeps_up_with_third shadows begin near pace k n lt clean =
      let x = shadows n clean in
      let m = x.0 in
      let y = reaches (only kept first) s begin near pace k in
      let le : y.0 ≤ n = omega (arith, y.1, lt) in
      elim y.2 [
        | at_foul f ↦ absurd (true≢false (sym f ∙ clean_before first law y.0 n s le clean))
        | at_end over ↦
            let same = over_stays first.system law.lawful y.0 n s le over in
            let over' : is_over (end_after first.system n s) ≡ true = ap (λ z. is_over (first.system.end z)) same ∙ over in
            let z = x.1.alike over' in
            let a = over_alike m k (ap is_over z.end ∙ over') in
            record {
              events = subst (λ l. IsPrefix (events_after third k u) l) z.events a.0;
              alike = λ o. let e = a.1 o in record { end = sym (e.end ∙ z.end); events = sym (e.events ∙ z.events) };
            }
        | at_mark mark many ↦
            let up : suc y.0 ≤ n = omega (arith, y.1, lt) in
            let more = more_visits (only kept first) (suc y.0) n s up in
            let equal = ap length (only_visits kept first n s ∙ sym (ap (visits_of kept) x.1.visits_are)) in
            let many' : k < kept_count kept second m t = omega (arith, many, more, equal) in
            visited x.0 x.1.visits_are k (visit_number kept second k m t many')
      ]
    where
      visited : (m : ℕ) → visits second.system second.mark m t ≡ visits first.system first.mark n s → (k : ℕ) →
          (i : ℕ) × (i < m) × (kept_count kept second i t ≡ k) × IsMarked second (state second i t) → KeepsUp third u k first.system s n
      visited m same k x =
          let i = x.0 in
          let F : Visit P → Type 0 = λ v. IsPrefix v.events (events_after first.system n s) in
          let c = counts i in
          let le : k ≤ c.0 = omega (arith, c.1.low, x.2) in
          let d : ℕ = m - suc i in
          let e : m ≡ i + suc d = omega (arith, x.1) in
          let parts : visits second.system second.mark m t ≡ visits second.system second.mark i t ++ visits second.system second.mark (suc d) (state second i t) =
          ap (λ j. visits second.system second.mark j t) e ∙ visits-add second.system second.mark i (suc d) t
          in
          let last : Visit P = record { place = x.3.place; events = events_after second.system i t } in
          let rest = visits second.system second.mark d (second.system.step (state second i t)) in
          let all = subst (All F) (sym same ∙ parts) (visits_until first law n s (events_after first.system n s) (prefix_refl _)) in
          let from = right_part F (visits second.system second.mark i t) (visits second.system second.mark (suc d) (state second i t)) all in
          let at = All-head F last rest (subst (All F) (ap (λ vs. vs ++ rest) (marked_visit second (state second i t) x.3)) from) in
          record {
            events = prefix_trans (events_grow third third_law k c.0 u le) (subst (λ l. IsPrefix l (events_after first.system n s)) (sym c.1.stands.events) at);
            alike = λ o.
                let stays = over_stays third third_law k c.0 u le o in
                let over = sym (ap is_over c.1.stands.end) ∙ ap (λ z. is_over (third.end z)) stays ∙ o in
                absurd (true≢false (sym over ∙ x.3.running));
          }

  -- The third run is never stuck where the second is not, and the second is over or visits ever more kept places.
  pub never_stuck : ((m line : ℕ) → end_after second.system m t ≡ Stuck line → ⊥) →
      ((k : ℕ) → (m : ℕ) × ((k ≤ kept_count kept second m t) ⊎ (is_over (end_after second.system m t) ≡ true))) →
      (k line : ℕ) → end_after third k u ≡ Stuck line → ⊥
  never_stuck free endless k line stuck =
      let x = endless k in
      let m = x.0 in
      let over : is_over (end_after third k u) ≡ true = ap is_over stuck in
      elim x.1 [
        | inl many ↦
            let c = counts m in
            let le : k ≤ c.0 = omega (arith, c.1.low, many) in
            let stays = over_stays third third_law k c.0 u le over in
            free m line (sym c.1.stands.end ∙ ap third.end stays ∙ stuck)
        | inr over' ↦ free m line (sym ((over_alike m k over').1 over).end ∙ stuck)
      ]
