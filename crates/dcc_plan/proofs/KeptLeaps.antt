-- Where each step of a run stands for some steps of another run, none where it begins no kept place and a measure falls,
-- the other run counts this one's visits. Steps between places are paid for by the place before them: what is owed.
use Rattle.std.proofs.Common.{◌≡◌, ℕ, zero, suc, ◌+◌, ◌*◌, ◌≤◌, ◌<◌, inl, inr, Bool, true, false, cond, List, [], ◌∷◌, ◌++◌, length, Option, Some, None, refl, sym, ap, ap₂, ◌∙◌, arith, add-one}
use Rattle.std.specs.Prelude.{◌⊎◌, is_some}
use Rattle.std.proofs.lemmas.Bool.{cases_Bool}
use Rattle.std.proofs.Math.Nat.{mul_comm, mul-le-mul_left, suc-mul}
use Rattle.dcc_run.specs.End.{is_over}
use Rattle.dcc_run.specs.System.{System, after, end_after}
use Rattle.dcc_run.specs.Visits.{Visit, visit_at, visit_of, visits, visits_of, EndsAlike}
use Rattle.dcc_run.specs.Watched.{Watched, IsWatchable, state, is_shown}
use Rattle.dcc_run.specs.Shadows.{Counts}
use Rattle.dcc_run.proofs.AgreementLaws.{shown_is, marked_shows, over_shows}
use Rattle.dcc_run.proofs.RunLaws.{after-add, after-over}
use Rattle.dcc_run.proofs.VisitLaws.{visits-over}

-- the place, where there is one, is kept
abbrev pub keeps : {P : Type 0} → (P → Bool) → Option P → Bool
keeps kept None = false
keeps kept (Some place) = kept place

-- how many steps are paid for at the place, where there is one
abbrev pub paid : {P : Type 0} → ℕ → Option P → ℕ
paid most None = 0
paid most (Some place) = most

module _ {S T P : Type 0} (kept : P → Bool) (w : Watched S P) (other : System T) (law : IsWatchable w) (related : S → T → Type 0) (measure : (s : S) (t : T) → related s t → ℕ) (owed : S → T → ℕ) (most : ℕ) where
  -- One run stands where the other one stands, and is not over. One step of the one is some steps of the other, at most as
  -- many as are owed and paid for; then they are related again, or both over alike.
  pub record IsKeptLeap (s : S) (t : T) (r : related s t) : Type 0 where
    pub running : is_over (w.system.end s) ≡ false
    pub stands : EndsAlike w.system s 0 other t 0
    pub shown : w.mark s ≡ None → is_shown w (w.system.step s) ≡ true
    pub steps : ℕ
    pub some : keeps kept (w.mark s) ≡ true → 0 < steps
    pub leads : ((next : related (w.system.step s) (after other.step steps t)) × (steps + owed (w.system.step s) (after other.step steps t) ≤ owed s t + paid most (w.mark s))
        × (is_some (w.mark s) ≡ true → keeps kept (w.mark s) ≡ false → (is_some (w.mark (w.system.step s)) ≡ true) × (measure (w.system.step s) (after other.step steps t) next < measure s t r)))
        ⊎ ((is_over (end_after w.system 1 s) ≡ true) × EndsAlike w.system s 1 other t steps × (steps ≤ owed s t + paid most (w.mark s)))

  abbrev visited : ℕ → S → ℕ
  visited n s = length (visits w.system w.mark n s)

  abbrev kept_visits : ℕ → S → ℕ
  kept_visits n s = length (visits_of kept (visits w.system w.mark n s))

  abbrev one_if : Bool → ℕ
  one_if b = cond b 1 0

  visit-here : (s : S) → is_over (w.system.end s) ≡ false → (o : Option P) → w.mark s ≡ o → visit_of w.system w.mark s ≡ visit_at w.system s o
  visit-here s on o is = ap₂ (λ b place. cond b [] (visit_at w.system s place)) on is

  -- a visit is paid for
  one-more : (n : ℕ) (s : S) → is_over (w.system.end s) ≡ false → visited (suc n) s * most ≡ visited n (w.system.step s) * most + paid most (w.mark s)
  one-more n s on = by (w.mark s) refl
    where
      by : (o : Option P) → w.mark s ≡ o → visited (suc n) s * most ≡ visited n (w.system.step s) * most + paid most o
      by None is = let same = ap (λ vs. length (vs ++ visits w.system w.mark n (w.system.step s)) * most) (visit-here s on None is) in omega (arith, same)
      by (Some place) is =
          ap (λ vs. length (vs ++ visits w.system w.mark n (w.system.step s)) * most) (visit-here s on (Some place) is)
          ∙ suc-mul (visited n (w.system.step s)) most

  abbrev later_visits : ℕ → S → List (Visit P)
  later_visits n s = visits w.system w.mark n (w.system.step s)

  -- a visit counts where its place is kept
  one-kept : (n : ℕ) (s : S) → is_over (w.system.end s) ≡ false → kept_visits (suc n) s ≡ one_if (keeps kept (w.mark s)) + kept_visits n (w.system.step s)
  one-kept n s on = by (w.mark s) refl
    where
      here : (place : P) (b : Bool) → length (cond b (record { place = place; events = w.system.events s } ∷ visits_of kept (later_visits n s)) (visits_of kept (later_visits n s))) ≡ one_if b + length (visits_of kept (later_visits n s))
      here place true = omega arith
      here place false = omega arith

      by : (o : Option P) → w.mark s ≡ o → kept_visits (suc n) s ≡ one_if (keeps kept o) + kept_visits n (w.system.step s)
      by None is = let same = ap (λ vs. length (visits_of kept (vs ++ later_visits n s))) (visit-here s on None is) in omega (arith, same)
      by (Some place) is = ap (λ vs. length (visits_of kept (vs ++ later_visits n s))) (visit-here s on (Some place) is) ∙ here place (kept place)

  module _ (leaps : (s : S) (t : T) (r : related s t) → IsKeptLeap s t r) where
    -- After so many steps of the other run it stands where this one stands after n; there were at least as many as kept
    -- places were visited, and this run is over or related to where it stands.
    record Stands (n : ℕ) (s : S) (t : T) : Type 0 where
      steps : ℕ
      low : kept_visits n s ≤ steps
      high : steps ≤ visited n s * most + owed s t
      stands : EndsAlike w.system s n other t steps
      seen : ((u : T) × related (state w n s) u) ⊎ (is_over (end_after w.system n s) ≡ true)

    -- what one step of the run adds
    counted : (n : ℕ) (s : S) (t : T) (r : related s t) (x : IsKeptLeap s t r) (steps : ℕ) → kept_visits n (w.system.step s) ≤ steps → kept_visits (suc n) s ≤ x.steps + steps
    counted n s t r x steps low =
        let count = one-kept n s x.running in
        elim (cases_Bool (keeps kept (w.mark s))) [
          | inl is ↦ let one = ap one_if is in let some = x.some is in omega (arith, count, one, some, low)
          | inr none ↦ let one = ap one_if none in omega (arith, count, one, low)
        ]

    stands_after : (n : ℕ) (s : S) (t : T) → related s t → Stands n s t
    stands_after zero s t r =
        let x = leaps s t r in
        record { steps = 0; low = omega arith; high = omega arith; stands = x.stands; seen = inl (t, r) }
    stands_after (suc n) s t r =
        let x = leaps s t r in
        let product = one-more n s x.running in
        elim x.leads [
          | inl next ↦
              let y = stands_after n (w.system.step s) (after other.step x.steps t) next.0 in
              let there = after-add other.step x.steps y.steps t in
              record {
                steps = x.steps + y.steps;
                low = counted n s t r x y.steps y.low;
                high = omega (arith, product, next.1, y.high);
                stands = record { end = ap other.end there ∙ y.stands.end; events = ap other.events there ∙ y.stands.events };
                seen = y.seen;
              }
          | inr ends ↦
              let stay = after-over w.system law.lawful n (w.system.step s) ends.0 in
              let gone = visits-over w.system w.mark law.lawful n (w.system.step s) ends.0 in
              let same = ap (λ vs. length vs * most) gone in
              let none : visited n (w.system.step s) * most ≡ 0 = omega (arith, same) in
              let none_kept : kept_visits n (w.system.step s) ≡ 0 = ap (λ vs. length (visits_of kept vs)) gone in
              let low = counted n s t r x 0 (omega (arith, none_kept)) in
              record {
                steps = x.steps;
                low = omega (arith, low);
                high = omega (arith, product, none, ends.2);
                stands = record { end = ends.1.end ∙ sym (ap w.system.end stay); events = ends.1.events ∙ sym (ap w.system.events stay) };
                seen = inr (ap (λ u. is_over (w.system.end u)) stay ∙ ends.0);
              }
        ]

    -- after some steps so many kept places were visited, or the run is over
    abbrev Reaches : ℕ → S → Type 0
    Reaches k s = (m : ℕ) × ((k ≤ kept_visits m s) ⊎ (is_over (end_after w.system m s) ≡ true))

    -- one step before
    step-before : (k : ℕ) (s : S) → is_over (w.system.end s) ≡ false → Reaches k (w.system.step s) → Reaches (one_if (keeps kept (w.mark s)) + k) s
    step-before k s on y = let count = one-kept y.0 s on in (suc y.0, elim y.1 [ inl more ↦ inl (omega (arith, count, more)) | inr over ↦ inr over ])

    one-reaches : (k : ℕ) → ((s : S) (t : T) → related s t → Reaches k s) → (n : ℕ) (s : S) (t : T) (r : related s t) → is_some (w.mark s) ≡ true → measure s t r < n → Reaches (suc k) s
    one-reaches k again zero s t r marked small = absurd (omega (arith, small))
    one-reaches k again (suc n) s t r marked small =
        let x = leaps s t r in
        elim x.leads [
          | inl next ↦ elim (cases_Bool (keeps kept (w.mark s))) [
            | inl is ↦
                let y = step-before k s x.running (again (w.system.step s) (after other.step x.steps t) next.0) in
                let one = ap one_if is in
                (y.0, elim y.1 [ inl more ↦ inl (omega (arith, one, more)) | inr over ↦ inr over ])
            | inr none ↦
                let falls = next.2 marked none in
                let y = step-before (suc k) s x.running (one-reaches k again n (w.system.step s) (after other.step x.steps t) next.0 falls.0 (omega (arith, falls.1, small))) in
                let one = ap one_if none in
                (y.0, elim y.1 [ inl more ↦ inl (omega (arith, one, more)) | inr over ↦ inr over ])
          ]
          | inr ends ↦ (1, inr ends.0)
        ]

    -- from a place, or from before the next one
    from-any : (k : ℕ) → ((s : S) (t : T) → related s t → Reaches k s) → (s : S) (t : T) → related s t → Reaches (suc k) s
    from-any k again s t r = by (w.mark s) refl
      where
        by : (o : Option P) → w.mark s ≡ o → Reaches (suc k) s
        by (Some place) is = one-reaches k again (suc (measure s t r)) s t r (ap is_some is) (omega arith)
        by None none =
            let x = leaps s t r in
            let one = ap (λ o. one_if (keeps kept o)) none in
            elim (shown_is w (w.system.step s) (x.shown none)) [
              | inl over ↦ (1, inr over)
              | inr marked ↦ elim x.leads [
                | inl next ↦
                    let y = step-before (suc k) s x.running (one-reaches k again (suc (measure (w.system.step s) (after other.step x.steps t) next.0)) (w.system.step s) (after other.step x.steps t) next.0 (ap is_some marked.mark) (omega arith)) in
                    (y.0, elim y.1 [ inl more ↦ inl (omega (arith, one, more)) | inr over ↦ inr over ])
                | inr ends ↦ (1, inr ends.0)
              ]
            ]

    reaches : (k : ℕ) (s : S) (t : T) → related s t → Reaches k s
    reaches zero s t r = (0, inl (omega arith))
    reaches (suc k) s t r = from-any k (reaches k) s t r

    -- The other run comes to a state that is related to the start after so many steps, and nothing is owed there.
    module _ (s : S) (t : T) (lead : ℕ) (begins : related s (after other.step lead t)) (free : owed s (after other.step lead t) ≡ 0) where
      -- the other run counts the visits
      pub leaps_count : (within : ℕ) → lead ≤ within → most ≤ within → Counts kept w s other t within
      leaps_count within led wide m =
          let x = stands_after m s (after other.step lead t) begins in
          let there = after-add other.step lead x.steps t in
          let product = mul-le-mul_left (visited m s) wide in
          let whole : within * (visited m s + 1) ≡ visited m s * within + within =
          mul_comm within (visited m s + 1) ∙ ap (λ k. k * within) (add-one (visited m s)) ∙ suc-mul (visited m s) within
          in (
            lead + x.steps,
            record {
              low = omega (arith, x.low);
              high = omega (arith, whole, led, product, free, x.high);
              stands = record { end = ap other.end there ∙ x.stands.end; events = ap other.events there ∙ x.stands.events };
            },
          )

      -- something is shown of this run again and again: of each state or of the next one
      pub leaps_show : (m : ℕ) → (k : ℕ) × (m ≤ k) × (is_shown w (state w k s) ≡ true)
      leaps_show m = let low : m ≤ m = omega arith in elim (stands_after m s (after other.step lead t) begins).seen [
        | inl there ↦ by there.0 there.1 (w.mark (state w m s)) refl
        | inr over ↦ (m, low, over_shows w (state w m s) over)
      ]
        where
          by : (u : T) → related (state w m s) u → (o : Option P) → w.mark (state w m s) ≡ o → (k : ℕ) × (m ≤ k) × (is_shown w (state w k s) ≡ true)
          by u r (Some place) is =
              let low : m ≤ m = omega arith in
              (m, low, marked_shows w (state w m s) (record { place = place; mark = is; running = (leaps (state w m s) u r).running }))
          by u r None none =
              let low : m ≤ m + 1 = omega arith in
              (m + 1, low, ap (is_shown w) (after-add w.system.step m 1 s) ∙ (leaps (state w m s) u r).shown none)

      -- the run visits more and more kept places, or ends
      pub leaps_go_on : (k : ℕ) → (m : ℕ) × ((k ≤ length (visits_of kept (visits w.system w.mark m s))) ⊎ (is_over (end_after w.system m s) ≡ true))
      leaps_go_on k = reaches k s (after other.step lead t) begins
