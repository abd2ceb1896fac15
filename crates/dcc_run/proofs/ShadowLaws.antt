-- From stretches that match to a run that shadows another.
use Rattle.std.proofs.Common.{◌≡◌, ℕ, zero, suc, ◌+◌, ◌-◌, ◌≤◌, ◌<◌, inl, inr, Bool, true, false, cond, List, [], ◌∷◌, ◌++◌, Option, Some, None, refl, sym, ap, ap₂, ◌∙◌, subst, true≢false, arith}
use Rattle.std.specs.Prelude.{◌||◌, ◌⊎◌, is_some}
use Rattle.std.proofs.lemmas.Bool.{cases_lt}
use Rattle.std.proofs.lemmas.List.{append-nil}
use Rattle.dcc_run.specs.End.{is_over}
use Rattle.dcc_run.specs.Prefix.{IsPrefix}
use Rattle.dcc_run.specs.System.{events_after}
use Rattle.dcc_run.specs.Visits.{Visit, visit_at, visit_of, visits}
use Rattle.dcc_run.specs.Watched.{Watched, IsWatchable, state, is_shown, IsQuiet, IsQuietUntil}
use Rattle.dcc_run.specs.Shadows.{AreAlike, still_related, both_over, first_foul, AreMatched, Matches, ShowsAt, Shadows}
use Rattle.dcc_run.proofs.VisitLaws.{visits-over}
use Rattle.dcc_run.proofs.PrefixLaws.{prefix_refl, prefix_trans}
use Rattle.dcc_run.proofs.RunLaws.{after-add, events_grow, grows_by, over_stays}
use Rattle.dcc_run.proofs.VisitLaws.{visits-add}

-- one of two truth values
pub which : (b : Bool) → (b ≡ true) ⊎ (b ≡ false)
which true = inl refl
which false = inr refl

module _ {S P : Type 0} (w : Watched S P) where
  -- so many steps, and further ones
  pub state-add : (m n k : ℕ) (s : S) → k ≡ m + n → state w k s ≡ state w n (state w m s)
  state-add m n k s e = ap (λ i. state w i s) e ∙ after-add w.system.step m n s

  -- an unmarked state visits nothing
  pub unmarked_visit : (s : S) → w.mark s ≡ None → visit_of w.system w.mark s ≡ []
  unmarked_visit s none = ap (λ place. cond (is_over (w.system.end s)) [] (visit_at w.system s place)) none ∙ nothing (is_over (w.system.end s))
    where
      none_left : List (Visit P)
      none_left = []

      nothing : (b : Bool) → cond b none_left none_left ≡ none_left
      nothing true = refl
      nothing false = refl

  -- unmarked states one after another visit nothing
  pub unmarked_visits : (n : ℕ) (s : S) → ((k : ℕ) → k < n → w.mark (state w k s) ≡ None) → visits w.system w.mark n s ≡ []
  unmarked_visits zero s none = refl
  unmarked_visits (suc n) s none =
      let here : 0 < suc n = omega arith in
      ap₂ (λ a b. a ++ b) (unmarked_visit s (none 0 here))
      (unmarked_visits n (w.system.step s) (λ k lt. let less : suc k < suc n = omega (arith, lt) in none (suc k) less))

  -- up to a stretch's end only its first state is visited
  pub stretch_visits : (i n : ℕ) (s : S) → IsQuietUntil w i s → 0 < n → n ≤ i → visits w.system w.mark n s ≡ visit_of w.system w.mark s
  stretch_visits i zero s quiet some le = absurd (omega (arith, some))
  stretch_visits i (suc n) s quiet some le =
      ap (λ l. visit_of w.system w.mark s ++ l)
      (unmarked_visits n (w.system.step s) (λ k lt.
      let positive : 0 < suc k = omega arith in
      let inside : suc k < i = omega (arith, lt, le) in
      (quiet (suc k) positive inside).unmarked))
      ∙ append-nil _

  -- nothing is shown in a quiet state
  pub quiet_hides : (s : S) → IsQuiet w s → is_shown w s ≡ false
  quiet_hides s q = ap₂ (λ a b. a || is_some b) q.running q.unmarked

module _ {S P : Type 0} (w : Watched S P) (law : IsWatchable w) where
  -- a foul state stays, however many steps are asked
  pub foul_stays : (n : ℕ) (s : S) → w.foul s ≡ true → state w n s ≡ s
  foul_stays zero s foul = refl
  foul_stays (suc n) s foul = ap (λ t. state w n t) (law.stays s foul) ∙ foul_stays n s foul

  -- where a later state isn't foul, no earlier one is
  pub clean_before : (m n : ℕ) (s : S) → m ≤ n → w.foul (state w n s) ≡ false → w.foul (state w m s) ≡ false
  clean_before m n s le clean =
      elim (which (w.foul (state w m s))) [
        | inl foul ↦
            let e : n ≡ m + (n - m) = omega (arith, le) in
            let same = state-add w m (n - m) n s e ∙ foul_stays (n - m) (state w m s) foul in
            absurd (true≢false (sym foul ∙ sym (ap w.foul same) ∙ clean))
        | inr clean ↦ clean
      ]

module _ {S T P : Type 0} (first : Watched S P) (second : Watched T P) (law : IsWatchable first) (other_law : IsWatchable second) (related : S → T → Type 0)
    (matches : Matches first second related) where
  -- the second run's visit is the first one's
  visit-same : (s : S) (t : T) → AreAlike first second s t → visit_of second.system second.mark t ≡ visit_of first.system first.mark s
  visit-same s t a =
      ap₂ (λ b l. cond b [] l) (a.other_running ∙ sym a.running)
      (ap (λ place. visit_at second.system t place) a.mark ∙ at (first.mark s) a.events)
    where
      at : (place : Option P) → second.system.events t ≡ first.system.events s → visit_at second.system t place ≡ visit_at first.system s place
      at None e = refl
      at (Some place) e = ap (λ events. record { place = place; events = events } ∷ []) e

  -- at the ends of the stretches the second run's events begin with the first one's
  events_at_ends : (s : S) (t : T) (x : AreMatched first second related s t) → IsPrefix (events_after first.system x.steps s) (events_after second.system x.other_steps t)
  events_at_ends s t x =
      elim x.comes [
        | still_related r ↦ subst (λ l. IsPrefix (events_after first.system x.steps s) l) (sym (matches _ _ r).alike.events) (prefix_refl _)
        | both_over over end events ↦ subst (λ l. IsPrefix (events_after first.system x.steps s) l) (sym events) (prefix_refl _)
        | first_foul foul shown less ↦ less
      ]

  -- a state of the second run that is shown after the first state of a stretch stands at the stretch's end or later
  at_end : (t : T) (j k : ℕ) → IsQuietUntil second j t → 0 < k → is_shown second (state second k t) ≡ true → j ≤ k
  at_end t j k quiet some shown =
      elim (cases_lt k j) [
        | inl lt ↦ absurd (true≢false (sym shown ∙ quiet_hides second (state second k t) (quiet k some lt)))
        | inr ge ↦ ge
      ]

  -- within a stretch of the first run one step of the second shows what it shows
  within_stretch : (s : S) (t : T) (x : AreMatched first second related s t) → (n : ℕ) → 0 < n → n < x.steps →
      ShowsAt first s n second t 1
  within_stretch s t x n some lt = record {
    visits_are =
        let one : 0 < 1 = omega arith in
        let le : n ≤ x.steps = omega (arith, lt) in
        let other : 1 ≤ x.other_steps = omega (arith, x.others) in
        stretch_visits second x.other_steps 1 t x.other_quiet one other
        ∙ visit-same s t x.alike
        ∙ sym (stretch_visits first x.steps n s x.quiet some le);
    alike = λ over. absurd (true≢false (sym over ∙ (x.quiet n some lt).running));
    ahead = λ k le shown.
        let positive : 0 < k = omega (arith, le) in
        let le' : n ≤ x.steps = omega (arith, lt) in
        prefix_trans (events_grow first.system law.lawful n x.steps s le')
        (prefix_trans (events_at_ends s t x)
        (events_grow second.system other_law.lawful x.other_steps k t (at_end t x.other_steps k x.other_quiet positive shown)));
  }

  -- beyond a stretch: what is shown of the runs from its ends on
  after_stretch : (s : S) (t : T) (x : AreMatched first second related s t) → (n d m : ℕ) → n ≡ x.steps + d →
      ShowsAt first (state first x.steps s) d second (state second x.other_steps t) m → ShowsAt first s n second t (x.other_steps + m)
  after_stretch s t x n d m e y =
      let i = x.steps in
      let j = x.other_steps in
      let low : i ≤ i = omega arith in
      let other_low : j ≤ j = omega arith in
      let other_e : j + m ≡ j + m = refl in
      let there = state-add first i d n s e in
      let other_there = state-add second j m (j + m) t other_e in
      record {
        visits_are =
            visits-add second.system second.mark j m t
            ∙ ap₂ (λ a b. a ++ b)
            (stretch_visits second j j t x.other_quiet x.others other_low ∙ visit-same s t x.alike ∙ sym (stretch_visits first i i s x.quiet x.some low))
            y.visits_are
            ∙ sym (ap (λ k. visits first.system first.mark k s) e ∙ visits-add first.system first.mark i d s);
        alike = λ over.
            let z = y.alike (ap (λ u. is_over (first.system.end u)) (sym there) ∙ over) in
            record {
              end = ap second.system.end other_there ∙ z.end ∙ sym (ap first.system.end there);
              events = ap second.system.events other_there ∙ z.events ∙ sym (ap first.system.events there);
            };
        ahead = λ k le shown.
            let up : m ≤ k - j = omega (arith, le) in
            let parts : k ≡ j + (k - j) = omega (arith, le) in
            let at = state-add second j (k - j) k t parts in
            let z = y.ahead (k - j) up (ap (λ u. is_shown second u) (sym at) ∙ shown) in
            subst (λ l. IsPrefix l (events_after second.system k t)) (sym (ap first.system.events there))
            (subst (λ l. IsPrefix (first.system.events (state first d (state first i s))) l) (sym (ap second.system.events at)) z);
      }

  -- what is shown where both runs are over
  over_shows : (s : S) (t : T) (d : ℕ) → is_over (first.system.end s) ≡ true → second.system.end t ≡ first.system.end s → second.system.events t ≡ first.system.events s →
      ShowsAt first s d second t 0
  over_shows s t d over end events =
      let zero_first : 0 ≤ d = omega arith in
      let same = over_stays first.system law.lawful 0 d s zero_first over in
      record {
        visits_are = sym (visits-over first.system first.mark law.lawful d s over);
        alike = λ _. record { end = end ∙ sym (ap first.system.end same); events = events ∙ sym (ap first.system.events same) };
        ahead = λ k le shown.
            subst (λ l. IsPrefix l (events_after second.system k t)) (events ∙ sym (ap first.system.events same))
            (grows_by second.system other_law.lawful k t);
      }

  -- from states that are matched, for each number of steps at most as many as the fuel
  shows : (fuel n : ℕ) (s : S) (t : T) → n ≤ fuel → AreMatched first second related s t → first.foul (state first n s) ≡ false → (m : ℕ) × ShowsAt first s n second t m
  shows fuel zero s t le x clean =
      let a = x.alike in (
        0,
        record {
          visits_are = refl;
          alike = λ over. absurd (true≢false (sym over ∙ a.running));
          ahead = λ k low shown. subst (λ l. IsPrefix l (events_after second.system k t)) a.events (grows_by second.system other_law.lawful k t);
        },
      )
  shows zero (suc n) s t le x clean = absurd (omega (arith, le))
  shows (suc fuel) (suc n) s t le x clean =
      elim (cases_lt (suc n) x.steps) [
        | inl lt ↦ let some : 0 < suc n = omega arith in (1, within_stretch s t x (suc n) some lt)
        | inr ge ↦
            let d : ℕ = suc n - x.steps in
            let e : suc n ≡ x.steps + d = omega (arith, ge) in
            let less : d ≤ fuel = omega (arith, x.some, ge, le) in
            let clean_then = ap first.foul (sym (state-add first x.steps d (suc n) s e)) ∙ clean in
            elim x.comes [
              | still_related r ↦
                  let y = shows fuel d (state first x.steps s) (state second x.other_steps t) less (matches _ _ r) clean_then in
                  (x.other_steps + y.0, after_stretch s t x (suc n) d y.0 e y.1)
              | both_over over end events ↦
                  (x.other_steps + 0, after_stretch s t x (suc n) d 0 e (over_shows (state first x.steps s) (state second x.other_steps t) d over end events))
              | first_foul foul shown less ↦
                  absurd (true≢false (sym foul ∙ clean_before first law x.steps (suc n) s ge clean))
            ]
      ]

  -- From states that are matched the second run shadows the first; so it does from related ones.
  pub shadows_from_matched : (s : S) (t : T) → AreMatched first second related s t → Shadows first s second t
  shadows_from_matched s t x n clean = let le : n ≤ n = omega arith in shows n n s t le x clean

  pub shadows_from_matches : (s : S) (t : T) → related s t → Shadows first s second t
  shadows_from_matches s t r = shadows_from_matched s t (matches s t r)
