-- Laws of runs.
use Rattle.std.proofs.Common.{◌≡◌, ℕ, zero, suc, ◌+◌, ◌-◌, ◌≤◌, inl, inr, true, refl, sym, ap, ◌∙◌, subst, arith}
use Rattle.std.proofs.lemmas.Bool.{cases_lt}
use Rattle.dcc_run.specs.End.{is_over}
use Rattle.dcc_run.specs.Prefix.{IsPrefix}
use Rattle.dcc_run.specs.System.{System, after, IsLawful, events_after, end_after}
use Rattle.dcc_run.proofs.PrefixLaws.{prefix_refl, prefix_trans}

-- m + n steps are m steps and n more
pub after-add : {S : Type 0} (step : S → S) (m n : ℕ) (s : S) → after step (m + n) s ≡ after step n (after step m s)
after-add step zero n s = let e : 0 + n ≡ n = omega arith in ap (λ k. after step k s) e
after-add step (suc m) n s =
    let e : suc m + n ≡ suc (m + n) = omega arith in
    ap (λ k. after step k s) e ∙ after-add step m n (step s)

module _ {S : Type 0} (system : System S) (law : IsLawful system) where
  -- a state that has ended stays, however many steps are asked
  pub after-over : (n : ℕ) (s : S) → is_over (system.end s) ≡ true → after system.step n s ≡ s
  after-over zero s over = refl
  after-over (suc n) s over =
      ap (λ t. after system.step n t) (law.stays s over) ∙ after-over n s over

  -- the events of a state are a prefix of those of n steps later
  pub grows_by : (n : ℕ) (s : S) → IsPrefix (system.events s) (events_after system n s)
  grows_by zero s = prefix_refl _
  grows_by (suc n) s = prefix_trans (law.grows s) (grows_by n (system.step s))

  -- the events of fewer steps are a prefix of those of more
  pub events_grow : (m n : ℕ) (s : S) → m ≤ n → IsPrefix (events_after system m s) (events_after system n s)
  events_grow m n s le =
      let e : n ≡ m + (n - m) = omega arith in
      let both = ap (λ k. events_after system k s) e ∙ ap system.events (after-add system.step m (n - m) s) in
      subst (λ l. IsPrefix (events_after system m s) l) (sym both) (grows_by (n - m) (after system.step m s))

  -- a run that is over after m steps is in the same state after more
  pub over_stays : (m n : ℕ) (s : S) → m ≤ n → is_over (end_after system m s) ≡ true → after system.step n s ≡ after system.step m s
  over_stays m n s le over =
      let e : n ≡ m + (n - m) = omega arith in
      ap (λ k. after system.step k s) e ∙ after-add system.step m (n - m) s ∙ after-over (n - m) (after system.step m s) over

  -- two states of one run that are both over are one
  pub over_same : (m n : ℕ) (s : S) → is_over (end_after system m s) ≡ true → is_over (end_after system n s) ≡ true → after system.step n s ≡ after system.step m s
  over_same m n s over other =
      elim (cases_lt m n) [
        | inl lt ↦ let le : m ≤ n = omega (arith, lt) in over_stays m n s le over
        | inr ge ↦ sym (over_stays n m s ge other)
      ]
