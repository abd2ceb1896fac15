-- Where each step of a run is at a marked place and stands for some steps of another run, which are at most so many, the
-- other run counts this one's visits.
use Rattle.std.proofs.Common.{◌≡◌, ℕ, zero, suc, ◌+◌, ◌*◌, ◌≤◌, ◌<◌, inl, inr, true, List, [], ◌∷◌, ◌++◌, length, refl, sym, ap, ◌∙◌, arith, add-one}
use Rattle.std.specs.Prelude.{◌⊎◌}
use Rattle.std.proofs.Math.Nat.{mul_comm, mul-le-mul_left, suc-mul}
use Rattle.dcc_run.specs.End.{is_over}
use Rattle.dcc_run.specs.System.{System, after, end_after}
use Rattle.dcc_run.specs.Visits.{Visit, visits, visits_of, EndsAlike}
use Rattle.dcc_run.specs.Watched.{Watched, IsWatchable, state, is_shown}
use Rattle.dcc_run.specs.Shadows.{IsMarked, Counts}
use Rattle.dcc_run.proofs.AgreementLaws.{marked_visit, marked_shows, over_shows}
use Rattle.dcc_run.proofs.RunLaws.{after-add, after-over}
use Rattle.dcc_run.proofs.VisitLaws.{visits-over}

-- One run stands at a marked place, and the other one where it stands. One step of the one is some steps of the other, at
-- most so many; then they are related again, or both over alike.
pub record IsLeap {S T P : Type 0} (w : Watched S P) (other : System T) (related : S → T → Type 0) (most : ℕ) (s : S) (t : T) : Type 0 where
  pub marked : IsMarked w s
  pub stands : EndsAlike w.system s 0 other t 0
  pub steps : ℕ
  pub some : 0 < steps
  pub few : steps ≤ most
  pub leads : related (w.system.step s) (after other.step steps t) ⊎ ((is_over (end_after w.system 1 s) ≡ true) × EndsAlike w.system s 1 other t steps)

-- all visits are kept
all-visits : {P : Type 0} (vs : List (Visit P)) → visits_of (λ place. true) vs ≡ vs
all-visits [] = refl
all-visits (v ∷ vs) = ap (λ us. v ∷ us) (all-visits vs)

module _ {S T P : Type 0} (w : Watched S P) (other : System T) (law : IsWatchable w) (related : S → T → Type 0) (most : ℕ)
    (leaps : (s : S) (t : T) → related s t → IsLeap w other related most s t) where
  abbrev visited : ℕ → S → ℕ
  visited n s = length (visits w.system w.mark n s)

  -- after so many steps of the other run it stands where this one stands after n, and each of these was a visit while it
  -- was not over
  record Stands (n : ℕ) (s : S) (t : T) : Type 0 where
    steps : ℕ
    low : visited n s ≤ steps
    high : steps ≤ visited n s * most
    stands : EndsAlike w.system s n other t steps
    seen : ((visited n s ≡ n) × IsMarked w (state w n s)) ⊎ (is_over (end_after w.system n s) ≡ true)

  one-more : (n : ℕ) (s : S) → IsMarked w s → visited (suc n) s ≡ suc (visited n (w.system.step s))
  one-more n s m = ap (λ vs. length (vs ++ visits w.system w.mark n (w.system.step s))) (marked_visit w s m)

  stands_after : (n : ℕ) (s : S) (t : T) → related s t → Stands n s t
  stands_after zero s t r =
      let x = leaps s t r in
      record { steps = 0; low = omega arith; high = omega arith; stands = x.stands; seen = inl (refl, x.marked) }
  stands_after (suc n) s t r =
      let x = leaps s t r in
      let count = one-more n s x.marked in
      elim x.leads [
        | inl r' ↦
            let y = stands_after n (w.system.step s) (after other.step x.steps t) r' in
            let there = after-add other.step x.steps y.steps t in
            let product : visited (suc n) s * most ≡ visited n (w.system.step s) * most + most = ap (λ k. k * most) count ∙ suc-mul (visited n (w.system.step s)) most in
            record {
              steps = x.steps + y.steps;
              low = omega (arith, count, x.some, y.low);
              high = omega (arith, product, x.few, y.high);
              stands = record { end = ap other.end there ∙ y.stands.end; events = ap other.events there ∙ y.stands.events };
              seen = elim y.seen [ inl marked ↦ inl (count ∙ ap suc marked.0, marked.1) | inr over ↦ inr over ];
            }
        | inr ends ↦
            let stay = after-over w.system law.lawful n (w.system.step s) ends.0 in
            let none : visited n (w.system.step s) ≡ 0 = ap length (visits-over w.system w.mark law.lawful n (w.system.step s) ends.0) in
            let product : visited (suc n) s * most ≡ most = ap (λ k. k * most) (count ∙ ap suc none) ∙ omega arith in
            record {
              steps = x.steps;
              low = omega (arith, count, none, x.some);
              high = omega (arith, product, x.few);
              stands = record { end = ends.1.end ∙ sym (ap w.system.end stay); events = ends.1.events ∙ sym (ap w.system.events stay) };
              seen = inr (ap (λ u. is_over (w.system.end u)) stay ∙ ends.0);
            }
      ]

  -- The other run comes to a state that is related to the start after so many steps.
  module _ (s : S) (t : T) (lead : ℕ) (begins : related s (after other.step lead t)) where
    -- the other run counts the visits
    pub leaps_count : (within : ℕ) → lead ≤ within → most ≤ within → Counts (λ place. true) w s other t within
    leaps_count within led wide m =
        let x = stands_after m s (after other.step lead t) begins in
        let there = after-add other.step lead x.steps t in
        let kept = ap length (all-visits (visits w.system w.mark m s)) in
        let product = mul-le-mul_left (visited m s) wide in
        let whole : within * (visited m s + 1) ≡ visited m s * within + within =
        mul_comm within (visited m s + 1) ∙ ap (λ k. k * within) (add-one (visited m s)) ∙ suc-mul (visited m s) within
        in (
          lead + x.steps,
          record {
            low = omega (arith, kept, x.low);
            high = omega (arith, whole, led, product, x.high);
            stands = record { end = ap other.end there ∙ x.stands.end; events = ap other.events there ∙ x.stands.events };
          },
        )

    -- something is shown of this run again and again: of each state
    pub leaps_show : (m : ℕ) → (k : ℕ) × (m ≤ k) × (is_shown w (state w k s) ≡ true)
    leaps_show m = let low : m ≤ m = omega arith in (
      m,
      low,
      elim (stands_after m s (after other.step lead t) begins).seen [
        | inl marked ↦ marked_shows w (state w m s) marked.1
        | inr over ↦ over_shows w (state w m s) over
      ],
    )

    -- the run visits more and more places, or ends
    pub leaps_go_on : (k : ℕ) → (m : ℕ) × ((k ≤ length (visits_of (λ place. true) (visits w.system w.mark m s))) ⊎ (is_over (end_after w.system m s) ≡ true))
    leaps_go_on k =
        let kept = ap length (all-visits (visits w.system w.mark k s)) in
        (k, elim (stands_after k s (after other.step lead t) begins).seen [ inl marked ↦ inl (omega (arith, kept, marked.0)) | inr over ↦ inr over ])
