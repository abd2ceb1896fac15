-- Quiet stretches; and the pace of a run that goes through places along edges, but for leaps: it is seen again at kept
-- places within as many steps as a way has places, twice.
use Rattle.std.proofs.Common.{◌≡◌, ◌≢◌, ℕ, zero, suc, ◌+◌, ◌-◌, ◌*◌, ◌≤◌, ◌<◌, inl, inr, Bool, true, false, List, [], ◌∷◌, length, AllPairs, Some, None, refl, sym, ap, ◌∙◌, subst, true≢false, arith}
use Rattle.std.specs.Prelude.{◌⊎◌, if◌then◌else◌}
use Rattle.std.proofs.lemmas.Bool.{cases_lt}
use Rattle.dcc_run.specs.End.{is_over}
use Rattle.dcc_run.specs.Shadows.{IsMarked, IsSeen, is_marked, has_ended, is_foul, KeepsPace, kept_mark, only}
use Rattle.dcc_run.specs.Watched.{Watched, IsWatchable, state, IsQuiet, IsQuietUntil}
use Rattle.dcc_run.proofs.RunLaws.{after-over}
use Rattle.dcc_run.proofs.ShadowLaws.{state-add, foul_stays, which}
use Rattle.dcc_run.proofs.WayLaws.{IsWay, origin, AllClosedHold, way-differs}

-- Quiet stretches.

module _ {S P : Type 0} (w : Watched S P) where
  -- before a stretch stands one step more, whose next state is quiet
  pub quiet_before : (i : ℕ) (s : S) → IsQuiet w (w.system.step s) → IsQuietUntil w i (w.system.step s)
      → IsQuietUntil w (suc i) s
  quiet_before i s here later zero some lt = absurd (omega (arith, some))
  quiet_before i s here later (suc zero) some lt = here
  quiet_before i s here later (suc (suc k)) some lt =
      let some' : 0 < suc k = omega arith in
      let lt' : suc k < i = omega (arith, lt) in
      later (suc k) some' lt'

  -- between a state and the next one there is none
  pub quiet_once : (s : S) → IsQuietUntil w 1 s
  quiet_once s k some lt = absurd (omega (arith, some, lt))

-- Runs through places.

-- Where a step leads from a place: to an end, to where the run is foul, along an edge, or by a leap from a place that the
-- run leaves to one that it enters.
pub data Comes {S P : Type 0} (w : Watched S P) (StandsAt : S → P → Type 0) (goes : P → P → Type 0)
    (Leaves Enters : P → Type 0) (a : P) (s : S) : Type 0 where
  ends : is_over (w.system.end s) ≡ true → Comes w StandsAt goes Leaves Enters a s
  fouls : w.foul s ≡ true → Comes w StandsAt goes Leaves Enters a s
  walks : (b : P) → StandsAt s b → goes a b → Comes w StandsAt goes Leaves Enters a s
  leaps : (b : P) → StandsAt s b → Leaves a → Enters b → Comes w StandsAt goes Leaves Enters a s

-- A run goes through places, where kept places are on the ways between them.
pub record GoesThrough {S P : Type 0} (w : Watched S P) (StandsAt : S → P → Type 0) (goes : P → P → Type 0)
    (Leaves Enters : P → Type 0) (kept : P → Bool) (most : ℕ) : Type 0 where
  -- a state that stands at a place has it as its mark, goes on, and its step leads to another place
  pub mark : (s : S) (a : P) → StandsAt s a → w.mark s ≡ Some a
  pub running : (s : S) (a : P) → StandsAt s a → is_over (w.system.end s) ≡ false
  pub steps : (s : S) (a : P) → StandsAt s a → Comes w StandsAt goes Leaves Enters a (w.system.step s)
  pub closed : AllClosedHold kept goes
  -- a way from where the run enters to where it leaves again holds a kept place
  pub crossed : (c : P) (before : List P) → IsWay kept goes c before → Enters (origin c before)
      → kept (origin c before) ≡ false → Leaves c → ⊥
  -- a way of places that differ has at most so many
  pub few : (c : P) (before : List P) → IsWay kept goes c before → AllPairs (λ a b. a ≢ b) (c ∷ before)
      → length (c ∷ before) ≤ most

module _ {S P : Type 0} (w : Watched S P) (law : IsWatchable w) (StandsAt : S → P → Type 0) (goes : P → P → Type 0)
    (Leaves Enters : P → Type 0) (kept : P → Bool) (most : ℕ)
    (through : GoesThrough w StandsAt goes Leaves Enters kept most) where
  -- the run is seen again within so many steps
  abbrev SeenWithin : ℕ → S → Type 0
  SeenWithin n s = (j : ℕ) × (0 < j) × (j ≤ n) × IsSeen (only kept w) (state w j s)

  short : (c : P) (before : List P) → IsWay kept goes c before → length (c ∷ before) ≤ most
  short c before way = through.few c before way (way-differs kept goes through.closed c before way)

  at_once : (n : ℕ) (s : S) → IsSeen (only kept w) (w.system.step s) → 0 < n → SeenWithin n s
  at_once n s seen some = (1, omega arith, omega (arith, some), seen)

  later : (n m : ℕ) (s : S) → SeenWithin n (w.system.step s) → suc n ≤ m → SeenWithin m s
  later n m s x le = (suc x.0, omega arith, omega (arith, x.2, le), x.3)

  kept_seen : (s : S) (b : P) → StandsAt s b → kept b ≡ true → IsSeen (only kept w) s
  kept_seen s b stands is = is_marked (record {
    place = b;
    mark = ap (kept_mark kept) (through.mark s b stands) ∙ ap (λ k. if k then Some b else None) is;
    running = through.running s b stands;
  })

  -- a step leads to where the run is seen, on along a way, or by a leap
  stepped : (n : ℕ) (s : S) (c : P) (before : List P) → 0 < n → IsWay kept goes c before
      → Comes w StandsAt goes Leaves Enters c (w.system.step s)
      → ((b : P) → StandsAt (w.system.step s) b → IsWay kept goes b (c ∷ before) → SeenWithin n s)
      → ((b : P) → StandsAt (w.system.step s) b → kept b ≡ false → Leaves c → Enters b → SeenWithin n s)
      → SeenWithin n s
  stepped n s c before some way (ends over) on leap = at_once n s (has_ended over) some
  stepped n s c before some way (fouls foul) on leap = at_once n s (is_foul foul) some
  stepped n s c before some way (walks b there edge) on leap = elim (which (kept b)) [
    | inl is ↦ at_once n s (kept_seen (w.system.step s) b there is) some
    | inr other ↦ on b there (other, edge, way)
  ]
  stepped n s c before some way (leaps b there leaves enters) on leap = elim (which (kept b)) [
    | inl is ↦ at_once n s (kept_seen (w.system.step s) b there is) some
    | inr other ↦ leap b there other leaves enters
  ]

  -- after a leap there is no further one before a kept place
  after-leap : (fuel : ℕ) (s : S) (c : P) (before : List P) → StandsAt s c → IsWay kept goes c before
      → Enters (origin c before) → kept (origin c before) ≡ false
      → most ≤ length before + fuel → SeenWithin fuel s
  after-leap zero s c before stands way entered none room =
      absurd (let few = short c before way in omega (arith, few, room))
  after-leap (suc fuel) s c before stands way entered none room =
      stepped (suc fuel) s c before (omega arith) way (through.steps s c stands)
      (λ b there on.
      later fuel (suc fuel) s
      (after-leap fuel (w.system.step s) b (c ∷ before) there on entered none (omega (arith, room))) (omega arith))
      (λ b there other leaves enters. absurd (through.crossed c before way entered none leaves))

  -- from any place on the run is seen again before a leap or after one
  before-leap : (fuel : ℕ) (s : S) (c : P) (before : List P) → StandsAt s c → IsWay kept goes c before
      → most ≤ length before + fuel → SeenWithin (fuel + most) s
  before-leap zero s c before stands way room =
      absurd (let few = short c before way in omega (arith, few, room))
  before-leap (suc fuel) s c before stands way room =
      stepped (suc fuel + most) s c before (omega arith) way (through.steps s c stands)
      (λ b there on.
      later (fuel + most) (suc fuel + most) s
      (before-leap fuel (w.system.step s) b (c ∷ before) there on (omega (arith, room))) (omega arith))
      (λ b there other leaves enters.
      later most (suc fuel + most) s
      (after-leap most (w.system.step s) b [] there tt enters other (omega arith)) (omega arith))

  -- a run that stands at a place stands at one wherever it is marked
  still-stands : (i : ℕ) (s : S) (c : P) → StandsAt s c → IsMarked (only kept w) (state w i s)
      → (b : P) × StandsAt (state w i s) b
  still-stands zero s c stands m = (c, stands)
  still-stands (suc i) s c stands m =
      by (through.steps s c stands) m (λ b there. still-stands i (w.system.step s) b there m)
    where
      by : Comes w StandsAt goes Leaves Enters c (w.system.step s) → IsMarked (only kept w) (state w i (w.system.step s))
          → ((b : P) → StandsAt (w.system.step s) b → (d : P) × StandsAt (state w i (w.system.step s)) d)
          → (d : P) × StandsAt (state w i (w.system.step s)) d
      by (ends over) m on =
          let same = after-over w.system law.lawful i (w.system.step s) over in
          absurd (true≢false (sym over ∙ sym (ap (λ z. is_over (w.system.end z)) same) ∙ m.running))
      by (fouls foul) m on =
          let none = ap (kept_mark kept)
          (ap w.mark (foul_stays w law i (w.system.step s) foul) ∙ law.unmarked (w.system.step s) foul) in
          absurd (let e = sym none ∙ m.mark in cc)
      by (walks b there edge) m on = on b there
      by (leaps b there leaves enters) m on = on b there

  -- From where the run first enters it keeps pace, where no state before is marked but its start.
  pub kept_places_pace : (s : S) (far : ℕ) (c : P) → 0 < far
      → ((k : ℕ) → 0 < k → k < far → w.mark (state w k s) ≡ None) → StandsAt (state w far s) c → Enters c
      → (begin : ℕ) → far + most ≤ begin → KeepsPace (only kept w) s begin (2 * most)
  kept_places_pace s far c some unmarked stands enters begin le = record {
    first = (soon.0, soon.2, soon.3);
    next = next;
  }
    where
      from-there : (n : ℕ) → SeenWithin n (state w far s) → far + n ≤ begin
          → (j : ℕ) × (0 < j) × (j ≤ begin) × IsSeen (only kept w) (state w j s)
      from-there n x up = (
        far + x.0,
        omega (arith, some),
        omega (arith, x.2, up),
        subst (IsSeen (only kept w)) (sym (state-add w far x.0 (far + x.0) s refl)) x.3,
      )

      soon : (j : ℕ) × (0 < j) × (j ≤ begin) × IsSeen (only kept w) (state w j s)
      soon = elim (which (kept c)) [
        | inl is ↦ (far, some, omega (arith, le), kept_seen (state w far s) c stands is)
        | inr other ↦
            from-there most (after-leap most (state w far s) c [] stands tt enters other (omega arith)) le
      ]

      next : (i : ℕ) → IsMarked (only kept w) (state w i s)
          → (j : ℕ) × (i < j) × ((j ≤ begin) ⊎ (j ≤ i + 2 * most)) × IsSeen (only kept w) (state w j s)
      next zero m = (soon.0, soon.1, inl soon.2, soon.3)
      next (suc i) m = elim (cases_lt (suc i) far) [
        | inl less ↦ absurd (let e = sym (ap (kept_mark kept) (unmarked (suc i) (omega arith) less)) ∙ m.mark in cc)
        | inr past ↦
            let there = state-add w far (suc i - far) (suc i) s (omega (arith, past)) in
            let here = still-stands (suc i - far) (state w far s) c stands
            (subst (IsMarked (only kept w)) there m) in
            let x = before-leap most (state w (suc i - far) (state w far s)) here.0 [] here.1 tt (omega arith) in (
              suc i + x.0,
              omega (arith, x.1),
              inr (omega (arith, x.2)),
              subst (IsSeen (only kept w))
                  (sym (state-add w (suc i) x.0 (suc i + x.0) s refl ∙ ap (state w x.0) there)) x.3,
            )
      ]
