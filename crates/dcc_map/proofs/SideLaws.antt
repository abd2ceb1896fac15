-- What is still to come of a run, before and after its steps.
use Rattle.std.proofs.Common.{◌≡◌, ◌≢◌, ◌⊎◌, inl, inr, ℕ, zero, suc, ◌+◌, ◌-◌, ◌<◌, true, List, [], ◌∷◌, ◌++◌, length, drop, map, Option, Some, None, refl, sym, ap, ◌∙◌, subst, append_assoc, arith}
use Rattle.std.specs.Prelude.{option_to_list}
use Rattle.std.proofs.Math.Seq.{drop-append_seam}
use Rattle.std.proofs.lemmas.List.{append-nil, drop_all}
use Rattle.dcc_run.specs.End.{End as RunEnd, Running as running, Exit as exited, Divide as divided, Outside as outside, Stuck as stuck, is_over}
use Rattle.dcc_run.specs.Event.{Event as RunEvent, Took, MetEnd, writes}
use Rattle.dcc_run.specs.System.{System, after, end_after}
use Rattle.dcc_run.proofs.RunLaws.{after-over}
use Rattle.dcc_console.specs.Console.{Console, Executor, step_in, left_in, events_in, end_in}
use Rattle.dcc_console.specs.Laws.{IsLawfulExecutor}
use Rattle.dcc_console.specs.Steps.{HasEnded, Makes, IsRefusedRead}
use Rattle.dcc_console.specs.WithConsole.{WithConsole, beside_console}
use Rattle.dcc_map.specs.declared.event.Event.{Event}
use Rattle.dcc_map.specs.Placed.{Placed, placed_at, step_events, placed_events}
use Rattle.dcc_map.specs.Side.{Side, event_of, key_event, MaySteps, Coming, Leaves, Refuses}
use Rattle.dcc_map.proofs.StepKinds.{IsApart, TakesKey, StepKind}
use Rattle.dcc_map.proofs.PendingLaws.{nothing_first, no_keys}
use Rattle.dcc_map.proofs.StepLaws.{HasStepped, made_withheld, refused_withheld, made_key, made_at_end}

ended_over : (end : RunEnd) → end ≢ running → is_over end ≡ true
ended_over running other = absurd (other refl)
ended_over (exited code) other = refl
ended_over divided other = refl
ended_over (outside at) other = refl
ended_over (stuck line) other = refl

-- a run that may not go on has no steps left, or has ended
pub may_not : {C : Type 0} (side : Side C) → side.pending ≡ [] → ¬ MaySteps side → (side.steps ≡ 0) ⊎ (side.end ≢ running)
may_not side none not = at side.steps refl
  where
    at : (steps : ℕ) → side.steps ≡ steps → (side.steps ≡ 0) ⊎ (side.end ≢ running)
    at zero is = inl is
    at (suc steps) is = inr (λ end. not (none, omega (arith, is), end))

module _ {W C S : Type 0} (executor : Executor W C S) (laws : IsLawfulExecutor executor) (place : S → ℕ) (w : W) where
  abbrev system : System S
  system = (executor.console w).system

  -- a run that has ended has no further event
  no_events : (n : ℕ) (s : S) → is_over (system.end s) ≡ true → placed_events system place n s ≡ []
  no_events zero s ended = refl
  no_events (suc n) s ended =
      let same : system.step s ≡ s = (laws.lawful w).stays s ended in
      let quiet : step_events system s ≡ [] =
      ap (λ (t : S). drop (length (system.events s)) (system.events t)) same ∙ drop_all (length (system.events s)) (system.events s) (omega arith) in
      ap (λ (l : List RunEvent). placed_at (place s) l ++ placed_events system place n (system.step s)) quiet
      ∙ ap (λ (t : S). placed_events system place n t) same
      ∙ no_events n s ended

  -- where nothing is pending and no step may be made, nothing is to come, and the run has ended as told
  pub coming_none : (side : Side C) (coming : List Placed) (end : RunEnd) → Coming executor place w side coming end
      → side.pending ≡ [] → ¬ MaySteps side → (coming ≡ []) × (side.end ≡ end)
  coming_none side coming end c none not = elim (may_not side none not) [
    | inl no_steps ↦ (
      c.events ∙ ap (λ l. l ++ placed_events system place side.steps c.state) none
          ∙ ap (λ n. placed_events system place n c.state) no_steps,
      sym c.told ∙ sym (c.ends ∙ ap (λ n. end_after system n c.state) no_steps),
    )
    | inr other ↦
        let ended : is_over (system.end c.state) ≡ true = ap is_over c.told ∙ ended_over side.end other in (
          c.events ∙ ap (λ l. l ++ placed_events system place side.steps c.state) none ∙ no_events side.steps c.state ended,
          sym c.told ∙ sym (c.ends ∙ ap system.end (after-over system (laws.lawful w) side.steps c.state ended)),
        )
  ]

  -- without the events that are pending
  pub coming_emptied : (side : Side C) (pending : List Placed) (coming : List Placed) (end : RunEnd) → pending ≡ [] → Coming executor place w side coming end
      → (rest : List Placed) × Coming executor place w (record side { pending = pending }) rest end
  coming_emptied side pending coming end none c = (
    pending ++ placed_events system place side.steps c.state,
    record { state = c.state; stands = c.stands; left = c.left; told = c.told; events = refl; ends = c.ends },
  )

  -- what is left by the answer of the first event that is pending
  pub leaves_first : (side : Side C) (held items : List Event) (at : ℕ) (coming : List Placed) (end : RunEnd) (answer : Option Event)
      → side.pending ≡ placed_at at (map event_of held) → held ≡ option_to_list answer ++ items
      → items ≡ drop 1 held → ¬ MaySteps side
      → Coming executor place w side coming end
      → Leaves executor place w (record side { pending = placed_at at (map event_of items) }) at coming end answer
  leaves_first side held items at coming end (Some event) pending is gone not c = (
    placed_at at (map event_of items) ++ placed_events system place side.steps c.state,
    c.events ∙ ap (λ (l : List Placed). l ++ placed_events system place side.steps c.state) (pending ∙ ap (λ (l : List Event). placed_at at (map event_of l)) is),
    record { state = c.state; stands = c.stands; left = c.left; told = c.told; events = refl; ends = c.ends },
  )
  leaves_first side held items at coming end None pending is gone not c =
      let none = nothing side.pending held items pending is gone in
      let all = coming_none side coming end c none.0 not in (
        all.0,
        record {
          state = c.state;
          stands = c.stands;
          left = c.left;
          told = c.told;
          events =
              sym all.0 ∙ c.events
              ∙ ap (λ (l : List Placed). l ++ placed_events system place side.steps c.state) (none.0 ∙ sym none.1);
          ends = c.ends;
        },
      )
    where
      nothing : (before : List Placed) (held items : List Event) → before ≡ placed_at at (map event_of held) → held ≡ items
          → items ≡ drop 1 held → (before ≡ []) × (placed_at at (map event_of items) ≡ [])
      nothing before held items pending same gone =
          let none : held ≡ [] = nothing_first held (same ∙ gone) in (
            pending ∙ ap (λ (l : List Event). placed_at at (map event_of l)) none,
            ap (λ (l : List Event). placed_at at (map event_of l)) (sym same ∙ none),
          )

  -- a step more
  coming_step : (side now : Side C) (coming : List Placed) (end : RunEnd) (at : ℕ) (happened : List RunEvent)
      → (c : Coming executor place w side coming end) → side.pending ≡ [] → side.steps ≡ suc now.steps
      → HasStepped executor w c.state now.code now.keys happened → placed_at (place c.state) happened ≡ placed_at at happened
      → HasEnded executor now.code now.end → now.pending ≡ placed_at at happened → Coming executor place w now coming end
  coming_step side now coming end at happened c none more stepped places ends pending =
      let t : S = system.step c.state in
      let new : step_events system c.state ≡ happened =
      ap (λ (l : List RunEvent). drop (length (system.events c.state)) l) stepped.events ∙ drop-append_seam (system.events c.state) happened in
      record {
        state = t;
        stands = stepped.stands;
        left = stepped.left;
        told = ends w t stepped.stands;
        events =
            c.events ∙ ap (λ (l : List Placed). l ++ placed_events system place side.steps c.state) none
            ∙ ap (λ n. placed_events system place n c.state) more
            ∙ ap (λ (l : List RunEvent). placed_at (place c.state) l ++ placed_events system place now.steps t) new
            ∙ ap (λ (l : List Placed). l ++ placed_events system place now.steps t) (places ∙ sym pending);
        ends = c.ends ∙ ap (λ n. end_after system n c.state) more;
      }

  module _ (apart : IsApart (executor.console w))
      (kinds : (s : S) → StepKind (executor.console w) (events_in executor w s) (λ input. step_in executor w ((executor.console w).with_left input s))) where
    -- what the code tells of the place of a step
    abbrev pub IsPlace : C → ℕ → Type 0
    IsPlace code at =
        (s : S) (happened : List RunEvent) → executor.stands w code s → end_in executor w s ≡ running
        → events_in executor w (step_in executor w s) ≡ events_in executor w s ++ happened
        → placed_at (place s) happened ≡ placed_at at happened

    module _ (side now : Side C) (coming : List Placed) (end : RunEnd) (at : ℕ) (c : Coming executor place w side coming end)
        (may : MaySteps side) (more : side.steps ≡ suc now.steps) (places : IsPlace side.code at) (ends : HasEnded executor now.code now.end) where
      -- after what the step has come to
      after_step : (happened : List RunEvent) → HasStepped executor w c.state now.code now.keys happened → now.pending ≡ placed_at at happened
          → Coming executor place w now coming end
      after_step happened stepped pending =
          coming_step side now coming end at happened c may.0 more stepped
          (places c.state happened c.stands (c.told ∙ may.2) stepped.events) ends pending

      -- after a step that was made while a key was withheld
      pub coming_withheld : (out : List ℕ) → now.keys ≡ side.keys → now.pending ≡ placed_at at (writes out)
          → Makes executor (beside_console side.code (Some (0 ∷ [])) (Some [])) (beside_console now.code (Some (0 ∷ [])) (Some out))
          → Coming executor place w now coming end
      coming_withheld out keys pending made =
          let stepped = made_withheld executor laws w apart side.code c.state c.stands (kinds c.state) now.code out made in
          after_step (writes out)
          (record { stands = stepped.stands; left = stepped.left ∙ c.left ∙ sym keys; events = stepped.events }) pending

      -- after a step that took the next key, or met the end of the input, and had failed while a key was withheld
      pub coming_key : (key : Option ℕ) (given : List ℕ) (left : Option (List ℕ)) (out : List ℕ) → given ≡ option_to_list key
          → side.keys ≡ option_to_list key ++ now.keys
          → now.keys ≡ drop 1 side.keys
          → now.pending ≡ placed_at at (event_of (key_event key) ∷ writes out) → Refuses executor side.code
          → Makes executor (beside_console side.code (Some given) (Some [])) (beside_console now.code left (Some out))
          → Coming executor place w now coming end
      coming_key key given left out given_is keys gone pending refused made =
          at_key key given_is keys gone pending (subst (λ (l : List ℕ). Makes executor (beside_console side.code (Some l) (Some [])) (beside_console now.code left (Some out))) given_is made)
        where
          takes : TakesKey (executor.console w) (events_in executor w c.state) (λ input. step_in executor w ((executor.console w).with_left input c.state))
          takes =
              refused_withheld executor laws w apart side.code c.state c.stands (kinds c.state) (beside_console side.code (Some (0 ∷ [])) (Some [])) refused

          at_key : (key : Option ℕ) → given ≡ option_to_list key → side.keys ≡ option_to_list key ++ now.keys
              → now.keys ≡ drop 1 side.keys
              → now.pending ≡ placed_at at (event_of (key_event key) ∷ writes out)
              → Makes executor (beside_console side.code (Some (option_to_list key)) (Some [])) (beside_console now.code left (Some out))
              → Coming executor place w now coming end
          at_key (Some byte) given_is keys gone pending made =
              after_step (Took byte ∷ writes out)
              (made_key executor laws w apart side.code c.state c.stands (kinds c.state) takes (beside_console now.code left (Some out)) out byte now.keys (c.left ∙ keys) refl made) pending
          at_key None given_is keys gone pending made =
              let none = no_keys side.keys now.keys keys gone in
              let stepped = made_at_end executor laws w apart side.code c.state c.stands (kinds c.state) takes (beside_console now.code left (Some out)) out (c.left ∙ none.0) refl made in
              after_step (MetEnd ∷ writes out)
              (record { stands = stepped.stands; left = stepped.left ∙ sym none.1; events = stepped.events }) pending

-- what refused a step refuses it still, since nothing has changed
pub refuses_still : {W C S : Type 0} (executor : Executor W C S) (code now : C) (taken taken_now : Option (List ℕ))
    → IsRefusedRead executor (beside_console code (Some (0 ∷ [])) taken) (beside_console now (Some (0 ∷ [])) taken_now)
    → (now ≡ code) × Refuses executor now
refuses_still {W} {C} {S} executor code now taken taken_now refused =
    let same : now ≡ code = ap (λ (s : WithConsole C). s.code) refused.unchanged in (
      same,
      record {
        takes = λ w s byte rest stands has. refused.takes w s byte rest (subst (λ (m : C). executor.stands w m s) same stands) has;
        unchanged = refl;
      },
    )
