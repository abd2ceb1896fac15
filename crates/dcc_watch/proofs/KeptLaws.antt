-- From what the code keeps to the steps of the watched machine.
use Rattle.std.proofs.Common.{◌≡◌, ◌≢◌, ◌⊎◌, inl, inr, ℕ, ◌+◌, ◌-◌, ◌/◌, ◌<◌, length, Bool, true, false, List, [], ◌∷◌, map, replicate, Option, Some, None, refl, sym, ap, ◌∙◌, subst, arith}
use Rattle.std.specs.Prelude.{◌==◌, if◌then◌else◌}
use Rattle.std.proofs.lemmas.Bool.Decides.{nat_tests}
use Rattle.dcc_run.specs.End.{Running as running}
use Rattle.dcc_prog.specs.declared.procedure.Layout.{Layout}
use Rattle.dcc_machine.specs.declared.instr.Instr.{Instr}
use Rattle.dcc_machine.specs.Table.{instruction_at}
use Rattle.dcc_machine.specs.Step.{code_bytes, step as machine_step}
use Rattle.dcc_machine.specs.Machine.{State}
use Rattle.dcc_machine.specs.Access.{Access, found_accesses}
use Rattle.dcc_prog.specs.Clean.{top_in}
use Rattle.dcc_prog.specs.Clean as told
use Rattle.dcc_prog.specs.Watch as stage
use Rattle.dcc_console.specs.WithConsole.{beside_console}
use Rattle.dcc_console.specs.Steps.{HasEnded, Makes, Steps}
use Rattle.dcc_step.specs.declared.ending.Stepped.{Stepped}
use Rattle.dcc_step.specs.Core.{Core, state_of}
use Rattle.dcc_step.specs.Stepped as step_told
use Rattle.dcc_step.specs.Stepped.{LeadsOnBytes}
use Rattle.dcc_watch.specs.declared.frames.Live.{Live}
use Rattle.dcc_watch.specs.declared.shape.Shape.{Shape}
use Rattle.dcc_watch.specs.declared.judge.Foul.{Foul}
use Rattle.dcc_watch.specs.declared.progress.Progress.{Progress}
use Rattle.dcc_watch.specs.declared.progress.Progress.TheVariants.{AtStart, InPrelude, InProcedures, Stopped}
use Rattle.dcc_watch.specs.declared.watched.Watched.{Watched}
use Rattle.dcc_watch.specs.declared.watched.Watched.TheVariants.{Clean}
use Rattle.dcc_watch.specs.Foul.{foul_in, told_foul}
use Rattle.dcc_watch.specs.Accesses.{near}
use Rattle.dcc_watch.specs.Following.{is_call, live_after, written_following}
use Rattle.dcc_watch.specs.Marks.{no_marks}
use Rattle.dcc_watch.specs.Shapes.{live_frame}
use Rattle.dcc_watch.specs.Watching.{Watching, AllHaveShapes, stage_of}
use Rattle.dcc_watch.specs.Reached.{IsReached}
use Rattle.dcc_watch.specs.Executor.{watched, outcome_of, foul_answer, is_stopped, is_refused, is_at_first, is_in_procedures, Tells}
use Rattle.dcc_watch.proofs.StepLaws.{IsGoing, NextIs, next_is, none_before, made_so, Follows, refused_so, made_unless, fouled, stage-follows}
use Rattle.dcc_watch.proofs.Beside.{near-following}
use Rattle.dcc_watch.proofs.ReachedLaws.{reached-foul, reached-made, reached-room}

-- what the code keeps, as contracts see it
abbrev pub viewed : Layout → List Shape → ℕ → Core → Progress → List Live → List Bool → Watching
viewed layout shapes room m progress live written =
    record { layout = layout; shapes = shapes; room = room; machine = m; stage = stage_of progress live written }

abbrev pub IsFoundBy : Core → Option Instr → Type 0
IsFoundBy m found = found ≡ instruction_at m.cpu m.ip (code_bytes (state_of m))

-- frames that are kept have their shapes, where they have those of an equal table
pub shapes_kept : (table shapes : List Shape) (before now : List Live) → table ≡ shapes
    → (AllHaveShapes table before → AllHaveShapes table now) → AllHaveShapes shapes before → AllHaveShapes shapes now
shapes_kept table shapes before now is kept known =
    subst (λ s. AllHaveShapes s now) is (kept (subst (λ s. AllHaveShapes s before) (sym is) known))

pub in_procedures : (progress : Progress) (live : List Live) (written : List Bool) → is_in_procedures (stage_of progress live written) ≡ true → progress ≡ InProcedures
in_procedures AtStart live written is = cc
in_procedures InPrelude live written is = cc
in_procedures InProcedures live written is = refl
in_procedures (Stopped foul) live written is = cc

pub inside_unstopped : (s : stage.Stage) → is_in_procedures s ≡ true → is_stopped s ≡ false
inside_unstopped stage.AtStart is = cc
inside_unstopped stage.InPrelude is = cc
inside_unstopped (stage.InProcedures stack) is = refl
inside_unstopped (stage.Stopped foul) is = cc

pub first_unstopped : (s : stage.Stage) → is_at_first s ≡ true → is_stopped s ≡ false
first_unstopped stage.AtStart is = refl
first_unstopped stage.InPrelude is = refl
first_unstopped (stage.InProcedures stack) is = cc
first_unstopped (stage.Stopped foul) is = cc

pub first_cases : (s : stage.Stage) → is_at_first s ≡ true → (s ≡ stage.AtStart) ⊎ (s ≡ stage.InPrelude)
first_cases stage.AtStart is = inl refl
first_cases stage.InPrelude is = inr refl
first_cases (stage.InProcedures stack) is = cc
first_cases (stage.Stopped foul) is = cc

-- a step in procedures
module _ (layout : Layout) (shapes : List Shape) (room : ℕ) (m : Core) (progress : Progress) (live : List Live) (written : List Bool)
    (found : Option Instr) where
  abbrev pub code : Watching
  code = viewed layout shapes room m progress live written

  pub record IsInside : Type 0 where
    pub runs : m.end ≡ running
    pub is_found : IsFoundBy m found
    pub inside : is_in_procedures (stage_of progress live written) ≡ true
    pub known : AllHaveShapes shapes live

  going_in : IsInside → IsGoing code found
  going_in h = record { runs = h.runs; is_found = h.is_found; unstopped = inside_unstopped (stage_of progress live written) h.inside }

  next_in : IsInside → (foul : Option told.Foul) → foul ≡ foul_in layout live written (state_of m) found → NextIs code foul
  next_in h foul is program w stands =
      next_is code found live written (going_in h)
      (ap (λ p. stage_of p live written) (in_procedures progress live written h.inside)) h.known program w stands
      ∙ sym is

  pub step_foul : (left taken : Option (List ℕ)) → IsInside → (foul : Foul) (answer : Watched) → Some (told_foul foul) ≡ foul_in layout live written (state_of m) found
      → answer ≡ foul_answer foul
      → Steps watched (outcome_of answer) (beside_console code left taken) (beside_console (viewed layout shapes room m (Stopped foul) live written) left taken)
  step_foul left taken h foul answer is answered =
      subst (λ a. Steps watched (outcome_of a) (beside_console code left taken) (beside_console (viewed layout shapes room m (Stopped foul) live written) left taken)) (sym answered)
      (fouled code found (told_foul foul) left taken (going_in h) (next_in h (Some (told_foul foul)) is))

  pub step_refused : (left taken : Option (List ℕ)) → IsInside → (stepped : Stepped) (now : Core) (left_now taken_now : Option (List ℕ))
      → None ≡ foul_in layout live written (state_of m) found → is_refused stepped ≡ true
      → Steps step_told.machine (step_told.outcome_of stepped) (beside_console m left taken) (beside_console now
      left_now taken_now)
      → Steps watched (outcome_of (Clean stepped)) (beside_console code left taken) (beside_console (viewed layout shapes room now progress live written) left_now taken_now)
  step_refused left taken h stepped now left_now taken_now clean is step =
      refused_so code found left taken left_now taken_now now stepped is (going_in h) (next_in h None clean) step

  follows_in : IsInside → (now : Core) (live_now : List Live) (written_now : List Bool)
      → stage.InProcedures (record { frames = map live_frame live_now; written = written_now })
      ≡ stage.stage_after layout found (state_of m) (state_of now) (stage.InProcedures (record { frames = map live_frame live; written = written }))
      → Follows code (viewed layout shapes room now progress live_now written_now) found
  follows_in h now live_now written_now after =
      let here = in_procedures progress live written h.inside in
      record {
        layout = refl;
        shapes = refl;
        stage =
            ap (λ p. stage_of p live_now written_now) here ∙ after
            ∙ ap (λ p. stage.stage_after layout found (state_of m) (state_of now) (stage_of p live written)) (sym here);
      }

  pub step_made : (left taken : Option (List ℕ)) → IsInside → (stepped : Stepped) (now : Core) (live_now : List Live) (written_now : List Bool) (left_now taken_now : Option (List ℕ))
      → None ≡ foul_in layout live written (state_of m) found → is_refused stepped ≡ false
      → stage.InProcedures (record { frames = map live_frame live_now; written = written_now })
      ≡ stage.stage_after layout found (state_of m) (state_of now) (stage.InProcedures (record { frames = map live_frame live; written = written }))
      → Steps step_told.machine (step_told.outcome_of stepped) (beside_console m left taken) (beside_console now
      left_now taken_now)
      → Steps watched (outcome_of (Clean stepped)) (beside_console code left taken) (beside_console (viewed layout shapes room now progress live_now written_now) left_now taken_now)
  step_made left taken h stepped now live_now written_now left_now taken_now clean is after step =
      let new : Watching = viewed layout shapes room now progress live_now written_now in
      let makes : Makes step_told.machine (beside_console m left taken) (beside_console now left_now taken_now) =
      subst (λ o. Steps step_told.machine o (beside_console m left taken) (beside_console now left_now taken_now)) (made_unless stepped is) step in
      subst (λ o. Steps watched o (beside_console code left taken) (beside_console new left_now taken_now)) (sym
      (made_unless stepped is))
      (made_so code new found left taken left_now taken_now (going_in h) (next_in h None clean) (follows_in h now live_now written_now after) makes)

  -- a run comes to a foul step
  pub foul_reached : IsInside → (foul : Foul) → Some (told_foul foul) ≡ foul_in layout live written (state_of m) found → IsReached code
      → IsReached (viewed layout shapes room m (Stopped foul) live written)
  foul_reached h foul is reached = reached-foul code found (told_foul foul) (going_in h) (next_in h (Some (told_foul foul)) is) reached

  pub made_reached : IsInside → (now : Core) (live_now : List Live) (written_now : List Bool)
      → None ≡ foul_in layout live written (state_of m) found
      → stage.InProcedures (record { frames = map live_frame live_now; written = written_now })
      ≡ stage.stage_after layout found (state_of m) (state_of now) (stage.InProcedures (record { frames = map live_frame live; written = written }))
      → LeadsOnBytes machine_step m now → IsReached code → IsReached (viewed layout shapes room now progress live_now written_now)
  made_reached h now live_now written_now clean after led reached =
      reached-made code (viewed layout shapes room now progress live_now written_now) found (going_in h) (next_in h None clean)
      (follows_in h now live_now written_now after) led reached

  -- where a CALL is clean there is room for its frame
  pub call_has_room : IsInside → None ≡ foul_in layout live written (state_of m) found → room ≡ (layout.hi - layout.lo) / 2 + 1 → IsReached code
      → is_call found ≡ true → length live < room
  call_has_room h clean is reached call =
      reached-room code found live written (going_in h)
      (ap (λ p. stage_of p live written) (in_procedures progress live written h.inside)) (next_in h None clean) is reached call

-- how the run of a machine has ended
pub machine_end : (m : Core) (stepped : Stepped) → HasEnded step_told.machine m (step_told.end_told stepped)
    → m.end ≡ step_told.end_told stepped
machine_end m stepped ended = ended m.cpu (state_of m) refl

pub foul_tells : (foul : Foul) (answer : Watched) (now : Watching) → answer ≡ foul_answer foul → now.stage ≡ stage.Stopped (told_foul foul) → Tells answer now
foul_tells foul answer now is stopped = subst (λ a. Tells a now) (sym is) stopped

-- where the run stands after a step in procedures that the code follows
pub follow_after : (layout : Layout) (shapes : List Shape) (found : Option Instr) (live : List Live) (written : List Bool) (s t : State) (list : List Access) (top : ℕ)
    (live_now : List Live) (written_now : List Bool) → list ≡ near layout (found_accesses found s) → top ≡ top_in layout s
    → live_now ≡ live_after shapes found top live
    → written_now ≡ written_following layout found list top (top_in layout t) written
    → stage.InProcedures (record { frames = map live_frame live_now; written = written_now })
    ≡ stage.stage_after layout found s t (stage.InProcedures (record { frames = map live_frame live; written = written }))
follow_after layout shapes found live written s t list top live_now written_now list_is top_is lives writes =
    let w : written_now ≡ written_following layout found (found_accesses found s) (top_in layout s) (top_in layout t) written =
    writes ∙ ap (λ l. written_following layout found l top (top_in layout t) written) list_is
    ∙ near-following layout found (found_accesses found s) top (top_in layout t) written
    ∙ ap (λ n. written_following layout found (found_accesses found s) n (top_in layout t) written) top_is in
    let l : live_now ≡ live_after shapes found (top_in layout s) live = lives ∙ ap (λ n. live_after shapes found n live) top_is in
    ap (λ (x : List Bool). stage.InProcedures (record { frames = map live_frame live_now; written = x })) w
    ∙ ap (λ (x : List Live). stage.InProcedures (record {
      frames = map live_frame x;
      written = written_following layout found (found_accesses found s) (top_in layout s) (top_in layout t) written;
    })) l
    ∙ stage-follows layout shapes found live written s t

-- a step before the first frame
first-after : (layout : Layout) (found : Option Instr) (s t : State) (at : stage.Stage) → is_at_first at ≡ true
    → stage.stage_after layout found s t at ≡ (if t.ip == layout.start_ip then stage.InProcedures (told.first_stack layout t) else stage.InPrelude)
first-after layout found s t stage.AtStart is = refl
first-after layout found s t stage.InPrelude is = refl
first-after layout found s t (stage.InProcedures stack) is = cc
first-after layout found s t (stage.Stopped foul) is = cc

module _ (layout : Layout) (shapes : List Shape) (room : ℕ) (m : Core) (progress : Progress) (live : List Live) (written : List Bool) where
  abbrev first_code : Watching
  first_code = viewed layout shapes room m progress live written

  pub record IsFirst : Type 0 where
    pub runs : m.end ≡ running
    pub first : is_at_first (stage_of progress live written) ≡ true

  abbrev there : Option Instr
  there = instruction_at m.cpu m.ip (code_bytes (state_of m))

  going_first : IsFirst → IsGoing first_code there
  going_first h = record { runs = h.runs; is_found = refl; unstopped = first_unstopped (stage_of progress live written) h.first }

  pub first_refused : (left taken : Option (List ℕ)) → IsFirst → (stepped : Stepped) (now : Core) (left_now taken_now : Option (List ℕ)) → is_refused stepped ≡ true
      → Steps step_told.machine (step_told.outcome_of stepped) (beside_console m left taken) (beside_console now
      left_now taken_now)
      → Steps watched (outcome_of (Clean stepped)) (beside_console first_code left taken) (beside_console (viewed layout shapes room now progress live written) left_now taken_now)
  first_refused left taken h stepped now left_now taken_now is step =
      refused_so first_code there left taken left_now taken_now now stepped is (going_first h)
      (none_before first_code (first_cases (stage_of progress live written) h.first)) step

  follows_first : IsFirst → (now : Core) (progress_now : Progress) (live_now : List Live) (written_now : List Bool)
      → stage_of progress_now live_now written_now
      ≡ (if now.ip == layout.start_ip then stage.InProcedures (told.first_stack layout (state_of now)) else stage.InPrelude)
      → Follows first_code (viewed layout shapes room now progress_now live_now written_now) there
  follows_first h now progress_now live_now written_now after = record {
    layout = refl;
    shapes = refl;
    stage = after ∙ sym (first-after layout there (state_of m) (state_of now) (stage_of progress live written) h.first);
  }

  pub first_made : (left taken : Option (List ℕ)) → IsFirst → (stepped : Stepped) (now : Core) (progress_now : Progress) (live_now : List Live) (written_now : List Bool)
      (left_now taken_now : Option (List ℕ)) → is_refused stepped ≡ false
      → stage_of progress_now live_now written_now
      ≡ (if now.ip == layout.start_ip then stage.InProcedures (told.first_stack layout (state_of now)) else stage.InPrelude)
      → Steps step_told.machine (step_told.outcome_of stepped) (beside_console m left taken) (beside_console now
      left_now taken_now)
      → Steps watched (outcome_of (Clean stepped)) (beside_console first_code left taken)
      (beside_console (viewed layout shapes room now progress_now live_now written_now) left_now taken_now)
  first_made left taken h stepped now progress_now live_now written_now left_now taken_now is after step =
      let new : Watching = viewed layout shapes room now progress_now live_now written_now in
      let makes : Makes step_told.machine (beside_console m left taken) (beside_console now left_now taken_now) =
      subst (λ o. Steps step_told.machine o (beside_console m left taken) (beside_console now left_now taken_now)) (made_unless stepped is) step in
      subst (λ o. Steps watched o (beside_console first_code left taken) (beside_console new left_now taken_now)) (sym (made_unless stepped is))
      (made_so first_code new there left taken left_now taken_now (going_first h)
      (none_before first_code (first_cases (stage_of progress live written) h.first))
      (follows_first h now progress_now live_now written_now after) makes)

  pub first_reached : IsFirst → (now : Core) (progress_now : Progress) (live_now : List Live) (written_now : List Bool)
      → stage_of progress_now live_now written_now
      ≡ (if now.ip == layout.start_ip then stage.InProcedures (told.first_stack layout (state_of now)) else stage.InPrelude)
      → LeadsOnBytes machine_step m now → IsReached first_code
      → IsReached (viewed layout shapes room now progress_now live_now written_now)
  first_reached h now progress_now live_now written_now after led reached =
      reached-made first_code (viewed layout shapes room now progress_now live_now written_now) there (going_first h)
      (none_before first_code (first_cases (stage_of progress live written) h.first))
      (follows_first h now progress_now live_now written_now after) led reached

differs : (a b : ℕ) → a ≢ b → (a == b) ≡ false
differs a b other = grind (arith, nat_tests)

equals : (a b : ℕ) → a ≡ b → (a == b) ≡ true
equals a b same = grind (arith, nat_tests)

pub not_there : (ip start : ℕ) (a b : stage.Stage) → ip ≢ start → b ≡ (if ip == start then a else b)
not_there ip start a b other = ap (λ t. if t then a else b) (sym (differs ip start other))

pub is_there : (ip start : ℕ) (a b : stage.Stage) → ip ≡ start → a ≡ (if ip == start then a else b)
is_there ip start a b same = ap (λ t. if t then a else b) (sym (equals ip start same))

pub first_stage : (layout : Layout) (t : State) (live : Live) (old : List Live) (written : List Bool) → old ≡ [] → written ≡ no_marks
    → live.entry ≡ layout.start_ip → live.base ≡ top_in layout t + 2
    → stage.InProcedures (record { frames = map live_frame (live ∷ old); written = written }) ≡ stage.InProcedures (told.first_stack layout t)
unfolding no_marks
first_stage layout t live old written none blank entry base =
    ap (λ (l : List Live). stage.InProcedures (record { frames = map live_frame (live ∷ l); written = written })) none
    ∙ ap (λ (x : List Bool). stage.InProcedures (record { frames = live_frame live ∷ []; written = x })) blank
    ∙ ap (λ (e : ℕ). stage.InProcedures (record { frames = (record { entry = e; base = live.base }) ∷ []; written = replicate 65536 false })) entry
    ∙ ap (λ (b : ℕ). stage.InProcedures (record { frames = (record { entry = layout.start_ip; base = b }) ∷ []; written = replicate 65536 false })) base
