-- The steps of a watch, from its fields: before the first frame, and in procedures after the machine has looked at the
-- next instruction.
use Rattle.std.proofs.Common.{◌≡◌, ℕ, ◌+◌, ◌-◌, ◌/◌, ◌<◌, length, Bool, true, false, List, ◌∷◌, map, Option, Some, None, refl, sym, ap, ◌∙◌, subst}
use Rattle.std.specs.Prelude.{◌==◌, if◌then◌else◌}
use Rattle.dcc_run.specs.End.{Running as running}
use Rattle.dcc_machine.specs.declared.instr.Instr.{Instr}
use Rattle.dcc_machine.specs.Table.{instruction_at}
use Rattle.dcc_machine.specs.Step.{code_bytes, step as machine_step}
use Rattle.dcc_prog.specs.Clean as told
use Rattle.dcc_prog.specs.Watch as stage
use Rattle.dcc_console.specs.WithConsole.{beside_console}
use Rattle.dcc_console.specs.Steps.{Steps}
use Rattle.dcc_step.specs.declared.ending.Stepped.{Stepped}
use Rattle.dcc_step.specs.Core.{Core, state_of}
use Rattle.dcc_step.specs.Stepped as step_told
use Rattle.dcc_step.specs.Stepped.{LeadsOnBytes}
use Rattle.dcc_watch.specs.declared.shape.Shape.{Shape}
use Rattle.dcc_watch.specs.declared.judge.Foul.{Foul}
use Rattle.dcc_watch.specs.declared.progress.Progress.{Progress}
use Rattle.dcc_watch.specs.declared.progress.Progress.TheVariants.{InProcedures, Stopped}
use Rattle.dcc_watch.specs.declared.watched.Watched.{Watched}
use Rattle.dcc_watch.specs.declared.watched.Watched.TheVariants.{Clean}
use Rattle.dcc_watch.specs.declared.watch.Watch.TheInside.{Inside}
use Rattle.dcc_watch.specs.Foul.{foul_in, told_foul}
use Rattle.dcc_watch.specs.Following.{first_live, is_call}
use Rattle.dcc_watch.specs.Kept.{Kept}
use Rattle.dcc_watch.specs.Shapes.{live_frame}
use Rattle.dcc_watch.specs.Watching.{Watching, AllHaveShapes, stage_of}
use Rattle.dcc_watch.specs.Reached.{IsReached, IsKept, is_before}
use Rattle.dcc_watch.specs.Executor.{watched, outcome_of, foul_answer, is_refused, is_at_first, is_in_procedures}
use Rattle.dcc_watch.proofs.KeptLaws.{viewed, IsFoundBy, IsInside, step_foul, step_refused, step_made, foul_reached, made_reached, call_has_room, IsFirst, first_refused, first_made, first_reached, first_stage, is_there}
use Rattle.dcc_watch.proofs.RunProofs.{first_before}

-- what contracts see of the fields with this machine; and with these frames and marks besides
abbrev pub view_with : Inside → Core → Watching
view_with i m = viewed i.layout i.shapes.items i.stack.frames.room m i.progress i.stack.frames.live i.stack.written

abbrev pub view_after : Inside → Core → Progress → Kept → List Bool → Watching
view_after i m progress frames written = viewed i.layout i.shapes.items frames.room m progress frames.live written

-- a step between values is one between equal values
steps_between :
    (answer : Watched) (left taken left_now taken_now : Option (List ℕ)) {a b c d : Watching} → a ≡ b → c ≡ d
    → Steps watched (outcome_of answer) (beside_console a left taken) (beside_console c left_now taken_now)
    → Steps watched (outcome_of answer) (beside_console b left taken) (beside_console d left_now taken_now)
steps_between answer left taken left_now taken_now {a} {b} {c} {d} first second step =
    subst (λ (k : Watching). Steps watched (outcome_of answer) (beside_console b left taken) (beside_console k left_now
    taken_now)) second
    (subst (λ (k : Watching). Steps watched (outcome_of answer) (beside_console k left taken) (beside_console c left_now
    taken_now)) first
    step)

-- the frames have room for as many as before
same_room :
    (i : Inside) (m : Core) (progress : Progress) (frames : Kept) (written : List Bool)
    → frames.room ≡ i.stack.frames.room
    → viewed i.layout i.shapes.items i.stack.frames.room m progress frames.live written
    ≡ view_after i m progress frames written
same_room i m progress frames written room =
    ap (λ r. viewed i.layout i.shapes.items r m progress frames.live written) (sym room)

-- In procedures.

-- the watch stands in procedures, and its machine, which runs, has found the next instruction
pub record StandsInside (i : Inside) (m : Core) (found : Option Instr) (self : Watching) : Type 0 where
  pub view : view_with i m ≡ self
  pub same : m ≡ i.machine
  pub here : IsInside i.layout i.shapes.items i.stack.frames.room m i.progress i.stack.frames.live i.stack.written found

pub inside_of :
    (i : Inside) (m : Core) (found : Option Instr) (self : Watching) → m ≡ i.machine → view_with i i.machine ≡ self
    → self.machine.end ≡ running → is_in_procedures self.stage ≡ true → IsFoundBy i.machine found
    → AllHaveShapes i.shapes.items i.stack.frames.live → StandsInside i m found self
inside_of i m found self same view_is runs inside is_found known =
    let view : view_with i m ≡ self = ap (view_with i) same ∙ view_is in
    record {
      view = view;
      same = same;
      here = record {
        runs = ap (λ (k : Watching). k.machine.end) view ∙ runs;
        is_found =
            is_found ∙ ap (λ (k : Core). instruction_at k.cpu k.ip (code_bytes (state_of k))) (sym same);
        inside = ap (λ (k : Watching). is_in_procedures k.stage) view ∙ inside;
        known = known;
      };
    }

module _ (i : Inside) (m : Core) (found : Option Instr) (self : Watching) (h : StandsInside i m found self) where
  -- what is foul of the next step
  abbrev pub foul_next : Option told.Foul
  foul_next = foul_in i.layout i.stack.frames.live i.stack.written (state_of m) found

  -- frames and marks have followed the step to this machine
  abbrev pub HaveFollowed : Core → Kept → List Bool → Type 0
  HaveFollowed now frames written =
      stage.InProcedures (record { frames = map live_frame frames.live; written = written })
      ≡ stage.stage_after i.layout found (state_of m) (state_of now)
      (stage.InProcedures (record { frames = map live_frame i.stack.frames.live; written = i.stack.written }))

  reached_there : IsReached (view_with i i.machine) → IsReached (view_with i m)
  reached_there reached = subst (λ (k : Core). IsReached (view_with i k)) (sym h.same) reached

  -- a foul step
  pub foul_step :
      (left taken : Option (List ℕ)) (foul : Foul) (answer : Watched) → Some (told_foul foul) ≡ foul_next
      → answer ≡ foul_answer foul
      → Steps watched (outcome_of answer) (beside_console self left taken)
      (beside_console (view_after i m (Stopped foul) i.stack.frames i.stack.written) left taken)
  foul_step left taken foul answer is answered =
      steps_between answer left taken left taken h.view refl
      (step_foul i.layout i.shapes.items i.stack.frames.room m i.progress i.stack.frames.live i.stack.written found
      left taken h.here foul answer is answered)

  pub foul_comes :
      (foul : Foul) → Some (told_foul foul) ≡ foul_next → IsReached (view_with i i.machine)
      → IsReached (view_after i m (Stopped foul) i.stack.frames i.stack.written)
  foul_comes foul is reached =
      foul_reached i.layout i.shapes.items i.stack.frames.room m i.progress i.stack.frames.live i.stack.written found
      h.here foul is (reached_there reached)

  -- a step that the machine refused
  pub refused_step :
      (left taken left_now taken_now : Option (List ℕ)) (stepped : Stepped) (now : Core) → None ≡ foul_next
      → is_refused stepped ≡ true
      → Steps step_told.machine (step_told.outcome_of stepped) (beside_console m left taken) (beside_console now
      left_now taken_now)
      → Steps watched (outcome_of (Clean stepped)) (beside_console self left taken)
      (beside_console (view_with i now) left_now taken_now)
  refused_step left taken left_now taken_now stepped now clean is step =
      steps_between (Clean stepped) left taken left_now taken_now h.view refl
      (step_refused i.layout i.shapes.items i.stack.frames.room m i.progress i.stack.frames.live i.stack.written found
      left taken h.here stepped now left_now taken_now clean is step)

  -- where a CALL is clean there is room for its frame
  pub room_for_call :
      None ≡ foul_next → i.stack.frames.room ≡ (i.layout.hi - i.layout.lo) / 2 + 1
      → IsReached (view_with i i.machine) → is_call found ≡ true
      → length i.stack.frames.live < i.stack.frames.room
  room_for_call clean is reached =
      call_has_room i.layout i.shapes.items i.stack.frames.room m i.progress i.stack.frames.live i.stack.written found
      h.here clean is (reached_there reached)

  -- a step that it made
  pub made_step :
      (left taken left_now taken_now : Option (List ℕ)) (stepped : Stepped) (now : Core) (frames : Kept)
      (written : List Bool) → frames.room ≡ i.stack.frames.room → None ≡ foul_next → is_refused stepped ≡ false
      → HaveFollowed now frames written
      → Steps step_told.machine (step_told.outcome_of stepped) (beside_console m left taken) (beside_console now
      left_now taken_now)
      → Steps watched (outcome_of (Clean stepped)) (beside_console self left taken)
      (beside_console (view_after i now i.progress frames written) left_now taken_now)
  made_step left taken left_now taken_now stepped now frames written room clean is after step =
      steps_between (Clean stepped) left taken left_now taken_now h.view
      (same_room i now i.progress frames written room)
      (step_made i.layout i.shapes.items i.stack.frames.room m i.progress i.stack.frames.live i.stack.written found
      left taken h.here stepped now frames.live written left_now taken_now clean is after step)

  pub made_comes :
      (now : Core) (frames : Kept) (written : List Bool) → frames.room ≡ i.stack.frames.room → None ≡ foul_next
      → HaveFollowed now frames written → LeadsOnBytes machine_step m now → IsReached (view_with i i.machine)
      → IsReached (view_after i now i.progress frames written)
  made_comes now frames written room clean after led reached =
      subst IsReached (same_room i now i.progress frames written room)
      (made_reached i.layout i.shapes.items i.stack.frames.room m i.progress i.stack.frames.live i.stack.written found
      h.here now frames.live written clean after led (reached_there reached))

-- Before the first frame.

-- the watch stands before the first frame, and its machine runs
pub record StandsFirst (i : Inside) (self : Watching) : Type 0 where
  pub view : view_with i i.machine ≡ self
  pub here :
      IsFirst i.layout i.shapes.items i.stack.frames.room i.machine i.progress i.stack.frames.live i.stack.written

pub first_of :
    (i : Inside) (self : Watching) → view_with i i.machine ≡ self → self.machine.end ≡ running
    → is_at_first self.stage ≡ true → StandsFirst i self
first_of i self view runs first = record {
  view = view;
  here = record {
    runs = ap (λ (k : Watching). k.machine.end) view ∙ runs;
    first = ap (λ (k : Watching). is_at_first k.stage) view ∙ first;
  };
}

module _ (i : Inside) (self : Watching) (h : StandsFirst i self) where
  -- where a step from there leads
  abbrev pub stage_then : Core → stage.Stage
  stage_then now =
      if now.ip == i.layout.start_ip then stage.InProcedures (told.first_stack i.layout (state_of now))
      else stage.InPrelude

  pub before_first : is_before i.progress ≡ true
  before_first = first_before i.progress i.stack.frames.live i.stack.written h.here.first

  -- the frame of the entry procedure has begun
  pub frame_begun :
      (now : Core) (shapes : List Shape) (frames : Kept) (written : List Bool)
      → IsKept i.layout i.shapes.items i.stack.frames.room i.machine i.stack.frames.live i.stack.written i.progress
      → now.ip ≡ i.layout.start_ip → frames.live ≡ first_live shapes i.layout (state_of now) ∷ i.stack.frames.live
      → written ≡ i.stack.written → stage_of InProcedures frames.live written ≡ stage_then now
  frame_begun now shapes frames written kept there lives marks =
      let live = first_live shapes i.layout (state_of now) in
      ap (λ (x : List _). stage_of InProcedures x written) lives
      ∙ first_stage i.layout (state_of now) live i.stack.frames.live written (kept.no_frame before_first)
      (marks ∙ kept.no_mark before_first) refl refl
      ∙ is_there now.ip i.layout.start_ip (stage.InProcedures (told.first_stack i.layout (state_of now)))
      stage.InPrelude there

  pub refused_first :
      (left taken left_now taken_now : Option (List ℕ)) (stepped : Stepped) (now : Core) → is_refused stepped ≡ true
      → Steps step_told.machine (step_told.outcome_of stepped) (beside_console i.machine left taken)
      (beside_console now left_now taken_now)
      → Steps watched (outcome_of (Clean stepped)) (beside_console self left taken)
      (beside_console (view_with i now) left_now taken_now)
  refused_first left taken left_now taken_now stepped now is step =
      steps_between (Clean stepped) left taken left_now taken_now h.view refl
      (first_refused i.layout i.shapes.items i.stack.frames.room i.machine i.progress i.stack.frames.live
      i.stack.written left taken h.here stepped now left_now taken_now is step)

  pub made_first :
      (left taken left_now taken_now : Option (List ℕ)) (stepped : Stepped) (now : Core) (progress : Progress)
      (frames : Kept) (written : List Bool) → frames.room ≡ i.stack.frames.room → is_refused stepped ≡ false
      → stage_of progress frames.live written ≡ stage_then now
      → Steps step_told.machine (step_told.outcome_of stepped) (beside_console i.machine left taken)
      (beside_console now left_now taken_now)
      → Steps watched (outcome_of (Clean stepped)) (beside_console self left taken)
      (beside_console (view_after i now progress frames written) left_now taken_now)
  made_first left taken left_now taken_now stepped now progress frames written room is after step =
      steps_between (Clean stepped) left taken left_now taken_now h.view
      (same_room i now progress frames written room)
      (first_made i.layout i.shapes.items i.stack.frames.room i.machine i.progress i.stack.frames.live i.stack.written
      left taken h.here stepped now progress frames.live written left_now taken_now is after step)

  pub first_comes :
      (now : Core) (progress : Progress) (frames : Kept) (written : List Bool) → frames.room ≡ i.stack.frames.room
      → stage_of progress frames.live written ≡ stage_then now → LeadsOnBytes machine_step i.machine now
      → IsReached (view_with i i.machine) → IsReached (view_after i now progress frames written)
  first_comes now progress frames written room after led reached =
      subst IsReached (same_room i now progress frames written room)
      (first_reached i.layout i.shapes.items i.stack.frames.room i.machine i.progress i.stack.frames.live
      i.stack.written h.here now progress frames.live written after led reached)
