-- From what the watch's run says to how the watched run of an executable finished.
use Rattle.std.proofs.Common.{◌≡◌, ℕ, zero, suc, ◌+◌, ◌<◌, Bool, true, false, List, [], ◌∷◌, length, Option, Some, None, refl, sym, ap, ◌∙◌, subst, arith}
use Rattle.std.specs.Prelude.{◌||◌, ◌==◌, if◌then◌else◌, Result, Ok, Err, IfOk, OnErr}
use Rattle.dcc_io.specs.declared.outside.Failed.{Failed}
use Rattle.dcc_io.specs.Told.{WhenTold}
use Rattle.dcc_io.proofs.ToldLemmas.{append_told-nil, TellsRest, tells_rest}
use Rattle.dcc_run.specs.End.{End, is_over}
use Rattle.dcc_run.specs.Event.{written_by, taken_by}
use Rattle.dcc_run.specs.System.{after}
use Rattle.dcc_run.specs.Watched.{state}
use Rattle.dcc_run.proofs.RunLaws.{after-add}
use Rattle.dcc_machine.specs.declared.cpu.Cpu.{Cpu}
use Rattle.dcc_machine.specs.declared.image.Image.{Image}
use Rattle.dcc_prog.specs.declared.frame.Program.{Program}
use Rattle.dcc_machine.specs.declared.instr.Instr.{Instr}
use Rattle.dcc_prog.specs.declared.procedure.Layout.{Layout}
use Rattle.dcc_prog.specs.Analysed.{IsProgramOf}
use Rattle.dcc_prog.specs.Clean.{Foul as FoulStep, first_stack}
use Rattle.dcc_machine.specs.Machine.{State, start_state}
use Rattle.dcc_machine.specs.MzImage.{IsImageOf}
use Rattle.dcc_prog.specs.Refused.{IsSound}
use Rattle.dcc_machine.specs.Step.{step}
use Rattle.dcc_prog.specs.Watch.{Watch, Stage, AtStart, InPrelude, InProcedures, Stopped, stage_after, next_instruction, next_foul, is_foul, moved, made, watch_step, watched_machine, first_watch, IsClean}
use Rattle.dcc_prog.proofs.WatchLaws.{machine_watchable, machine_after, or-true}
use Rattle.dcc_prog.proofs.WatchedAlike.{watch-alike}
use Rattle.dcc_console.specs.Ran.{TakesInput}
use Rattle.dcc_console.specs.WithConsole.{WithConsole, beside_console}
use Rattle.dcc_console.specs.Steps.{HasEnded, MakesSteps, StopsShort, read_failed, write_failed}
use Rattle.dcc_console.proofs.RanLaws.{Begins, has_run_when_told, stops_when_told, stops_at_read_when_told, stops_at_write_when_told, writes_part}
use Rattle.dcc_step.specs.declared.ending.Stepped.{Stepped}
use Rattle.dcc_step.specs.Core.{Core}
use Rattle.dcc_step.specs.Stepped.{console_by, end_told}
use Rattle.dcc_watch.specs.declared.watched.Watched.TheVariants.{Clean}
use Rattle.dcc_watch.specs.Executor.{console_of, watched, is_stopped, Tells, first_watching}
use Rattle.dcc_watch.specs.Watching.{Watching}
use Rattle.dcc_watch.proofs.Laws.{watch_executes}
use Rattle.dcc_watch.proofs.StepLaws.{foul-stopped}
use Rattle.dcc_top.specs.declared.reply.Reply.{Reply}
use Rattle.dcc_top.specs.declared.reply.Reply.TheVariants.{Memory, InputFault}
use Rattle.dcc_top.specs.Delivery.{Answers, CutsShort}
use Rattle.dcc_top.specs.Execution.{machine_of, end_reply, HasRun, StopsAtRead, IsCutRun}
use Rattle.dcc_top.specs.WatchedRun.{watch_of, foul_reply, HasRunClean, StopsAtFoul, StopsCleanAtRead, FinishesWatched, stayed_clean, met_foul, clean_to_read, lacked_memory}

-- Steps of the watched machine.

longer : (byte : ℕ) (rest : List ℕ) → byte ∷ rest ≡ rest → ⊥
longer byte rest same = let lengths : suc (length rest) ≡ length rest = ap length same in omega (arith, lengths)

module _ (program : Program) where
  abbrev state_at : ℕ → Watch → Watch
  state_at = state (watched_machine program)

  -- a step that is made doesn't stop the run
  going-on : (layout : Layout) (found : Option Instr) (s t : State) (stage : Stage) → is_foul (record { machine = s; stage = stage }) ≡ false
      → is_foul (record { machine = t; stage = stage_after layout found s t stage }) ≡ false
  going-on layout found s t AtStart going = begun (t.ip == layout.start_ip)
    where
      begun : (b : Bool) → is_foul (record { machine = t; stage = if b then InProcedures (first_stack layout t) else InPrelude }) ≡ false
      begun true = refl
      begun false = refl
  going-on layout found s t InPrelude going = begun (t.ip == layout.start_ip)
    where
      begun : (b : Bool) → is_foul (record { machine = t; stage = if b then InProcedures (first_stack layout t) else InPrelude }) ≡ false
      begun true = refl
      begun false = refl
  going-on layout found s t (InProcedures stack) going = refl
  going-on layout found s t (Stopped foul) going = cc

  -- where a step stops the run, it changes nothing of the machine
  stop-changes_nothing : (w : Watch) → is_foul w ≡ false → is_foul (watch_step program w) ≡ true → (watch_step program w).machine ≡ w.machine
  stop-changes_nothing w going stops = by (is_over w.machine.end || is_foul w) (next_foul program w) stops
    where
      by : (b : Bool) (foul : Option FoulStep) → is_foul (if b then w else made program.layout foul w) ≡ true
          → (if b then w else made program.layout foul w).machine ≡ w.machine
      by true foul is = refl
      by false (Some foul) is = refl
      by false None is =
          let next = step program.layout.cpu w.machine in
          let goes = going-on program.layout (next_instruction program.layout.cpu w.machine) w.machine next w.stage going in
          absurd (let bad : false ≡ true = sym goes ∙ is in cc)

  -- a run that was stopped stays
  stopped-stays : (n : ℕ) (w : Watch) → is_foul w ≡ true → state_at n w ≡ w
  stopped-stays zero w foul = refl
  stopped-stays (suc n) w foul =
      ap (state_at n) ((machine_watchable program).stays w foul) ∙ stopped-stays n w foul

  -- the first step that is foul, of a run that was stopped
  record IsFirstFoul (w : Watch) (steps : ℕ) (foul : FoulStep) : Type 0 where
    before : ℕ
    short : before < steps
    clean : is_foul (state_at before w) ≡ false
    stopped : (state_at (before + 1) w).stage ≡ Stopped foul
    same : (state_at steps w).machine ≡ (state_at before w).machine

  foul-at : (w : Watch) (foul : FoulStep) → w.stage ≡ Stopped foul → is_foul w ≡ true
  foul-at w foul is = foul-stopped w.machine w.stage ∙ ap is_stopped is

  -- the first foul step of a run that was stopped is the next step, or one of those after it
  next-foul : (n : ℕ) (w : Watch) (foul : FoulStep) → is_foul w ≡ false → (state_at n (watch_step program w)).stage ≡ Stopped foul → (b : Bool) → is_foul (watch_step program w) ≡ b
      → (is_foul (watch_step program w) ≡ false → IsFirstFoul (watch_step program w) n foul) → IsFirstFoul w (suc n) foul
  next-foul n w foul going is true stops later =
      let stays = stopped-stays n (watch_step program w) stops in
      record {
        before = 0;
        short = omega arith;
        clean = going;
        stopped = ap (λ (v : Watch). v.stage) (sym stays) ∙ is;
        same = ap (λ (v : Watch). v.machine) stays ∙ stop-changes_nothing w going stops;
      }
  next-foul n w foul going is false goes later =
      let f = later goes in
      let next : suc f.before + 1 ≡ suc (f.before + 1) = omega arith in
      record {
        before = suc f.before;
        short = omega (arith, f.short);
        clean = f.clean;
        stopped = ap (λ k. (state_at k w).stage) next ∙ f.stopped;
        same = f.same;
      }

  first-foul : (steps : ℕ) (w : Watch) (foul : FoulStep) → is_foul w ≡ false → (state_at steps w).stage ≡ Stopped foul → IsFirstFoul w steps foul
  first-foul zero w foul going is = absurd (let bad : false ≡ true = sym going ∙ foul-at w foul is in cc)
  first-foul (suc n) w foul going is =
      next-foul n w foul going is (is_foul (watch_step program w)) refl (λ goes. first-foul n (watch_step program w) foul goes is)

  -- a state whose next step takes an input byte isn't stopped, and its machine's next step does
  takes-machine : (w : Watch) → TakesInput (console_of program) w → TakesInput (console_by (step program.layout.cpu)) w.machine
  takes-machine w takes byte rest =
      let with_byte : Watch = record { machine = record w.machine { input = byte ∷ rest }; stage = w.stage } in
      by with_byte (is_over w.machine.end || is_foul w) (next_foul program with_byte) refl (takes byte rest)
    where
      by : (v : Watch) (b : Bool) (foul : Option FoulStep) → v.machine.input ≡ byte ∷ rest → (if b then v else made program.layout foul v).machine.input ≡ rest
          → (step program.layout.cpu v.machine).input ≡ rest
      by v true foul has is = absurd (longer byte rest (sym has ∙ is))
      by v false (Some foul) has is = absurd (longer byte rest (sym has ∙ is))
      by v false None has is = is

  takes-going : (w : Watch) → TakesInput (console_of program) w → is_foul w ≡ false
  takes-going w takes = by (is_foul w) refl
    where
      by : (b : Bool) → is_foul w ≡ b → is_foul w ≡ false
      by false going = going
      by true foul =
          let with_byte : Watch = record { machine = record w.machine { input = 0 ∷ [] }; stage = w.stage } in
          let stays = (machine_watchable program).stays with_byte foul in
          absurd (longer 0 [] (ap (λ (v : Watch). v.machine.input) (sym stays) ∙ takes 0 []))

-- Runs from the start.

module _ (image : Image) (program : Program) where
  abbrev cpu : Cpu
  cpu = program.layout.cpu

  abbrev watch_after : ℕ → List ℕ → Watch
  watch_after n input = state (watched_machine program) n (first_watch image input)

  -- the watch at the start of the image
  abbrev pub StandsFirst : Watching → Type 0
  StandsFirst code = code ≡ first_watching image program

  begins : (code : Watching) → StandsFirst code → Begins watched program (first_watch image) code
  begins code at = subst (Begins watched program (first_watch image)) (sym at) (record {
    stands = λ input. record { layout = refl; shapes = refl; machine = refl; stage = refl };
    left = λ input. refl;
    events = λ input. refl;
  })

  -- the code stands for the state after the steps that were made
  stands-after : (code : Watching) (steps : ℕ) (before taken : Option (List ℕ)) (now : WithConsole Watching) → StandsFirst code → MakesSteps watched steps (beside_console code before taken) now
      → WhenTold before (λ input. watched.stands program now.code (watch_after steps input))
  stands-after code steps before taken now at m input told =
      subst (λ b. (n : MakesSteps watched steps (beside_console code b taken) now) → watched.stands program now.code (watch_after steps input)) (sym told) by m
    where
      by : MakesSteps watched steps (beside_console code (Some input) taken) now → watched.stands program now.code (watch_after steps input)
      by n =
          let l : TellsRest input now.left (taken_by n.happened) = tells_rest input now.left (taken_by n.happened) n.took in
          (n.made program (first_watch image input) l.rest l.told ((begins code at).stands input) l.split).stands

  -- as far as the run isn't stopped, its steps are clean, and the machine's
  module _ (is_program : IsProgramOf cpu image program) where
    clean-by : (n : ℕ) (input : List ℕ) → is_foul (watch_after n input) ≡ false → IsClean cpu image input n
    clean-by n input going = watch-alike.runs cpu image program is_program input n going

    machine-by : (n : ℕ) (input : List ℕ) → is_foul (watch_after n input) ≡ false → (watch_after n input).machine ≡ after (step cpu) n (start_state image input)
    machine-by n input going = machine_after program n (first_watch image input) going

    -- a run that has ended, or goes on
    pub stayed-clean : (steps : ℕ) (code : Watching) (before taken : Option (List ℕ)) (now : WithConsole Watching) (stepped : Stepped) → StandsFirst code
        → MakesSteps watched steps (beside_console code before taken) now → Tells (Clean stepped) now.code
        → Answers (FinishesWatched cpu image steps before now.left) taken now.taken (end_reply steps (end_told stepped))
    stayed-clean steps code before taken now stepped at m tells =
        let ended : HasEnded watched now.code (end_told stepped) = λ w s stands. ap (λ (c : Core). c.end) stands.machine ∙ tells.0 in
        let ran = has_run_when_told watched program (first_watch image) code (begins code at) steps before taken now (end_told stepped) ended m in
        record {
          output = written_by m.happened;
          wrote = m.wrote;
          is_answer = stayed_clean (end_told stepped) (λ input told.
              let stands = stands-after code steps before taken now at m input told in
              let w = watch_after steps input in
              let going : is_foul w ≡ false = foul-stopped w.machine w.stage ∙ ap is_stopped stands.stage ∙ tells.1 in
              let same = machine-by steps input going in
              let h = ran input told in
              record {
                run = record {
                  output_is = h.output_is ∙ ap (λ (s : State). written_by s.events) same;
                  left_is = h.left_is ∙ ap (λ (s : State). Some s.input) same;
                  end_is = sym (ap (λ (s : State). s.end) same) ∙ h.end_is;
                };
                clean = clean-by steps input going;
              });
        }

    -- a step that is foul, after the steps that were made
    pub met-foul : (steps : ℕ) (code : Watching) (before taken : Option (List ℕ)) (now : WithConsole Watching) (foul : FoulStep) → StandsFirst code
        → MakesSteps watched steps (beside_console code before taken) now → now.code.stage ≡ Stopped foul
        → Answers (FinishesWatched cpu image steps before now.left) taken now.taken (foul_reply foul)
    met-foul steps code before taken now foul at m stopped =
        let ended : HasEnded watched now.code now.code.machine.end = λ w s stands. ap (λ (c : Core). c.end) stands.machine in
        let ran = has_run_when_told watched program (first_watch image) code (begins code at) steps before taken now now.code.machine.end ended m in
        record {
          output = written_by m.happened;
          wrote = m.wrote;
          is_answer = met_foul foul (λ input told.
              let stands = stands-after code steps before taken now at m input told in
              let f = first-foul program steps (first_watch image input) foul refl (stands.stage ∙ stopped) in
              let same = f.same ∙ machine-by f.before input f.clean in
              let h = ran input told in
              record {
                stops = record {
                  made = f.before;
                  short = f.short;
                  output_is = h.output_is ∙ ap (λ (s : State). written_by s.events) same;
                  left_is = h.left_is ∙ ap (λ (s : State). Some s.input) same;
                };
                is_foul = record { clean = clean-by f.before input f.clean; program = program; is_program = is_program; stopped = f.stopped };
              });
        }

    -- a read that failed after the steps that were made
    pub clean-to_read : (steps : ℕ) (code : Watching) (before taken : Option (List ℕ)) (now : WithConsole Watching) → StandsFirst code
        → StopsShort watched read_failed steps (beside_console code before taken) now
        → Answers (FinishesWatched cpu image steps before now.left) taken now.taken InputFault
    clean-to_read steps code before taken now at s =
        let stops = stops_at_read_when_told watched program (first_watch image) code (begins code at) steps before taken now watch_executes s in
        record {
          output = written_by s.made.happened;
          wrote = ap (λ (u : WithConsole Watching). u.taken) s.refused.unchanged ∙ s.made.wrote;
          is_answer = clean_to_read (λ input told.
              let h = stops input told in
              let w = watch_after h.stops.made input in
              let going = takes-going program w h.takes in
              let same = machine-by h.stops.made input going in
              record {
                at_read = record {
                  stops = record {
                    made = h.stops.made;
                    short = h.stops.short;
                    output_is = h.stops.output_is ∙ ap (λ (m : State). written_by m.events) same;
                    left_is = h.stops.left_is ∙ ap (λ (m : State). Some m.input) same;
                  };
                  takes = subst (TakesInput (console_by (step cpu))) same (takes-machine program w h.takes);
                };
                clean = clean-by h.stops.made input going;
              });
        }

  -- no step was made
  pub watched-nothing : (steps : ℕ) (before out : Option (List ℕ)) → Answers (FinishesWatched cpu image steps before before) out out Memory
  watched-nothing steps before out = record { output = []; wrote = sym (append_told-nil out); is_answer = lacked_memory refl }

  -- a write that failed after the steps that were made
  pub watched-broke_off : (steps : ℕ) (code : Watching) (before taken : Option (List ℕ)) (now : WithConsole Watching) → StandsFirst code
      → StopsShort watched write_failed steps (beside_console code before taken) now
      → CutsShort (IsCutRun (watch_of image program) steps (record { before = before; after = now.left }) (record { before = taken; after = now.taken })) taken now.taken
  watched-broke_off steps code before taken now at s =
      let cut = writes_part watched program (first_watch image) code (begins code at) steps before taken now watch_executes s in
      let stops = stops_at_write_when_told watched program (first_watch image) code (begins code at) steps before taken now s in
      record { due = cut.due; is_due = record { is_due = cut.is_due; stops = stops }; part = cut.part }
