-- Laws of the machine's watched runs: they are watchable; as long as they aren't foul their machine is the machine's run;
-- and they go through the prelude into the procedure of its end.
use Rattle.std.proofs.Common.{◌≡◌, ℕ, zero, suc, ◌+◌, ◌-◌, ◌%◌, ◌<◌, ◌≤◌, Bool, true, false, List, [], length, take, Option, Some, None, refl, sym, ap, ◌∙◌, subst, arith}
use Rattle.std.proofs.lemmas.Bool.{eq-eqb, ne_eqb}
use Rattle.std.proofs.lemmas.List.{length-take-le}
use Rattle.std.proofs.Math.Nat.{mod-eq_of_lt}
use Rattle.std.specs.Prelude.{◌||◌, ◌==◌, if◌then◌else◌}
use Rattle.dcc_run.specs.End.{is_over}
use Rattle.dcc_run.specs.Prefix.{IsPrefix}
use Rattle.dcc_run.specs.System.{after}
use Rattle.dcc_run.specs.Watched.{IsWatchable, state}
use Rattle.dcc_run.proofs.PrefixLaws.{prefix_refl}
use Rattle.dcc_run.proofs.RunLaws.{after-add}
use Rattle.dcc_run.proofs.ShadowLaws.{clean_before}
use Rattle.dcc_machine.specs.declared.cpu.Cpu.{Cpu}
use Rattle.dcc_machine.specs.declared.image.Image.{Image}
use Rattle.dcc_prog.specs.declared.procedure.Layout.{Layout}
use Rattle.dcc_prog.specs.declared.frame.Program.{Program}
use Rattle.dcc_machine.specs.declared.instr.Instr.{Instr}
use Rattle.dcc_machine.specs.MzImage.{IsLoaded}
use Rattle.dcc_machine.specs.Code.{code_of}
use Rattle.dcc_machine.specs.Machine.{State, start_state}
use Rattle.dcc_machine.specs.Step.{step}
use Rattle.dcc_prog.specs.Layout.{HasLayout}
use Rattle.dcc_prog.specs.Clean.{Foul, first_stack}
use Rattle.dcc_prog.specs.Watch.{Stage, AtStart, InPrelude, InProcedures, Stopped, Watch, stage_after, next_instruction, next_foul, is_foul, moved, made, watch_step, place_of, watched_machine, first_watch}
use Rattle.dcc_machine.proofs.StepLaws.{machine_lawful}
use Rattle.dcc_prog.proofs.PreludeSteps.{executed, at_offset, steps-from_start}
use Rattle.dcc_prog.proofs.PreludeOffsets.{offset_in, offset-taken, offset-end, run-taken, prelude-before_start, prelude-below, prelude-some, start-below}

-- the run is not yet past the prelude
pub data IsBefore : Stage → Type 0 where
  at_start : IsBefore AtStart
  in_prelude : IsBefore InPrelude

pub or-true : (b : Bool) → (b || true) ≡ true
or-true true = refl
or-true false = refl

-- a watch whose run has gone no further than its machine
abbrev at_stage : State → Stage → Watch
at_stage m stage = record { machine = m; stage = stage }

module _ (program : Program) where
  abbrev layout : Layout
  layout = program.layout

  -- the next step is made, unless the run has ended or was stopped
  abbrev after_step : Bool → Watch → Watch
  after_step stays w = if stays then w else made layout (next_foul program w) w

  -- Watchable.

  grows-made : (w : Watch) (foul : Option Foul) → IsPrefix w.machine.events (made layout foul w).machine.events
  grows-made w None = (machine_lawful layout.cpu).grows w.machine
  grows-made w (Some foul) = prefix_refl w.machine.events

  grows : (w : Watch) → IsPrefix w.machine.events (watch_step program w).machine.events
  grows w =
      elim (is_over w.machine.end || is_foul w) as (λ b. IsPrefix w.machine.events (after_step b w).machine.events) [
        | true ↦ prefix_refl w.machine.events
        | false ↦ grows-made w (next_foul program w)
      ]

  unmarked : (m : State) (stage : Stage) → is_foul (at_stage m stage) ≡ true → place_of layout (at_stage m stage) ≡ None
  unmarked m AtStart foul = cc
  unmarked m InPrelude foul = refl
  unmarked m (InProcedures stack) foul = cc
  unmarked m (Stopped by) foul = refl

  -- what has ended or was stopped stays, events only join, and a stopped run is at no place
  pub machine_watchable : IsWatchable (watched_machine program)
  machine_watchable = record {
    lawful = record { stays = λ w over. ap (λ b. after_step (b || is_foul w) w) over; grows = grows };
    stays = λ w foul. ap (λ b. after_step (is_over w.machine.end || b) w) foul ∙ ap (λ b. after_step b w) (or-true (is_over w.machine.end));
    unmarked = λ w foul. unmarked w.machine w.stage foul;
  }

  -- The machine's run.

  -- a step of a run that goes on and isn't stopped
  pub watch_moves : (w : Watch) → is_over w.machine.end ≡ false → is_foul w ≡ false → next_foul program w ≡ None
      → watch_step program w ≡ moved layout w
  watch_moves w running going clean =
      ap (λ b. after_step (b || is_foul w) w) running
      ∙ ap (λ b. after_step b w) going
      ∙ ap (λ foul. made layout foul w) clean

  made-steps : (w : Watch) (foul : Option Foul) → is_foul (made layout foul w) ≡ false
      → (made layout foul w).machine ≡ step layout.cpu w.machine
  made-steps w None clean = refl
  made-steps w (Some foul) clean = cc

  -- the machine makes its step, where the run isn't stopped by then
  pub machine_steps : (w : Watch) → is_foul (watch_step program w) ≡ false
      → (watch_step program w).machine ≡ step layout.cpu w.machine
  machine_steps w clean =
      elim (is_over w.machine.end) as (λ b. is_over w.machine.end ≡ b → is_foul (after_step (b || is_foul w) w) ≡ false
      → (after_step (b || is_foul w) w).machine ≡ step layout.cpu w.machine) [
        | true ↦ λ over unfouled. sym ((machine_lawful layout.cpu).stays w.machine over)
        | false ↦ λ running unfouled.
            elim (is_foul w) as (λ b. is_foul w ≡ b → is_foul (after_step b w) ≡ false → (after_step b w).machine ≡ step layout.cpu w.machine) [
              | true ↦ λ foul unfouled. cc
              | false ↦ λ going unfouled. made-steps w (next_foul program w) unfouled
            ] refl unfouled
      ] refl clean

  -- what isn't foul after more steps wasn't after fewer
  pub not_foul_before : (m n : ℕ) (w : Watch) → m ≤ n → is_foul (state (watched_machine program) n w) ≡ false
      → is_foul (state (watched_machine program) m w) ≡ false
  not_foul_before m n w le clean = clean_before (watched_machine program) machine_watchable m n w le clean

  -- as long as it isn't foul the watched machine is where the machine is
  pub machine_after : (n : ℕ) (w : Watch) → is_foul (state (watched_machine program) n w) ≡ false
      → (state (watched_machine program) n w).machine ≡ after (step layout.cpu) n w.machine
  machine_after zero w clean = refl
  machine_after (suc n) w clean =
      machine_after n (watch_step program w) clean
      ∙ ap (after (step layout.cpu) n) (machine_steps w (not_foul_before 0 n (watch_step program w) (omega arith) clean))

  -- Stages.

  before-going : (m : State) (stage : Stage) → IsBefore stage → is_foul (at_stage m stage) ≡ false
  before-going m stage at_start = refl
  before-going m stage in_prelude = refl

  before-clean : (m : State) (stage : Stage) → IsBefore stage → next_foul program (at_stage m stage) ≡ None
  before-clean m stage at_start = refl
  before-clean m stage in_prelude = refl

  -- before its procedures a run goes on in the prelude until it comes to the offset after it
  abbrev entered : State → Stage
  entered t = if t.ip == layout.start_ip then InProcedures (first_stack layout t) else InPrelude

  enters : (found : Option Instr) (s t : State) (stage : Stage) → IsBefore stage
      → stage_after layout found s t stage ≡ entered t
  enters found s t stage at_start = refl
  enters found s t stage in_prelude = refl

  pub prelude_goes : (w : Watch) → IsBefore w.stage → is_over w.machine.end ≡ false
      → (watch_step program w).stage ≡ entered (step layout.cpu w.machine)
  prelude_goes w before running =
      ap (λ (v : Watch). v.stage) (watch_moves w running (before-going w.machine w.stage before) (before-clean w.machine w.stage before))
      ∙ enters (next_instruction layout.cpu w.machine) w.machine (step layout.cpu w.machine) w.stage before

-- The prelude.

module _ (image : Image) (program : Program) (loaded : IsLoaded image) (has : HasLayout image program.layout) (input : List ℕ) where
  abbrev cpu : Cpu
  cpu = program.layout.cpu

  abbrev pub watch_at : ℕ → Watch
  watch_at k = state (watched_machine program) k (first_watch image input)

  abbrev pub machine_run : ℕ → State
  machine_run k = after (step cpu) k (start_state image input)

  -- the machine within the prelude
  pub prelude_state : (k : ℕ) → k ≤ length has.prelude
      → machine_run k ≡ at_offset image input (executed cpu (start_state image []) (take k has.prelude)) (offset_in k has.prelude image.ip)
  prelude_state k le =
      ap machine_run (sym (length-take-le k has.prelude le))
      ∙ steps-from_start cpu image input (take k has.prelude) loaded (run-taken cpu (code_of image) k has.prelude image.ip has.is_prelude.run)
      ∙ ap (λ a. at_offset image input (executed cpu (start_state image []) (take k has.prelude)) a) (sym (offset-taken k has.prelude image.ip))

  machine-before : (k : ℕ) → IsBefore (watch_at k).stage → (watch_at k).machine ≡ machine_run k
  machine-before k before =
      machine_after program k (first_watch image input) (before-going program (watch_at k).machine (watch_at k).stage before)

  pub next-watch : (k : ℕ) → watch_at (suc k) ≡ watch_step program (watch_at k)
  next-watch k =
      let e : suc k ≡ k + 1 = omega arith in
      ap watch_at e ∙ after-add (watch_step program) k 1 (first_watch image input)

  next-machine : (k : ℕ) → IsBefore (watch_at k).stage → step cpu (watch_at k).machine ≡ machine_run (suc k)
  next-machine k before =
      let e : k + 1 ≡ suc k = omega arith in
      ap (step cpu) (machine-before k before) ∙ sym (after-add (step cpu) k 1 (start_state image input))
      ∙ ap machine_run e

  -- after each further step the machine stands at that offset of the prelude, or at its end
  goes-to : (k : ℕ) → suc k ≤ length has.prelude → IsBefore (watch_at k).stage
      → (watch_at (suc k)).stage ≡ entered program (machine_run (suc k))
  goes-to k le before =
      let less : k ≤ length has.prelude = omega (arith, le) in
      ap (λ (v : Watch). v.stage) (next-watch k)
      ∙ prelude_goes program (watch_at k) before (ap (λ (s : State). is_over s.end) (machine-before k before ∙ prelude_state k less))
      ∙ ap (entered program) (next-machine k before)

  -- before the prelude's end the run is in it
  stays-in : (k : ℕ) → suc k < length has.prelude → IsBefore (watch_at k).stage → (watch_at (suc k)).stage ≡ InPrelude
  stays-in k within before =
      let le : suc k ≤ length has.prelude = omega (arith, within) in
      let off : ℕ = offset_in (suc k) has.prelude image.ip in
      let below : off < program.layout.start_ip = prelude-before_start image program.layout loaded has (suc k) within in
      let low : off % 65536 ≡ off = mod-eq_of_lt (prelude-below image program.layout loaded has (suc k) within) in
      let other : (off % 65536 == program.layout.start_ip) ≡ false = ne_eqb (off % 65536) program.layout.start_ip (λ e. omega (arith, e, low, below)) in
      let ip : (machine_run (suc k)).ip ≡ off % 65536 = ap (λ (s : State). s.ip) (prelude_state (suc k) le) in
      goes-to k le before
      ∙ ap (λ b. if b then InProcedures (first_stack program.layout (machine_run (suc k))) else InPrelude)
      (ap (λ a. a == program.layout.start_ip) ip ∙ other)

  pub in_the_prelude : (k : ℕ) → 0 < k → k < length has.prelude → (watch_at k).stage ≡ InPrelude
  in_the_prelude zero some within = absurd (omega (arith, some))
  in_the_prelude (suc zero) some within = stays-in 0 within at_start
  in_the_prelude (suc (suc k)) some within =
      let some' : 0 < suc k = omega arith in
      let within' : suc k < length has.prelude = omega (arith, within) in
      stays-in (suc k) within (subst IsBefore (sym (in_the_prelude (suc k) some' within')) in_prelude)

  pub before_its_end : (k : ℕ) → k < length has.prelude → IsBefore (watch_at k).stage
  before_its_end zero less = at_start
  before_its_end (suc k) less =
      let some : 0 < suc k = omega arith in subst IsBefore (sym (in_the_prelude (suc k) some less)) in_prelude

  -- after the prelude the run is in the procedure that begins there
  pub past_the_prelude : (watch_at (length has.prelude)).stage ≡ InProcedures (first_stack program.layout (machine_run (length has.prelude)))
  past_the_prelude =
      let some = prelude-some image program.layout loaded has in
      let last : ℕ = length has.prelude - 1 in
      let e : suc last ≡ length has.prelude = omega (arith, some) in
      let le : suc last ≤ length has.prelude = omega (arith, e) in
      let within : last < length has.prelude = omega (arith, e) in
      let low : offset_in (suc last) has.prelude image.ip % 65536 ≡ program.layout.start_ip =
      ap (λ k. offset_in k has.prelude image.ip % 65536) e
      ∙ ap (λ n. n % 65536) (offset-end has.prelude image.ip ∙ sym has.left.start_ip)
      ∙ mod-eq_of_lt (start-below image program.layout loaded has)
      in
      let ip : (machine_run (suc last)).ip ≡ program.layout.start_ip = ap (λ (s : State). s.ip) (prelude_state (suc last) le) ∙ low in
      ap (λ k. (watch_at k).stage) (sym e)
      ∙ goes-to last le (before_its_end last within)
      ∙ ap (λ b. if b then InProcedures (first_stack program.layout (machine_run (suc last))) else InPrelude)
      (eq-eqb (machine_run (suc last)).ip program.layout.start_ip ip)
      ∙ ap (λ k. InProcedures (first_stack program.layout (machine_run k))) e

  -- no step of the prelude is foul
  pub prelude_clean : (k : ℕ) → k ≤ length has.prelude → is_foul (watch_at k) ≡ false
  prelude_clean k le =
      not_foul_before program k (length has.prelude) (first_watch image input) le
      (ap (λ stage. is_foul (at_stage (watch_at (length has.prelude)).machine stage)) past_the_prelude)

  -- up to the prelude's end the steps of the watched run are the machine's
  pub machine_at : (k : ℕ) → k ≤ length has.prelude → (watch_at k).machine ≡ machine_run k
  machine_at k le = machine_after program k (first_watch image input) (prelude_clean k le)

  pub prelude_running : (k : ℕ) → k ≤ length has.prelude → is_over (watch_at k).machine.end ≡ false
  prelude_running k le = ap (λ (s : State). is_over s.end) (machine_at k le ∙ prelude_state k le)
