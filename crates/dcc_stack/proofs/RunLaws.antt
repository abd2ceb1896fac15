-- The stack stands where the entry procedure begins, and after each further step of a clean run; so frames are few.
use Rattle.std.proofs.Common.{◌≡◌, inl, inr, ℕ, zero, suc, ◌+◌, ◌-◌, ◌*◌, ◌<◌, ◌≤◌, Bool, true, false, List, [], ◌∷◌, length, Option, Some, None, refl, sym, ap, ◌∙◌, subst, arith}
use Rattle.std.specs.Prelude.{pos, ◌+ℤ◌, ◌-ℤ◌, int_lt, slice_index, ◌||◌, if◌then◌else◌}
use Rattle.std.proofs.lemmas.Bool.{cases_lt}
use Rattle.std.proofs.lemmas.Int.{ints}
use Rattle.std.proofs.lemmas.List.{length-map}
use Rattle.std.proofs.Math.Nat.{mod-eq_of_lt}
use Rattle.dcc_run.specs.End.{is_over}
use Rattle.dcc_run.specs.System.{after}
use Rattle.dcc_num.specs.declared.Reg.TheVariants.{Sp, Bp}
use Rattle.dcc_machine.specs.declared.cpu.Cpu.{Cpu}
use Rattle.dcc_machine.specs.declared.segment.TheConstants.{SS, DS}
use Rattle.dcc_machine.specs.declared.image.Image.{Image}
use Rattle.dcc_prog.specs.declared.procedure.Layout.{Layout}
use Rattle.dcc_prog.specs.declared.frame.Program.{Program}
use Rattle.dcc_machine.specs.MzImage.{IsLoaded}
use Rattle.dcc_machine.specs.Machine.{State, word_in, code_segment, start_state}
use Rattle.dcc_machine.specs.Code.{HoldsCode}
use Rattle.dcc_machine.specs.Step.{step}
use Rattle.dcc_machine.specs.StateForm.{IsState}
use Rattle.dcc_prog.specs.Layout.{HasLayout, offset_after, state_after}
use Rattle.dcc_prog.specs.Trail.{start}
use Rattle.dcc_prog.specs.Height.{entered}
use Rattle.dcc_prog.specs.RunLaws.{begun}
use Rattle.dcc_prog.specs.Clean.{Stack, Foul, top_in, sp_after, is_low, foul_of, stack_after, first_stack}
use Rattle.dcc_prog.specs.Watch.{Stage, InProcedures, Watch, stage_after, next_instruction, next_foul, is_foul, moved, made, watch_step}
use Rattle.dcc_machine.proofs.FetchLaws.{image-placed, start-holds, code-kept, code-part}
use Rattle.dcc_machine.proofs.StartState.{starts-are}
use Rattle.dcc_machine.proofs.StateKept.{states-kept}
use Rattle.dcc_machine.proofs.LocationKept.{or-none}
use Rattle.dcc_prog.proofs.StackMarks.{none-marked}
use Rattle.dcc_prog.proofs.PreludeSteps.{executed, executed-code, steps-from_start, state_after-is, at_offset}
use Rattle.dcc_prog.proofs.PreludeOffsets.{prelude-short}
use Rattle.dcc_prog.proofs.WatchLaws.{IsBefore, at_start, in_prelude, machine_watchable, watch_at, machine_run, machine_at, next-watch, before_its_end, past_the_prelude}
use Rattle.dcc_stack.specs.Accepted.{IsAt, IsProgramOfFile}
use Rattle.dcc_stack.specs.Standing.{Activation, outside, first, HoldsSegments, StackStands}
use Rattle.dcc_stack.specs.Laws.{CleanStepsStand, FramesStand, FramesAreFew, CallsHaveRoom}
use Rattle.dcc_stack.proofs.ApartAccesses.{clean-step}
use Rattle.dcc_stack.proofs.StepFrames.{stand-few}

-- The start.

module _ (image : Image) (program : Program) (loaded : IsLoaded image) (has : HasLayout image program.layout)
    (input : List ℕ) (bytes : (k : ℕ) → slice_index input k < 256) where
  abbrev cpu : Cpu
  cpu = program.layout.cpu

  -- the machine where the entry procedure begins
  abbrev begin : State
  begin = machine_run image program loaded has input (length has.prelude)

  begin-is :
      begin ≡ at_offset image input (executed cpu (start_state image []) has.prelude) (offset_after image.ip has.prelude)
  begin-is = steps-from_start cpu image input has.prelude loaded has.is_prelude.run

  after-is :
      state_after cpu image has.prelude
      ≡ at_offset image [] (executed cpu (start_state image []) has.prelude) (offset_after image.ip has.prelude)
  after-is = state_after-is cpu image has.prelude loaded has.is_prelude.run

  begin-segs : begin.segs ≡ (state_after cpu image has.prelude).segs
  begin-segs = ap (λ (u : State). u.segs) begin-is ∙ sym (ap (λ (u : State). u.segs) after-is)

  begin-regs : begin.regs ≡ (state_after cpu image has.prelude).regs
  begin-regs = ap (λ (u : State). u.regs) begin-is ∙ sym (ap (λ (u : State). u.regs) after-is)

  states-after : (n : ℕ) (s : State) → IsState s → IsState (after (step cpu) n s)
  states-after zero s form = form
  states-after (suc n) s form = states-after n (step cpu s) (states-kept.step cpu s form)

  begin-state : IsState begin
  begin-state = states-after (length has.prelude) (start_state image input) (starts-are image input loaded bytes)

  begin-code : HoldsCode image program.layout.code_end begin
  begin-code =
      let placed = image-placed loaded.file image loaded.is_image in
      let segment : code_segment begin ≡ image.cs =
      ap (λ (u : State). code_segment u) begin-is
      ∙ executed-code cpu _ image.ip has.prelude (start_state image []) has.is_prelude.run in
      let end = has.left.code_end in
      code-part image image.code_len program.layout.code_end begin
      (code-kept image image.code_len (start_state image input) begin (start-holds image input placed)
      (ap (λ (u : State). u.memory) begin-is) segment)
      (omega (arith, end))

  begin-segments : HoldsSegments image program.layout begin
  begin-segments = record {
    state = begin-state;
    code = begin-code;
    data_is = ap (λ l. slice_index l DS) begin-segs ∙ sym has.left.ds;
    stack_is = ap (λ l. slice_index l SS * 16) begin-segs ∙ sym has.left.delta;
  }

  begin-top : top_in program.layout begin ≡ program.layout.hi
  begin-top = ap (λ l. slice_index l 4 + program.layout.delta) begin-regs ∙ sym has.left.hi

  begin-ip : begin.ip ≡ program.layout.start_ip
  begin-ip =
      ap (λ (u : State). u.ip) begin-is ∙ mod-eq_of_lt (prelude-short image program.layout loaded has)
      ∙ sym has.left.start_ip

  abbrev started : Activation
  started = record {
    frame = record { entry = program.layout.start_ip; base = top_in program.layout begin + 2 };
    at = program.layout.start_ip;
    before = [];
    caller_bp = word_in begin Bp;
  }

  start-at : IsAt image program.layout program.layout.start_ip program.layout.start_ip [] (pos 0)
  start-at = record { is_entry = start; trail = refl; gives = entered }

  -- the stack of the entry procedure stands where it begins
  pub begin-stands : StackStands image program.layout begin (first_stack program.layout begin)
  begin-stands = record {
    segments = begin-segments;
    newest = started;
    callers = [];
    frames = refl;
    place = sym begin-ip;
    passed = begun begin begin-state;
    stand =
        first (ap (λ n. record { entry = program.layout.start_ip; base = n + 2 }) begin-top)
        (record { height = 0; is_at = start-at; top_is = omega arith; holds = outside (inr refl) refl });
    low = omega (arith, begin-top, has.small.has_stack);
    written = λ offset is. let both = sym is ∙ none-marked 65536 offset in absurd (cc);
  }

-- Steps of watched runs.

-- past the prelude the run has ended, was stopped, or its stack stands
data HasStood (image : Image) (layout : Layout) (w : Watch) : Type 0 where
  over : is_over w.machine.end ≡ true → HasStood image layout w
  stopped : is_foul w ≡ true → HasStood image layout w
  standing :
      (stack : Stack)
      → w.stage ≡ InProcedures stack
      → StackStands image layout w.machine stack
      → HasStood image layout w

module _ (steps : CleanStepsStand) (cpu : Cpu) (image : Image) (program : Program)
    (of_file : IsProgramOfFile cpu image program) where
  -- a run that stands makes its next step, is stopped or ends
  next-from :
      (w : Watch) (stack : Stack) → w.stage ≡ InProcedures stack → StackStands image program.layout w.machine stack
      → is_over w.machine.end ≡ false → HasStood image program.layout (watch_step program w)
  next-from w stack stage stands running =
      subst (HasStood image program.layout) (sym made-is) (by (next_foul program w) foul-is refl)
    where
      going : is_foul w ≡ false
      going = ap (λ stage. is_foul (record w { stage = stage })) stage

      made-is : watch_step program w ≡ made program.layout (next_foul program w) w
      made-is =
          ap (λ b. if b || is_foul w then w else made program.layout (next_foul program w) w) running
          ∙ ap (λ b. if b then w else made program.layout (next_foul program w) w) going

      foul-is : next_foul program w ≡ foul_of program stack w.machine (next_instruction program.layout.cpu w.machine)
      foul-is = ap (λ stage. next_foul program (record w { stage = stage })) stage

      stage-is :
          (moved program.layout w).stage
          ≡ InProcedures (stack_after program.layout (next_instruction program.layout.cpu w.machine) w.machine
          (step program.layout.cpu w.machine) stack)
      stage-is =
          ap
          (stage_after program.layout (next_instruction program.layout.cpu w.machine) w.machine
          (step program.layout.cpu w.machine))
          stage

      goes : (ended : Bool) → is_over (step program.layout.cpu w.machine).end ≡ ended → next_foul program w ≡ None
          → HasStood image program.layout (moved program.layout w)
      goes true e clean = over e
      goes false e clean =
          standing _ stage-is
          (steps cpu image program w.machine stack of_file stands running (sym foul-is ∙ clean) e).after

      by :
          (foul : Option Foul)
          → next_foul program w ≡ foul_of program stack w.machine (next_instruction program.layout.cpu w.machine)
          → next_foul program w ≡ foul → HasStood image program.layout (made program.layout foul w)
      by (Some foul) is e = stopped refl
      by None is e = goes (is_over (step program.layout.cpu w.machine).end) refl e

  next-stood : (w : Watch) → HasStood image program.layout w → HasStood image program.layout (watch_step program w)
  next-stood w (over ended) =
      subst (HasStood image program.layout) (sym ((machine_watchable program).lawful.stays w ended)) (over ended)
  next-stood w (stopped foul) =
      subst (HasStood image program.layout) (sym ((machine_watchable program).stays w foul)) (stopped foul)
  next-stood w (standing stack stage stands) = by (is_over w.machine.end) refl
    where
      by : (ended : Bool) → is_over w.machine.end ≡ ended → HasStood image program.layout (watch_step program w)
      by true e = subst (HasStood image program.layout) (sym ((machine_watchable program).lawful.stays w e)) (over e)
      by false e = next-from w stack stage stands e

-- Runs.

module _ (steps : CleanStepsStand) (cpu : Cpu) (image : Image) (program : Program)
    (of_file : IsProgramOfFile cpu image program) (input : List ℕ) (bytes : (k : ℕ) → slice_index input k < 256) where
  abbrev begins : ℕ
  begins = length of_file.is_program.layout.prelude

  abbrev watch : ℕ → Watch
  watch n = watch_at image program of_file.loaded of_file.is_program.layout input n

  stood-first : HasStood image program.layout (watch begins)
  stood-first =
      let loaded = of_file.loaded in
      let has = of_file.is_program.layout in
      let stack = first_stack program.layout (machine_run image program loaded has input begins) in
      standing stack (past_the_prelude image program loaded has input)
      (subst (λ m. StackStands image program.layout m stack)
      (sym (machine_at image program loaded has input begins (omega arith)))
      (begin-stands image program loaded has input bytes))

  stood-by : (d : ℕ) → HasStood image program.layout (watch (begins + d))
  stood-by zero =
      let e : begins + 0 ≡ begins = omega arith in
      subst (λ n. HasStood image program.layout (watch n)) (sym e) stood-first
  stood-by (suc d) =
      let e : begins + suc d ≡ suc (begins + d) = omega arith in
      subst (HasStood image program.layout)
      (sym (ap watch e ∙ next-watch image program of_file.loaded of_file.is_program.layout input (begins + d)))
      (next-stood steps cpu image program of_file (watch (begins + d)) (stood-by d))

  stood-at : (n : ℕ) → begins ≤ n → HasStood image program.layout (watch n)
  stood-at n le =
      let e : begins + (n - begins) ≡ n = omega (arith, le) in
      subst (λ m. HasStood image program.layout (watch m)) e (stood-by (n - begins))

  before-none : (stage : Stage) (stack : Stack) → IsBefore stage → stage ≡ InProcedures stack → ⊥
  before-none stage stack at_start e = cc
  before-none stage stack in_prelude e = cc

  stands-from :
      (w : Watch) (stack : Stack) → HasStood image program.layout w → is_over w.machine.end ≡ false
      → w.stage ≡ InProcedures stack → StackStands image program.layout w.machine stack
  stands-from w stack (over ended) running stage = let both = sym ended ∙ running in absurd (cc)
  stands-from w stack (stopped foul) running stage =
      let going : is_foul w ≡ false = ap (λ s. is_foul (record w { stage = s })) stage in
      let both = sym foul ∙ going in
      absurd (cc)
  stands-from w stack (standing other here stands) running stage =
      let both = sym here ∙ stage in
      let same : other ≡ stack = cc in
      subst (StackStands image program.layout w.machine) same stands

  stands-at :
      (n : ℕ) (stack : Stack) → is_over (watch n).machine.end ≡ false → (watch n).stage ≡ InProcedures stack
      → StackStands image program.layout (watch n).machine stack
  stands-at n stack running stage = elim (cases_lt n begins) [
    | inl less ↦ absurd (before-none (watch n).stage stack
        (before_its_end image program of_file.loaded of_file.is_program.layout input n less) stage)
    | inr le ↦ stands-from (watch n) stack (stood-at n le) running stage
  ]

pub frames-stand : CleanStepsStand → FramesStand
frames-stand steps cpu image program input n stack run running stage =
    stands-at steps cpu image program run.program_is input run.bytes n stack running stage

-- Frames.

-- of a stack that stands the frames take a word each, but for the first
stack-few :
    (image : Image) (layout : Layout) (s : State) (stack : Stack) → StackStands image layout s stack
    → top_in layout s + 2 * length stack.frames ≤ layout.hi + 2
stack-few image layout s stack stands =
    let few = stand-few stands.stand in
    let count : length stack.frames ≡ length (stands.newest ∷ stands.callers) =
    ap length (sym stands.frames) ∙ length-map (stands.newest ∷ stands.callers) (λ (a : Activation). a.frame) in
    omega (arith, few, count)

pub frames-few : CleanStepsStand → FramesAreFew
frames-few steps cpu image program input n stack run running stage =
    let stands = frames-stand steps cpu image program input n stack run running stage in
    let few = stack-few image program.layout _ stack stands in
    let low = stands.low in
    omega (arith, few, low)

pub calls-room : CallsHaveRoom
calls-room image program s stack instr target stands calls clean =
    let few = stack-few image program.layout s stack stands in
    let bounds =
    or-none (int_lt (pos (word_in s Sp) -ℤ pos 2) (pos 0))
    (int_lt ((pos (word_in s Sp) -ℤ pos 2) +ℤ pos program.layout.delta) (pos program.layout.lo))
    (subst (λ o. is_low program.layout (sp_after o s) ≡ false) calls (clean-step program stack s instr clean).low) in
    let room = bounds.0 in
    let above = bounds.1 in
    let low : program.layout.lo + 2 ≤ top_in program.layout s = omega (arith, ints, room, above) in
    omega (arith, few, low)
