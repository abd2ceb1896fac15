-- Laws on clean runs.
use Rattle.std.proofs.Common.{◌≡◌, ℕ, zero, suc, ◌+◌, ◌-◌, ◌<◌, ◌≤◌, inl, inr, Bool, true, false, List, [], ◌∷◌, ◌++◌, length, filter, flat_map, Option, Some, None, refl, sym, ap, ap₂, ◌∙◌, subst, arith}
use Rattle.std.proofs.lemmas.Bool.{cases_lt}
use Rattle.std.proofs.lemmas.List.{append-nil}
use Rattle.std.proofs.lemmas.List.Elements.{filter_map-append}
use Rattle.std.specs.Prelude.{◌||◌, not, pos, ◌+ℤ◌, if◌then◌else◌}
use Rattle.std.specs.List.{range_with_len, find, filter_map}
use Rattle.dcc_run.specs.End.{is_over}
use Rattle.dcc_run.specs.Watched.{state}
use Rattle.dcc_num.specs.declared.Width.TheVariants.{Word as word_width}
use Rattle.dcc_num.specs.Numbers.{wrapped_of}
use Rattle.dcc_machine.specs.declared.image.Image.{Image}
use Rattle.dcc_prog.specs.declared.procedure.Layout.{Layout}
use Rattle.dcc_prog.specs.declared.frame.Program.{Program}
use Rattle.dcc_prog.specs.declared.watch.FoulKind.TheVariants.{Low, Hidden, Unwritten}
use Rattle.dcc_machine.specs.declared.instr.Op.{Op}
use Rattle.dcc_machine.specs.declared.instr.Op.TheVariants.{Call, Ret}
use Rattle.dcc_machine.specs.declared.instr.Instr.{Instr}
use Rattle.dcc_machine.specs.MzImage.{IsLoaded}
use Rattle.dcc_machine.specs.Machine.{State}
use Rattle.dcc_machine.specs.Step.{step}
use Rattle.dcc_prog.specs.Layout.{HasLayout}
use Rattle.dcc_machine.specs.Access.{Access, addresses_of, found_accesses}
use Rattle.dcc_prog.specs.Clean.{LiveFrame, Stack, foul_as, or_else, stack_offset, stack_bytes, is_other, is_reading, is_exposed_byte, top_in, sp_after, hidden_of, unwritten_of, is_marked, foul_of, frames_after, with_marks, written_after, stack_after, first_stack}
use Rattle.dcc_prog.specs.Watch.{InProcedures, Watch, next_instruction, next_foul, is_foul, made, watch_step, watched_machine, first_watch}
use Rattle.dcc_prog.specs.CleanLaws.{machine_after as machine_state, stage_at, FrontsOfCleanRunsAreClean, moves_frames, UsesNoStack, NextUsesNoStack, WhatUsesNoStackIsClean}
use Rattle.dcc_prog.proofs.WatchLaws.{not_foul_before, machine_after, next-watch, past_the_prelude, prelude_clean}
use Rattle.dcc_prog.proofs.StackMarks.{none-left}

pub fronts-clean : FrontsOfCleanRunsAreClean
fronts-clean cpu image input m n le clean program is =
    not_foul_before program m n (first_watch image input) le (clean program is)

-- What uses no stack.

-- where no byte of all accesses is the stack's, none of some of them is
joined-none : (front rest : List ℕ) → front ++ rest ≡ [] → (front ≡ []) × (rest ≡ [])
joined-none [] rest none = (refl, none)
joined-none (x ∷ front) rest none = cc

map-joined : (layout : Layout) (front rest : List ℕ)
    → filter_map (stack_offset layout) (front ++ rest) ≡ filter_map (stack_offset layout) front ++ filter_map (stack_offset layout) rest
map-joined layout front rest = filter_map-append (stack_offset layout) front rest

fewer-none : (layout : Layout) (test : Access → Bool) (list : List Access) → stack_bytes layout list ≡ []
    → stack_bytes layout (filter test list) ≡ []
fewer-none layout test [] none = refl
fewer-none layout test (access ∷ rest) none =
    let both = joined-none (stack_bytes layout (access ∷ [])) (stack_bytes layout rest) (sym (joined access rest) ∙ none) in
    elim (test access) as (λ b. stack_bytes layout (if b then access ∷ filter test rest else filter test rest) ≡ []) [
      | true ↦ joined access (filter test rest) ∙ ap (λ l. l ++ stack_bytes layout (filter test rest)) both.0 ∙ fewer-none layout test rest both.1
      | false ↦ fewer-none layout test rest both.1
    ]
  where
    joined : (access : Access) (rest : List Access)
        → stack_bytes layout (access ∷ rest) ≡ stack_bytes layout (access ∷ []) ++ stack_bytes layout rest
    joined access rest =
        map-joined layout (addresses_of access) (flat_map addresses_of rest)
        ∙ ap (λ l. filter_map (stack_offset layout) l ++ stack_bytes layout rest) (sym (append-nil (addresses_of access)))

pub no_stack-clean : (program : Program) (stack : Stack) (s : State) (instr : Instr)
    → UsesNoStack program.layout s instr → foul_of program stack s (Some instr) ≡ None
no_stack-clean program stack s instr uses =
    let list = found_accesses (Some instr) s in
    let below : ℕ = wrapped_of word_width (sp_after instr.op s +ℤ pos program.layout.delta) in
    ap (λ b. or_else (foul_as s.ip Low (if b then Some below else None))
    (or_else (foul_as s.ip Hidden (hidden_of program stack s list)) (foul_as s.ip Unwritten (unwritten_of program.layout stack list)))) uses.bounds
    ∙ ap (λ l. or_else (foul_as s.ip Hidden (find (λ offset. not (is_exposed_byte program (top_in program.layout s) stack.frames offset)) l))
    (foul_as s.ip Unwritten (unwritten_of program.layout stack list))) (fewer-none program.layout is_other list uses.bytes)
    ∙ ap (λ l. foul_as s.ip Unwritten (find (λ offset. not (is_marked stack.written offset)) l)) (fewer-none program.layout is_reading list uses.bytes)

pub frames-stay : (op : Op) (top : ℕ) (frames : List LiveFrame) → moves_frames op ≡ false
    → frames_after op top frames ≡ frames
frames-stay (Call target) top frames apart = cc
frames-stay (Ret count) top frames apart = cc
frames-stay op top frames apart = refl

-- what uses no stack changes marks only where SP rises past them
marks-passed : (layout : Layout) (s t : State) (instr : Instr) (written : List Bool) → UsesNoStack layout s instr
    → written_after layout (found_accesses (Some instr) s) (top_in layout s) (top_in layout t) written
    ≡ with_marks false (range_with_len (top_in layout s) (top_in layout t - top_in layout s)) written
marks-passed layout s t instr written uses =
    ap (λ l. with_marks false (range_with_len (top_in layout s) (top_in layout t - top_in layout s)) (with_marks true l written))
    (fewer-none layout (λ access. not (is_reading access)) (found_accesses (Some instr) s) uses.bytes)

stack-passed : (layout : Layout) (s t : State) (instr : Instr) (stack : Stack) → UsesNoStack layout s instr
    → stack_after layout (Some instr) s t stack
    ≡ record { frames = stack.frames; written = with_marks false (range_with_len (top_in layout s) (top_in layout t - top_in layout s)) stack.written }
stack-passed layout s t instr stack uses =
    ap₂ (λ frames written. record { frames = frames; written = written })
    (frames-stay instr.op (top_in layout s) stack.frames uses.frames)
    (marks-passed layout s t instr stack.written uses)

pub no_stack-left : (layout : Layout) (stack : Stack) (s t : State) (instr : Instr) → UsesNoStack layout s instr
    → top_in layout t ≤ top_in layout s
    → stack_after layout (Some instr) s t stack ≡ stack
no_stack-left layout stack s t instr uses low =
    let none : top_in layout t - top_in layout s ≡ 0 = omega (arith, low) in
    stack-passed layout s t instr stack uses
    ∙ ap (λ n. record { frames = stack.frames; written = with_marks false (range_with_len (top_in layout s) n) stack.written }) none

pub no_stack-unmarked : (layout : Layout) (start s t : State) (instr : Instr) → UsesNoStack layout s instr
    → stack_after layout (Some instr) s t (first_stack layout start) ≡ first_stack layout start
no_stack-unmarked layout start s t instr uses =
    stack-passed layout s t instr (first_stack layout start) uses
    ∙ ap (λ written. record (first_stack layout start) { written = written })
    (none-left (range_with_len (top_in layout s) (top_in layout t - top_in layout s)) 65536)

-- Runs that use no stack.

module _ (program : Program) where
  abbrev layout : Layout
  layout = program.layout

  -- a step of a run at whose start nothing is marked
  next-stays : (w : Watch) (start : State) → w.stage ≡ InProcedures (first_stack layout start)
      → NextUsesNoStack layout w.machine
      → (watch_step program w).stage ≡ InProcedures (first_stack layout start)
  next-stays w start stage uses =
      elim (is_over w.machine.end) as (λ b. is_over w.machine.end ≡ b
      → (if b || is_foul w then w else made layout (next_foul program w) w).stage ≡ InProcedures (first_stack layout start)) [
        | true ↦ λ over. stage
        | false ↦ λ running.
            elim (next_instruction layout.cpu w.machine) as (λ found. next_instruction layout.cpu w.machine ≡ found
            → (if is_foul w then w else made layout (next_foul program w) w).stage ≡ InProcedures (first_stack layout start)) [
              | None ↦ λ none. gone None none refl refl
              | Some instr ↦ λ some. gone (Some instr) some (no_stack-clean program (first_stack layout start) w.machine instr (uses running instr some))
                  (no_stack-unmarked layout start w.machine (step layout.cpu w.machine) instr (uses running instr some))
            ] refl
      ] refl
    where
      gone : (found : Option Instr) → next_instruction layout.cpu w.machine ≡ found
          → foul_of program (first_stack layout start) w.machine found ≡ None
          → stack_after layout found w.machine (step layout.cpu w.machine) (first_stack layout start) ≡ first_stack layout start
          → (if is_foul w then w else made layout (next_foul program w) w).stage ≡ InProcedures (first_stack layout start)
      gone found is clean same =
          ap (λ stage. (if is_foul (record w { stage = stage }) then record w { stage = stage } else made layout (next_foul program (record w { stage = stage })) (record w { stage = stage })).stage) stage
          ∙ ap (λ f. (made layout (foul_of program (first_stack layout start) w.machine f) (record w { stage = InProcedures (first_stack layout start) })).stage) is
          ∙ ap (λ foul. (made layout foul (record w { stage = InProcedures (first_stack layout start) })).stage) clean
          ∙ ap (λ f. InProcedures (stack_after layout f w.machine (step layout.cpu w.machine) (first_stack layout start))) is
          ∙ ap InProcedures same

module _ (program : Program) (image : Image) (input : List ℕ) (loaded : IsLoaded image) (has : HasLayout image program.layout) where
  abbrev begins : ℕ
  begins = length has.prelude

  abbrev watch_at : ℕ → Watch
  watch_at k = state (watched_machine program) k (first_watch image input)

  abbrev began : Stack
  began = first_stack program.layout (machine_state program image input begins)

  going : (w : Watch) (stack : Stack) → w.stage ≡ InProcedures stack → is_foul w ≡ false
  going w stack stage = ap (λ s. is_foul (record w { stage = s })) stage

  stays-by : (d : ℕ)
      → ((k : ℕ) → begins ≤ k → k < begins + d → NextUsesNoStack program.layout (machine_state program image input k))
      → stage_at program image input (begins + d) ≡ InProcedures began
  stays-by zero uses =
      let e : begins + 0 ≡ begins = omega arith in ap (stage_at program image input) e ∙ past_the_prelude image program loaded has input
  stays-by (suc d) uses =
      let e : begins + suc d ≡ suc (begins + d) = omega arith in
      let before = stays-by d (λ k low high. uses k low (omega (arith, high))) in
      let here : (watch_at (begins + d)).machine ≡ machine_state program image input (begins + d) =
      machine_after program (begins + d) (first_watch image input) (going (watch_at (begins + d)) began before) in
      ap (stage_at program image input) e
      ∙ ap (λ (w : Watch). w.stage) (next-watch image program loaded has input (begins + d))
      ∙ next-stays program (watch_at (begins + d)) (machine_state program image input begins) before
      (subst (NextUsesNoStack program.layout) (sym here) (uses (begins + d) (omega arith) (omega arith)))

  stays-first : (n : ℕ) → begins ≤ n
      → ((k : ℕ) → begins ≤ k → k < n → NextUsesNoStack program.layout (machine_state program image input k))
      → stage_at program image input n ≡ InProcedures began
  stays-first n le uses =
      let e : begins + (n - begins) ≡ n = omega (arith, le) in
      subst (λ m. stage_at program image input m ≡ InProcedures began) e
      (stays-by (n - begins) (λ k low high. uses k low (omega (arith, high, e))))

  clean-first : (n : ℕ)
      → ((k : ℕ) → begins ≤ k → k < n → NextUsesNoStack program.layout (machine_state program image input k))
      → is_foul (watch_at n) ≡ false
  clean-first n uses = elim (cases_lt n begins) [
    | inl before ↦ prelude_clean image program loaded has input n (omega (arith, before))
    | inr le ↦ going (watch_at n) began (stays-first n le uses)
  ]

pub no_stack-clean_run : WhatUsesNoStackIsClean
no_stack-clean_run = record {
  clean = no_stack-clean;
  frames = λ layout stack s t instr uses. frames-stay instr.op (top_in layout s) stack.frames uses.frames;
  left = no_stack-left;
  unmarked = no_stack-unmarked;
  stays = λ program image input n loaded has le uses. stays-first program image input loaded has n le uses;
  run = λ cpu image input n loaded uses program is. clean-first program image input loaded is.layout n (uses program is.runs_on is.layout);
}
