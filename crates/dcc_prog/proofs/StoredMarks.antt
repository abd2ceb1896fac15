-- In every run that isn't stopped just the bytes are marked that its steps have stored since SP last left them behind.
use Rattle.std.proofs.Common.{◌≡◌, ℕ, zero, suc, ◌+◌, ◌-◌, ◌*◌, ◌%◌, ◌<◌, ◌≤◌, ◌⊎◌, inl, inr, true, false, List, [], ◌∷◌, length, take, drop, Option, Some, None, Contains, refl, sym, ap, ap₂, ◌∙◌, subst, arith, leb-true, leb-false}
use Rattle.std.proofs.lemmas.Bool.{cases_lt}
use Rattle.std.proofs.lemmas.List.{length-replicate}
use Rattle.std.proofs.lemmas.Option.{slice_get-get_or}
use Rattle.std.proofs.Math.Nat.{mod-eq_of_lt}
use Rattle.std.specs.Prelude.{filter, flat_map, ◌↔◌, ◌||◌, ◌&&◌, not, nat_le, slice_get, get_or, if◌then◌else◌}
use Rattle.std.specs.List.{filter_map, cons_option}
use Rattle.dcc_run.specs.End.{is_over}
use Rattle.dcc_run.specs.System.{after}
use Rattle.dcc_run.specs.Watched.{state}
use Rattle.dcc_run.proofs.RunLaws.{after-add}
use Rattle.dcc_machine.specs.declared.image.Image.{Image}
use Rattle.dcc_prog.specs.declared.procedure.Layout.{Layout}
use Rattle.dcc_prog.specs.declared.frame.Program.{Program}
use Rattle.dcc_machine.specs.declared.instr.Alu.TheVariants.{Add, Sub}
use Rattle.dcc_machine.specs.declared.instr.Shift.TheVariants.{Shl}
use Rattle.dcc_machine.specs.declared.instr.Plain.TheVariants.{Nop, Cli, Sti, Cld}
use Rattle.dcc_machine.specs.declared.instr.Operand.TheVariants.{Word, Byte, Seg, Const}
use Rattle.dcc_machine.specs.declared.instr.Op.{Op}
use Rattle.dcc_machine.specs.declared.instr.Op.TheVariants.{Alu as AluOp, Shift as ShiftOp, Mov, Plain as PlainOp}
use Rattle.dcc_machine.specs.declared.instr.Instr.{Instr}
use Rattle.dcc_machine.specs.MzImage.{IsLoaded}
use Rattle.dcc_machine.specs.Code.{code_of}
use Rattle.dcc_machine.specs.Table.{instruction_at}
use Rattle.dcc_machine.specs.Machine.{State, code_segment, start_state}
use Rattle.dcc_machine.specs.Step.{instruction_step, step}
use Rattle.dcc_prog.specs.Layout.{is_prelude_form, HasLayout}
use Rattle.dcc_machine.specs.Access.{accesses, addresses_of, found_accesses, step_accesses}
use Rattle.dcc_prog.specs.Clean.{Stack, Foul, stack_offset, stored_bytes, is_reading, is_marked, stack_after, first_stack}
use Rattle.dcc_prog.specs.Watch.{Stage, InProcedures, Stopped, Watch, stage_after, next_instruction, next_foul, is_foul, made, watch_step, watched_machine, first_watch}
use Rattle.dcc_prog.specs.CleanLaws.{machine_after as machine_state, stage_at, IsStoredBy, IsLeftBehind, IsStoredSince, StoredBytesAreMarked}
use Rattle.dcc_machine.proofs.FetchLaws.{IsPlaced, image-placed, length-code_of, start-holds, code-kept, fetched-whole}
use Rattle.dcc_prog.proofs.PreludeLaws.{form-inside}
use Rattle.dcc_prog.proofs.PreludeSteps.{executed, executed-code, at_offset}
use Rattle.dcc_prog.proofs.PreludeOffsets.{offset_in, run-taken, form-at}
use Rattle.dcc_prog.proofs.WatchLaws.{IsBefore, at_start, in_prelude, machine_watchable, machine_after, next-watch, prelude_state, before_its_end, past_the_prelude}
use Rattle.dcc_prog.proofs.StackMarks.{head_or_rest, marked-within, none-marked, left-or_not, MarksGo, marks-go, marks-stay}

-- Stored bytes lie in the stack.

offset-below : (layout : Layout) (address offset : ℕ) → stack_offset layout address ≡ Some offset → offset < layout.hi
offset-below layout address offset is =
    elim (nat_le low address) as (λ b. nat_le low address ≡ b → (if b && not (nat_le high address) then Some (address - layout.ds * 16) else None) ≡ Some offset → offset < layout.hi) [
      | false ↦ λ below none. cc
      | true ↦ λ above some. elim (nat_le high address) as (λ b. nat_le high address ≡ b → (if true && not b then Some (address - layout.ds * 16) else None) ≡ Some offset → offset < layout.hi) [
        | true ↦ λ beyond none. cc
        | false ↦ λ within found.
            let from : low ≤ address = leb-true low address above in
            let less : address < high = leb-false high address within in
            let is : address - layout.ds * 16 ≡ offset = cc in
            omega (arith, from, less, is)
      ] refl some
    ] refl is
  where
    low : ℕ
    low = layout.ds * 16 + layout.lo

    high : ℕ
    high = layout.ds * 16 + layout.hi

bytes-below : (layout : Layout) (addresses : List ℕ) (offset : ℕ)
    → Contains (filter_map (stack_offset layout) addresses) offset → offset < layout.hi
bytes-below layout [] offset (k, inside, is) = absurd (omega (arith, inside))
bytes-below layout (address ∷ rest) offset has =
    elim (stack_offset layout address) as (λ o. stack_offset layout address ≡ o → Contains (cons_option o (filter_map (stack_offset layout) rest)) offset → offset < layout.hi) [
      | None ↦ λ none later. bytes-below layout rest offset later
      | Some first ↦ λ some later. elim (head_or_rest first offset (filter_map (stack_offset layout) rest) later) [
        | inl same ↦ subst (λ n. n < layout.hi) same (offset-below layout address first some)
        | inr further ↦ bytes-below layout rest offset further
      ]
    ] refl has

-- The prelude stores nothing.

form-untouching : (op : Op) (s : State) → is_prelude_form op ≡ true → accesses op s ≡ []
form-untouching (Mov (Word r) (Const width c)) s h = refl
form-untouching (Mov (Byte r half) (Const width c)) s h = refl
form-untouching (Mov (Word r) (Word q)) s h = refl
form-untouching (Mov (Byte r half) (Byte q part)) s h = refl
form-untouching (Mov (Word r) (Seg number)) s h = refl
form-untouching (Mov (Seg number) (Word r)) s h = refl
form-untouching (AluOp Add (Word r) (Word q)) s h = refl
form-untouching (AluOp Add (Word r) (Const width c)) s h = refl
form-untouching (AluOp Sub (Word r) (Word q)) s h = refl
form-untouching (AluOp Sub (Word r) (Const width c)) s h = refl
form-untouching (ShiftOp Shl (Word r) count) s h = refl
form-untouching (PlainOp Nop) s h = refl
form-untouching (PlainOp Cli) s h = refl
form-untouching (PlainOp Sti) s h = refl
form-untouching (PlainOp Cld) s h = refl
form-untouching _ s h = cc

-- A step.

-- the run is past the prelude
data IsPast : Stage → Type 0 where
  inside : {stack : Stack} → IsPast (InProcedures stack)
  stopped : {foul : Foul} → IsPast (Stopped foul)

module _ (layout : Layout) where
  found-marks : (found : Option Instr) (s : State) (stack : Stack)
      → MarksGo layout (found_accesses found s) s (instruction_step layout.cpu found s) stack.written
      (stack_after layout found s (instruction_step layout.cpu found s) stack).written
  found-marks None s stack = marks-stay layout s (instruction_step layout.cpu None s) stack.written refl
  found-marks (Some instr) s stack =
      marks-go layout (found_accesses (Some instr) s) s (instruction_step layout.cpu (Some instr) s) stack.written

  past-after : (found : Option Instr) (s t : State) (stage : Stage) → IsPast stage
      → IsPast (stage_after layout found s t stage)
  past-after found s t stage inside = inside
  past-after found s t stage stopped = stopped

module _ (program : Program) where
  abbrev layout : Layout
  layout = program.layout

  past-made : (w : Watch) (foul : Option Foul) → IsPast w.stage → IsPast (made layout foul w).stage
  past-made w None past =
      past-after layout (next_instruction layout.cpu w.machine) w.machine (step layout.cpu w.machine) w.stage past
  past-made w (Some foul) past = stopped

  past-step : (w : Watch) → IsPast w.stage → IsPast (watch_step program w).stage
  past-step w past =
      elim (is_over w.machine.end || is_foul w) as (λ b. IsPast (if b then w else made layout (next_foul program w) w).stage) [
        | true ↦ past
        | false ↦ past-made w (next_foul program w) past
      ]

  -- the watch of a run in procedures
  abbrev within : State → Stack → Watch
  within s stack = record { machine = s; stage = InProcedures stack }

  abbrev found_at : State → Option Instr
  found_at s = next_instruction layout.cpu s

  marks-made : (s : State) (stack after : Stack) (foul : Option Foul) → is_over s.end ≡ false
      → (made layout foul (within s stack)).stage ≡ InProcedures after
      → MarksGo layout (found_accesses (found_at s) s) s (instruction_step layout.cpu (found_at s) s) stack.written after.written
  marks-made s stack after (Some foul) running went = cc
  marks-made s stack after None running went =
      let made_is : InProcedures (stack_after layout (found_at s) s (instruction_step layout.cpu (found_at s) s) stack) ≡ InProcedures after =
      ap (λ b. InProcedures (stack_after layout (found_at s) s (if b then s else instruction_step layout.cpu (found_at s) s) stack)) (sym running)
      ∙ went in
      let same : stack_after layout (found_at s) s (instruction_step layout.cpu (found_at s) s) stack ≡ after = cc in
      subst (λ (k : Stack). MarksGo layout (found_accesses (found_at s) s) s (instruction_step layout.cpu (found_at s) s) stack.written k.written) same
      (found-marks layout (found_at s) s stack)

  -- what a step that isn't foul does to the marks
  step-marks : (s : State) (stack after : Stack) → (watch_step program (within s stack)).stage ≡ InProcedures after
      → MarksGo layout (step_accesses layout.cpu s) s (step layout.cpu s) stack.written after.written
  step-marks s stack after went =
      elim (is_over s.end) as (λ b. is_over s.end ≡ b
      → (if b || false then within s stack else made layout (next_foul program (within s stack)) (within s stack)).stage ≡ InProcedures after
      → MarksGo layout (if b then [] else found_accesses (found_at s) s) s (if b then s else instruction_step layout.cpu (found_at s) s) stack.written after.written) [
        | true ↦ λ over same.
            let e : stack ≡ after = cc in
            subst (λ (k : Stack). MarksGo layout [] s s stack.written k.written) e (marks-stay layout s s stack.written refl)
        | false ↦ λ running gone. marks-made s stack after (next_foul program (within s stack)) running gone
      ] refl went

-- Runs.

module _ (program : Program) (image : Image) (input : List ℕ) (loaded : IsLoaded image) (has : HasLayout image program.layout) where
  abbrev layout_of : Layout
  layout_of = program.layout

  abbrev begins : ℕ
  begins = length has.prelude

  abbrev run : ℕ → State
  run n = machine_state program image input n

  abbrev watch_at : ℕ → Watch
  watch_at n = state (watched_machine program) n (first_watch image input)

  placed : IsPlaced image
  placed = image-placed loaded.file image loaded.is_image

  -- the machine finds the prelude's instructions, one after another
  prelude-found : (k : ℕ) (instr : Instr) → k < begins → slice_get has.prelude k ≡ Some instr
      → next_instruction layout_of.cpu (run k) ≡ Some instr
  prelude-found k instr less there =
      let le : k ≤ begins = omega (arith, less) in
      let at : ℕ = offset_in k has.prelude image.ip in
      let r : State = executed layout_of.cpu (start_state image []) (take k has.prelude) in
      let is = form-at layout_of.cpu (code_of image) k has.prelude image.ip instr has.is_prelude.run there in
      let inside = form-inside layout_of.cpu (code_of image) at instr is in
      let low : at % 65536 ≡ at =
      let below : at < 65536 = omega (arith, inside.0, inside.1, length-code_of image placed, placed.short) in mod-eq_of_lt below in
      let found : instruction_at layout_of.cpu (at % 65536) (drop (at % 65536) (code_of image)) ≡ Some instr =
      ap (λ a. instruction_at layout_of.cpu a (drop a (code_of image))) low ∙ is.found in
      let code : code_segment r ≡ image.cs = executed-code layout_of.cpu (code_of image) image.ip (take k has.prelude) (start_state image [])
      (run-taken layout_of.cpu (code_of image) k has.prelude image.ip has.is_prelude.run) in
      let holds = code-kept image image.code_len (start_state image input) (at_offset image input r at) (start-holds image input placed) refl code in
      ap (λ (s : State). next_instruction layout_of.cpu s) (prelude_state image program loaded has input k le)
      ∙ fetched-whole layout_of.cpu image (at_offset image input r at) instr placed holds found

  prelude-untouching : (k : ℕ) → k < begins → step_accesses layout_of.cpu (run k) ≡ []
  prelude-untouching k less =
      let le : k ≤ begins = omega (arith, less) in
      let instr : Instr = get_or has.prelude k some_instruction in
      let there : slice_get has.prelude k ≡ Some instr = slice_get-get_or has.prelude k some_instruction less in
      let is = form-at layout_of.cpu (code_of image) k has.prelude image.ip instr has.is_prelude.run there in
      ap (λ b. if b then [] else found_accesses (next_instruction layout_of.cpu (run k)) (run k))
      (ap (λ (s : State). is_over s.end) (prelude_state image program loaded has input k le))
      ∙ ap (λ found. found_accesses found (run k)) (prelude-found k instr less there)
      ∙ form-untouching instr.op (record (run k) { ip = ((run k).ip + instr.len) % 65536 }) is.form
    where
      some_instruction : Instr
      some_instruction = record { op = PlainOp Nop; len = 1 }

  prelude-stores_none : (k offset : ℕ) → k < begins → IsStoredBy layout_of (run k) offset → ⊥
  prelude-stores_none k offset less has_it =
      let none = subst (λ l. Contains (stored_bytes layout_of l) offset) (prelude-untouching k less) has_it in
      let inside = none.1 in
      absurd (omega (arith, inside))

  stored-below : (k offset : ℕ) → IsStoredBy layout_of (run k) offset → offset < 65536
  stored-below k offset stored =
      let below = bytes-below layout_of (flat_map addresses_of (filter (λ access. not (is_reading access)) (step_accesses layout_of.cpu (run k)))) offset stored in
      omega (arith, below, has.small.hi_fits)

  -- after so many steps just the stored bytes are marked
  record AreMarked (n : ℕ) (stack : Stack) : Type 0 where
    size : length stack.written ≡ 65536
    marks : (offset : ℕ) → (is_marked stack.written offset ≡ true) ↔ IsStoredSince layout_of run n offset

  marked-next : (n : ℕ) (stack after : Stack) → AreMarked n stack
      → MarksGo layout_of (step_accesses layout_of.cpu (run n)) (run n) (run (suc n)) stack.written after.written
      → AreMarked (suc n) after
  marked-next n stack after are go = record { size = go.size ∙ are.size; marks = λ offset. (forth offset, back offset) }
    where
      since : (offset : ℕ) → ¬ IsLeftBehind layout_of (run n) (run (suc n)) offset
          → IsStoredBy layout_of (run n) offset ⊎ (is_marked stack.written offset ≡ true)
          → IsStoredSince layout_of run (suc n) offset
      since offset stands (inl stored) = record {
        at = n;
        before = omega arith;
        stored = stored;
        kept = λ k low high.
            let e : k ≡ n = omega (arith, low, high) in
            subst (λ m. ¬ IsLeftBehind layout_of (run m) (run (suc m)) offset) (sym e) stands;
      }
      since offset stands (inr was) =
          let x = (are.marks offset).0 was in
          record {
            at = x.at;
            before = omega (arith, x.before);
            stored = x.stored;
            kept = λ k low high. elim (cases_lt k n) [
              | inl less ↦ x.kept k low less
              | inr ge ↦
                  let e : k ≡ n = omega (arith, ge, high) in
                  subst (λ m. ¬ IsLeftBehind layout_of (run m) (run (suc m)) offset) (sym e) stands
            ];
          }

      forth : (offset : ℕ) → is_marked after.written offset ≡ true → IsStoredSince layout_of run (suc n) offset
      forth offset is = elim (left-or_not layout_of (run n) (run (suc n)) offset) [
        | inl left ↦
            let within : offset < length stack.written = omega (arith, marked-within after.written offset is, go.size) in
            let both = sym is ∙ go.left offset within left in
            absurd (cc)
        | inr stands ↦ since offset stands (go.from offset is)
      ]

      back : (offset : ℕ) → IsStoredSince layout_of run (suc n) offset → is_marked after.written offset ≡ true
      back offset x =
          let le : x.at ≤ n = omega (arith, x.before) in
          let stands = x.kept n le (omega arith) in
          elim (cases_lt x.at n) [
            | inl less ↦ go.kept offset ((are.marks offset).1 (record { at = x.at; before = less; stored = x.stored; kept = λ k low high. x.kept k low (omega (arith, high)) })) stands
            | inr ge ↦
                let e : x.at ≡ n = omega (arith, ge, le) in
                go.stored offset (omega (arith, stored-below x.at offset x.stored, are.size)) (subst (λ m. IsStoredBy layout_of (run m) offset) e x.stored) stands
          ]

  past-at : (d : ℕ) → IsPast (stage_at program image input (begins + d))
  past-at zero =
      let e : begins + 0 ≡ begins = omega arith in
      subst IsPast (sym (ap (stage_at program image input) e ∙ past_the_prelude image program loaded has input)) inside
  past-at (suc d) =
      let e : begins + suc d ≡ suc (begins + d) = omega arith in
      subst IsPast (sym (ap (stage_at program image input) e ∙ ap (λ (w : Watch). w.stage) (next-watch image program loaded has input (begins + d))))
      (past-step program (watch_at (begins + d)) (past-at d))

  marked-first : (stack : Stack) → stage_at program image input begins ≡ InProcedures stack → AreMarked begins stack
  marked-first stack e =
      let same = sym (past_the_prelude image program loaded has input) ∙ e in
      let is : first_stack layout_of (run begins) ≡ stack = cc in
      subst (AreMarked begins) is (record {
        size = length-replicate 65536 false;
        marks = λ offset. (
          (λ marked. let both = sym marked ∙ none-marked 65536 offset in absurd (cc)),
          (λ x. absurd (prelude-stores_none x.at offset x.before x.stored)),
        );
      })

  marked-by : (d : ℕ) (stack : Stack) → stage_at program image input (begins + d) ≡ InProcedures stack
      → AreMarked (begins + d) stack
  marked-by zero stack e =
      let none : begins + 0 ≡ begins = omega arith in
      subst (λ n. AreMarked n stack) (sym none) (marked-first stack (ap (stage_at program image input) (sym none) ∙ e))
  marked-by (suc d) stack e =
      go (stage_at program image input (begins + d)) refl (past-at d) (λ before here. marked-by d before here)
    where
      n : ℕ
      n = begins + d

      more : begins + suc d ≡ suc n
      more = omega arith

      -- from where the run stands one step before
      next-stage : (watch_step program (watch_at n)).stage ≡ InProcedures stack
      next-stage =
          sym (ap (stage_at program image input) more ∙ ap (λ (w : Watch). w.stage) (next-watch image program loaded has input n))
          ∙ e

      next-run : run (suc n) ≡ step layout_of.cpu (run n)
      next-run =
          let one : suc n ≡ n + 1 = omega arith in
          ap run one ∙ after-add (step layout_of.cpu) n 1 (start_state image input)

      go : (stage : Stage) → stage_at program image input n ≡ stage → IsPast stage
          → ((before : Stack) → stage_at program image input n ≡ InProcedures before → AreMarked n before)
          → AreMarked (begins + suc d) stack
      go stage here stopped earlier =
          let foul : is_foul (watch_at n) ≡ true = ap (λ s. is_foul (record { machine = (watch_at n).machine; stage = s })) here in
          let same = sym (ap (λ (w : Watch). w.stage) ((machine_watchable program).stays (watch_at n) foul) ∙ here) ∙ next-stage in
          absurd (cc)
      go stage here (inside {stack = before}) earlier =
          let going : is_foul (watch_at n) ≡ false = ap (λ s. is_foul (record { machine = (watch_at n).machine; stage = s })) here in
          let machine : (watch_at n).machine ≡ run n = machine_after program n (first_watch image input) going in
          let watch : watch_at n ≡ within program (run n) before = ap₂ (λ m s. record { machine = m; stage = s }) machine here in
          let went : (watch_step program (within program (run n) before)).stage ≡ InProcedures stack = sym (ap (λ w. (watch_step program w).stage) watch) ∙ next-stage in
          subst (λ m. AreMarked m stack) (sym more)
          (marked-next n before stack (earlier before here)
          (subst (λ t. MarksGo layout_of (step_accesses layout_of.cpu (run n)) (run n) t before.written stack.written) (sym next-run)
          (step-marks program (run n) before stack went)))

  -- before the prelude's end the run is in no procedure
  marked-at : (n : ℕ) (stack : Stack) → stage_at program image input n ≡ InProcedures stack → AreMarked n stack
  marked-at n stack e = elim (cases_lt n begins) [
    | inl less ↦ absurd (before-none (stage_at program image input n) (before_its_end image program loaded has input n less) e)
    | inr le ↦
        let sum : begins + (n - begins) ≡ n = omega (arith, le) in
        subst (λ m. stage_at program image input m ≡ InProcedures stack → AreMarked m stack) sum (marked-by (n - begins) stack) e
  ]
    where
      before-none : (stage : Stage) → IsBefore stage → stage ≡ InProcedures stack → ⊥
      before-none stage at_start e = cc
      before-none stage in_prelude e = cc

pub stored-marked : StoredBytesAreMarked
stored-marked program image input n stack loaded has e offset =
    (marked-at program image input loaded has n stack e).marks offset
