-- A clean step leads from a stack that stands to one that does.
use Rattle.std.proofs.Common.{◌≡◌, ◌≢◌, inr, ℕ, ◌+◌, ◌-◌, ◌*◌, ◌%◌, ◌<◌, ◌≤◌, true, false, List, [], ◌∷◌, map, drop, Some, None, Contains, refl, sym, ap, ◌∙◌, subst, arith}
use Rattle.std.specs.Prelude.{pos, ◌+ℤ◌, ◌-ℤ◌, int_lt, slice_index}
use Rattle.std.proofs.lemmas.Int.{ints}
use Rattle.std.proofs.Math.Nat.{mod-eq_of_lt}
use Rattle.dcc_run.specs.End.{is_over}
use Rattle.dcc_num.specs.declared.Reg.TheVariants.{Sp, Bp}
use Rattle.dcc_num.specs.declared.Half.TheVariants.{Low}
use Rattle.dcc_machine.specs.declared.cpu.Cpu.{Cpu}
use Rattle.dcc_machine.specs.declared.segment.TheConstants.{CS, SS, DS}
use Rattle.dcc_machine.specs.declared.image.Image.{Image}
use Rattle.dcc_prog.specs.declared.procedure.Layout.{Layout}
use Rattle.dcc_prog.specs.declared.frame.Program.{Program}
use Rattle.dcc_machine.specs.declared.instr.Op.{Op}
use Rattle.dcc_machine.specs.declared.instr.Op.TheVariants.{Push, Enter, Call, Ret}
use Rattle.dcc_machine.specs.declared.instr.Instr.{Instr}
use Rattle.dcc_machine.specs.Machine.{State, word_in, stack_segment, physical}
use Rattle.dcc_machine.specs.Step.{code_bytes, op_step, step}
use Rattle.dcc_machine.specs.StateForm.{IsState}
use Rattle.dcc_machine.specs.Successors.{next_of, op_successors}
use Rattle.dcc_prog.specs.Trail.{instruction_in, StandsAt, known_ah, instr_successors, targets_of, successors, called as called_entry}
use Rattle.dcc_prog.specs.Height.{MovesHeight, entered}
use Rattle.dcc_prog.specs.RunLaws.{HasPassed, begun, stepped, returned}
use Rattle.dcc_machine.specs.Access.{found_accesses}
use Rattle.dcc_prog.specs.Clean.{LiveFrame, Stack, top_in, is_marked, foul_of, frames_after, stack_after}
use Rattle.dcc_prog.specs.CleanLaws.{moves_frames}
use Rattle.dcc_prog.specs.Watch.{next_instruction}
use Rattle.dcc_machine.proofs.FetchLaws.{image-placed}
use Rattle.dcc_machine.proofs.StateKept.{same-state, states-kept}
use Rattle.dcc_machine.proofs.LocationKept.{or-none, word-taken, word-other}
use Rattle.dcc_stack.specs.Accepted.{IsAt, IsForm, enters, returns, moves, keeps, IsProgramOfFile, IsNodeOf, AcceptedProgramsAreInForm}
use Rattle.dcc_stack.specs.Standing.{Activation, word_at, HoldsBp, outside, StandsIn, Stand, called, HoldsSegments, StackStands}
use Rattle.dcc_stack.specs.Apart.{is_pushing, DifferApart, CleanStepsWriteApart}
use Rattle.dcc_stack.specs.Tables.{RunsFollowTrails}
use Rattle.dcc_stack.specs.Laws.{at_next, newest_at, activations_after, StandsAfter, CleanStepsStand}
use Rattle.dcc_stack.proofs.ApartFrames.{newest-stands}
use Rattle.dcc_stack.proofs.ApartAccesses.{clean-step}
use Rattle.dcc_stack.proofs.TableSteps.{IsStepOf, step-of}
use Rattle.dcc_stack.proofs.StepSegments.{op-segs, instruction-spared}
use Rattle.dcc_stack.proofs.StepMemory.{IsStackWord, word-read, pushed-sp, word-pushed, differs}
use Rattle.dcc_stack.proofs.StepFrames.{stand-few, base-below, stand-renewed, is-awaited, bp-begun, bp-left}
use Rattle.dcc_stack.proofs.StepMarks.{marks-above}
use Rattle.dcc_stack.proofs.StepInner.{push-height, enter-height, call-height, OpStep, stands-there, word-within, inner-lands, inner-bp}

-- The stack that is kept beside the machine.

frames-stay : (op : Op) (top : ℕ) (frames : List LiveFrame) → moves_frames op ≡ false
    → frames_after op top frames ≡ frames
frames-stay (Call target) top frames apart = cc
frames-stay (Ret count) top frames apart = cc
frames-stay op top frames apart = refl

activations-go : (op : Op) (top bp next : ℕ) (activations : List Activation) → moves_frames op ≡ false
    → activations_after op top bp next activations ≡ newest_at next activations
activations-go (Call target) top bp next activations apart = cc
activations-go (Ret count) top bp next activations apart = cc
activations-go op top bp next activations apart = refl

-- a CALL goes on at the next instruction
call-successors :
    (image : Image) (layout : Layout) (at : ℕ) (before : List ℕ) (instr : Instr) (target : ℕ)
    → instruction_in image layout at ≡ Some instr → instr.op ≡ Call target
    → successors image layout (at ∷ before) ≡ next_of at instr ∷ []
call-successors image layout at before instr target found calls =
    ap (instr_successors image layout at before) found
    ∙ ap (λ o. op_successors o (next_of at instr) (known_ah image layout before) (targets_of image layout o before))
    calls

-- Kinds of operations.

-- a CALL, a RET or none of these
pub data FrameKind : Op → Type 0 where
  of_other : {op : Op} → moves_frames op ≡ false → FrameKind op
  of_call : {target : ℕ} → FrameKind (Call target)
  of_ret : {count : ℕ} → FrameKind (Ret count)

pub frame-kind : (op : Op) → FrameKind op
frame-kind (Call target) = of_call
frame-kind (Ret count) = of_ret
frame-kind op = of_other refl

ret-form :
    {image : Image} {layout : Layout} {entry at height count : ℕ} → IsForm image layout entry at height (Ret count)
    → (height ≡ 0) × (entry ≢ layout.start_ip)
ret-form (returns none inner) = (none, inner)
ret-form (moves lowers) = cc
ret-form (keeps apart sp bp) = cc

enter-form :
    {image : Image} {layout : Layout} {entry at height count : ℕ} → IsForm image layout entry at height (Enter count)
    → height ≡ 0
enter-form (enters framed first none few) = none
enter-form (moves lowers) = cc
enter-form (keeps apart sp bp) = let writes = sp Low in cc

-- what stores a word below SP moves SP below that
pushing-rises :
    {image : Image} {layout : Layout} {entry at height after : ℕ} (op : Op) → is_pushing op ≡ true
    → moves_frames op ≡ false → IsForm image layout entry at height op
    → MovesHeight image layout entry at op (pos height) (pos after) → height + 2 ≤ after
pushing-rises (Push a) pushing apart form m = let rises = push-height m in omega (arith, ints, rises)
pushing-rises (Enter count) pushing apart form m =
    let rises = enter-height m in
    let none = enter-form form in
    omega (arith, ints, rises, none)
pushing-rises (Call target) pushing apart form m = cc
pushing-rises op pushing apart form m = cc

-- The step.

-- a clean step that doesn't end the run
pub record GoesOnCleanly (cpu : Cpu) (image : Image) (program : Program) (s : State) (stack : Stack) : Type 0 where
  pub of_file : IsProgramOfFile cpu image program
  pub stands : StackStands image program.layout s stack
  pub running : is_over s.end ≡ false
  pub clean : foul_of program stack s (next_instruction program.layout.cpu s) ≡ None
  pub goes : is_over (step program.layout.cpu s).end ≡ false

module _ (form : AcceptedProgramsAreInForm) (apart : CleanStepsWriteApart) (cpu : Cpu) (image : Image)
    (program : Program) (s : State) (stack : Stack) (is : GoesOnCleanly cpu image program s stack) where
  abbrev layout : Layout
  layout = program.layout

  abbrev newest : Activation
  newest = is.stands.newest

  abbrev after : State
  after = step layout.cpu s

  here : StandsIn image layout s.memory newest (top_in layout s) (word_in s Bp)
  here = newest-stands image layout s.memory is.stands.stand

  node : IsNodeOf image layout newest.frame.entry newest.at newest.before here.height
  node = form.nodes cpu image program newest.frame.entry newest.at newest.before here.height is.of_file here.is_at

  abbrev instr : Instr
  instr = node.instr

  abbrev op : Op
  op = node.instr.op

  found : instruction_in image layout s.ip ≡ Some instr
  found = ap (instruction_in image layout) (sym is.stands.place) ∙ node.stands

  fetched : next_instruction layout.cpu s ≡ Some instr
  fetched = apart.fetched cpu image program s instr is.of_file is.stands.segments found

  clean : foul_of program stack s (Some instr) ≡ None
  clean = ap (foul_of program stack s) (sym fetched) ∙ is.clean

  -- what is to be shown
  abbrev IsAfter : Type 0
  IsAfter = StandsAfter image program s stack is.stands

  abbrev activations : List Activation
  activations = newest ∷ is.stands.callers

  abbrev next : State
  next = record s { ip = next_of s.ip instr }

  taken : IsStepOf image layout is.of_file.loaded s.ip instr s
  taken =
      step-of image layout is.of_file.loaded s.ip s instr is.stands.segments.state refl is.running
      is.stands.segments.code found

  differ :
      DifferApart image layout (newest ∷ is.stands.callers) (top_in layout s) op s.memory
      after.memory
  differ = differs apart cpu image program s stack instr is.of_file is.stands is.running found fetched clean

  carried :
      Stand image layout after.memory (newest ∷ is.stands.callers) (top_in layout s) (word_in s Bp)
  carried =
      apart.stands image layout (newest ∷ is.stands.callers) (top_in layout s) (word_in s Bp)
      op s.memory after.memory is.stands.low differ is.stands.stand

  -- the segments and the code

  segs-stay : after.segs ≡ s.segs
  segs-stay =
      ap (λ u. u.segs) taken.is
      ∙ op-segs layout.cpu op s.ip next
      (instruction-spared layout.cpu s.ip (code_bytes s) instr fetched node.no_system)

  code-address : (at : ℕ) → at < layout.code_end → physical image.cs at ≡ image.cs * 16 + at
  code-address at within =
      let placed = image-placed is.of_file.loaded.file image is.of_file.loaded.is_image in
      let end = is.of_file.is_program.layout.left.code_end in
      let below : image.cs * 16 + at < 1048576 = omega (arith, placed.high, placed.short, end, within) in
      mod-eq_of_lt below

  next-state : IsState next
  next-state = same-state s next refl refl refl refl is.stands.segments.state

  segments-stay : HoldsSegments image layout after
  segments-stay =
      let was = is.stands.segments in
      record {
        state = states-kept.step layout.cpu s was.state;
        code = record {
          segment = ap (λ l. slice_index l CS) segs-stay ∙ was.code.segment;
          bytes = λ at within.
              ap (slice_index after.memory) (code-address at within)
              ∙ apart.code cpu image program (newest ∷ is.stands.callers) (top_in layout s) op s.memory
              after.memory at is.of_file within differ
              ∙ ap (slice_index s.memory) (sym (code-address at within)) ∙ was.code.bytes at within;
        };
        data_is = ap (λ l. slice_index l DS) segs-stay ∙ was.data_is;
        stack_is = ap (λ l. slice_index l SS * 16) segs-stay ∙ was.stack_is;
      }

  step-is : OpStep image layout newest here.height s after op
  step-is = record {
    instr = instr;
    found = node.stands;
    op_is = refl;
    place = is.stands.place;
    good = taken.good;
    state = next-state;
    is = taken.is;
    clean = (clean-step program stack s instr clean).low;
    top = here.top_is;
    low = is.stands.low;
    below = base-below is.stands.stand;
    fits = is.of_file.is_program.layout.small.hi_fits;
    segment = is.stands.segments.stack_is;
    ds_fits = is.of_file.is_program.layout.small.ds_fits;
    holds = here.holds;
  }

  -- what is kept beside the machine

  marked-above :
      (is_pushing op ≡ true → top_in layout after + 2 ≤ top_in layout s) → (offset : ℕ)
      → is_marked (stack_after layout (Some instr) s after stack).written offset ≡ true
      → top_in layout after ≤ offset
  marked-above falls =
      marks-above image layout (newest ∷ is.stands.callers) op (found_accesses (Some instr) s) s after
      stack.written is.stands.written
      (apart.writes cpu image program s stack instr is.of_file is.stands is.running found clean) falls

  -- what stands after the step, from its parts
  stands-after :
      (a : Activation) (callers : List Activation)
      → map (λ (b : Activation). b.frame) (a ∷ callers) ≡ frames_after op (top_in layout s) stack.frames
      → a.at ≡ after.ip → HasPassed image layout a.before after
      → Stand image layout after.memory (a ∷ callers) (top_in layout after) (word_in after Bp)
      → layout.lo ≤ top_in layout after
      → (is_pushing op ≡ true → top_in layout after + 2 ≤ top_in layout s)
      → a ∷ callers ≡ activations_after op (top_in layout s) (word_in s Bp) after.ip activations
      → IsAfter
  stands-after a callers frames place passed stand low falls are =
      let both =
      subst (λ o.
      (u : StackStands image layout after (stack_after layout o s after stack))
      × (u.newest ∷ u.callers ≡ activations_after op (top_in layout s) (word_in s Bp) after.ip activations))
      (sym fetched) (
        record {
          segments = segments-stay;
          newest = a;
          callers = callers;
          frames = frames;
          place = place;
          passed = passed;
          stand = stand;
          low = low;
          written = marked-above falls;
        },
        are,
      ) in
      record { instr = instr; found = fetched; after = both.0; activations = both.1 }

  -- an operation other than CALL and RET
  inner-step : RunsFollowTrails → moves_frames op ≡ false → IsAfter
  inner-step trails same_frames =
      let entry = newest.frame.entry in
      let not_call : (target : ℕ) → ¬ (op ≡ Call target) =
      λ target e. let clash = sym (ap moves_frames e) ∙ same_frames in cc in
      let not_ret : (count : ℕ) → ¬ (op ≡ Ret count) =
      λ count e. let clash = sym (ap moves_frames e) ∙ same_frames in cc in
      let there : StandsAt image layout newest.at op = stands-there step-is in
      let going =
      form.moved cpu image program entry newest.at newest.before here.height op is.of_file here.is_at there not_ret in
      let risen : ℕ = going.0 in
      let lands = inner-lands step-is risen node.form same_frames going.1 in
      let was = newest-stands image layout after.memory carried in
      let same : was.height ≡ here.height = omega (arith, was.top_is, here.top_is) in
      let holds =
      inner-bp step-is risen node.form same_frames going.1
      (form.stays cpu image program entry newest.at newest.before here.height risen op is.of_file here.is_at there
      going.1)
      (subst (λ h. HoldsBp image layout after.memory newest h (word_in s Bp)) same was.holds) in
      let onward =
      trails.goes_on cpu image program entry newest.at newest.before s instr (pos here.height) is.of_file here.is_at
      is.stands.passed (sym is.stands.place) is.running is.stands.segments.code node.stands not_call not_ret is.goes in
      let is_at =
      form.goes_on cpu image program entry newest.at after.ip newest.before op (pos here.height) (pos risen) is.of_file
      here.is_at there going.1 onward in
      stands-after (at_next newest after.ip) is.stands.callers
      (is.stands.frames ∙ sym (frames-stay op (top_in layout s) stack.frames same_frames)) refl
      (stepped is.stands.passed (sym is.stands.place) is.running is.stands.segments.code node.stands)
      (stand-renewed after.ip (top_in layout after) (word_in after Bp) carried
      (record { height = risen; is_at = is_at; top_is = lands.top; holds = holds })) lands.low
      (λ pushing.
      let rises = pushing-rises op pushing same_frames node.form going.1 in
      omega (arith, rises, lands.top, here.top_is))
      (sym (activations-go op (top_in layout s) (word_in s Bp) after.ip activations same_frames))

  -- a CALL
  call-step : (target : ℕ) → op ≡ Call target → IsAfter
  call-step target e =
      let it : OpStep image layout newest here.height s after (Call target) =
      subst (OpStep image layout newest here.height s after) e step-is in
      let top = top_in layout s in
      let bounds =
      or-none (int_lt (pos (word_in s Sp) -ℤ pos 2) (pos 0))
      (int_lt ((pos (word_in s Sp) -ℤ pos 2) +ℤ pos layout.delta) (pos layout.lo)) it.clean in
      let room = bounds.0 in
      let sp : ℕ = word_in s Sp - 2 in
      let falls : sp + 2 ≡ word_in s Sp = omega (arith, ints, room) in
      let call_is : after ≡ op_step layout.cpu (Call target) s.ip next =
      taken.is ∙ ap (λ o. op_step layout.cpu o s.ip next) e in
      let to_sp : word_in after Sp ≡ sp = ap (λ u. word_in u Sp) call_is ∙ pushed-sp next.ip sp next next-state falls in
      let low : layout.lo ≤ top_in layout after =
      let above = bounds.1 in omega (arith, ints, above, to_sp, falls) in
      let bp : word_in after Bp ≡ word_in s Bp =
      ap (λ u. word_in u Bp) call_is ∙ word-other next Sp Bp ((word_in s Sp + 65534) % 65536) refl in
      let base : top - 2 ≡ sp + layout.delta = omega (arith, falls) in
      let return : word_at layout after.memory (top - 2) ≡ next_of newest.at instr =
      ap (word_at layout after.memory) base
      ∙ ap (λ u. word_at layout u.memory (sp + layout.delta)) call_is
      ∙ word-pushed layout next sp next.ip next-state falls (word-within it sp (omega (arith, falls, here.top_is)))
      ∙ ap (λ n. next_of n instr) (sym is.stands.place) in
      let callee : Activation =
      record { frame = record { entry = target; base = top }; at = target; before = []; caller_bp = word_in s Bp } in
      let there : StandsAt image layout newest.at (Call target) = (instr, node.stands, e) in
      let begun_at : IsAt image layout target target [] (pos 0) = record {
        is_entry = called_entry here.is_at.is_entry (record { before = newest.before; trail = here.is_at.trail }) there;
        trail = refl;
        gives = entered;
      } in
      let pushes_it : top_in layout after + 2 ≡ top = omega (arith, to_sp, falls) in
      stands-after callee (newest ∷ is.stands.callers)
      (ap (λ frames. callee.frame ∷ frames) is.stands.frames ∙ sym (ap (λ o. frames_after o top stack.frames) e))
      (sym (ap (λ u. u.ip) call_is)) (begun after segments-stay.state)
      (called
      (record { height = 0; is_at = begun_at; top_is = omega (arith, pushes_it); holds = outside (inr refl) bp })
      (record {
        instr = instr;
        stands = node.stands;
        calls = e;
        return = return;
        state = s;
        passed = is.stands.passed;
      }) carried) low (λ pushing. omega (arith, pushes_it))
      (sym (ap (λ o. activations_after o top (word_in s Bp) after.ip activations) e))

  -- a RET
  return-step : (count : ℕ) → op ≡ Ret count → IsAfter
  return-step count e =
      let top = top_in layout s in
      let ret = ret-form (subst (IsForm image layout newest.frame.entry newest.at here.height) e node.form) in
      let none = ret.0 in
      let ret_is : after ≡ op_step layout.cpu (Ret count) s.ip next =
      taken.is ∙ ap (λ o. op_step layout.cpu o s.ip next) e in
      let await = is-awaited carried ret.1 in
      let caller = await.caller in
      let there : StandsAt image layout caller.at (Call newest.frame.entry) =
      (await.waits.instr, await.waits.stands, await.waits.calls) in
      let was = newest-stands image layout after.memory await.stand in
      let going =
      form.moved cpu image program caller.frame.entry caller.at caller.before was.height (Call newest.frame.entry)
      is.of_file was.is_at there (λ n other. cc) in
      let risen : ℕ = going.0 in
      let removal = call-height going.1 in
      let same : removal.0 ≡ count =
      form.removed cpu image program newest.frame.entry newest.at count removal.0 newest.before (pos here.height)
      is.of_file here.is_at (instr, node.stands, e) removal.1 in
      let falls : risen + count ≡ was.height = let fallen = removal.2 in omega (arith, ints, fallen, same) in
      let deep = stand-few await.stand in
      let below = base-below await.stand in
      let fits = is.of_file.is_program.layout.small.hi_fits in
      let inside : IsStackWord layout (stack_segment s) (word_in s Sp) = record {
        stack_is = is.stands.segments.stack_is;
        low = is.of_file.is_program.layout.small.ds_fits;
        inside = omega (arith, deep, fits, here.top_is, none);
      } in
      let base : top ≡ newest.frame.base - 2 = omega (arith, here.top_is, none) in
      let to_ip : after.ip ≡ next_of caller.at await.waits.instr =
      ap (λ u. u.ip) ret_is ∙ word-read layout next (word_in s Sp) inside
      ∙ ap (λ u. word_at layout u.memory top) (sym ret_is) ∙ ap (word_at layout after.memory) base
      ∙ await.waits.return in
      let to_sp : word_in after Sp ≡ word_in s Sp + (2 + count) =
      let small : word_in s Sp + (2 + count) < 65536 =
      omega (arith, below, fits, was.top_is, here.top_is, none, falls) in
      ap (λ u. word_in u Sp) ret_is
      ∙ word-taken next Sp Sp ((word_in s Sp + (2 + count)) % 65536) next-state.registers.count refl
      ∙ mod-eq_of_lt small in
      let bp : word_in after Bp ≡ newest.caller_bp =
      ap (λ u. word_in u Bp) ret_is ∙ word-other next Sp Bp ((word_in s Sp + (2 + count)) % 65536) refl
      ∙ bp-begun here.holds none in
      let onward : Contains (successors image layout (caller.at ∷ caller.before)) after.ip =
      subst (λ l. Contains l after.ip)
      (sym (call-successors image layout caller.at caller.before await.waits.instr newest.frame.entry await.waits.stands
      await.waits.calls))
      (0, omega arith, sym to_ip) in
      let is_at =
      form.goes_on cpu image program caller.frame.entry caller.at after.ip caller.before (Call newest.frame.entry)
      (pos was.height) (pos risen) is.of_file was.is_at there going.1 onward in
      let holds =
      bp-left (Call newest.frame.entry) after.ip risen (λ other. cc) there (λ framed.
      form.stays cpu image program caller.frame.entry caller.at caller.before was.height risen (Call newest.frame.entry)
      is.of_file was.is_at there going.1 framed refl) was.holds in
      stands-after (at_next caller after.ip) await.older
      (ap (map (λ (b : Activation). b.frame)) (sym await.are) ∙ ap (drop 1) is.stands.frames
      ∙ sym (ap (λ o. frames_after o top stack.frames) e)) refl
      (returned await.waits.passed there after segments-stay.state)
      (stand-renewed after.ip (top_in layout after) (word_in after Bp) await.stand
      (record {
        height = risen;
        is_at = is_at;
        top_is = omega (arith, to_sp, here.top_is, none, was.top_is, falls);
        holds = subst (HoldsBp image layout after.memory (at_next caller after.ip) risen) (sym bp) holds;
      })) (omega (arith, to_sp, is.stands.low))
      (λ pushing. let other = sym (ap is_pushing e) ∙ pushing in cc)
      (sym (ap (λ o. activations_after o top (word_in s Bp) after.ip activations) e
      ∙ ap (newest_at after.ip) await.are))

  -- any operation
  pub any-step : RunsFollowTrails → IsAfter
  any-step trails = by op refl (frame-kind op)
    where
      by :
          (other : Op) → op ≡ other → FrameKind other
          → IsAfter
      by other e (of_other apart') = inner-step trails (ap moves_frames e ∙ apart')
      by _ e (of_call {target}) = call-step target e
      by _ e (of_ret {count}) = return-step count e

pub clean-steps-stand :
    AcceptedProgramsAreInForm → CleanStepsWriteApart → RunsFollowTrails → CleanStepsStand
clean-steps-stand form apart trails cpu image program s stack of_file stands running clean goes =
    any-step form apart cpu image program s stack
    (record { of_file = of_file; stands = stands; running = running; clean = clean; goes = goes }) trails
