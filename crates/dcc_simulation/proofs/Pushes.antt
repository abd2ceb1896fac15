-- A PUSH: SP falls, and the word below it takes the operand in both runs.
use Rattle.std.proofs.Common.{◌≡◌, ◌≤◌, ◌<◌, inl, inr, ℕ, ◌+◌, ◌-◌, ◌%◌, Bool, true, false, [], ◌∷◌, ◌++◌, filter, Some, refl, sym, ap, ◌∙◌, subst, arith}
use Rattle.std.specs.Prelude.{pos, neg_ℤ, ◌+ℤ◌, ◌-ℤ◌, ◌<ℤ◌, not, if◌then◌else◌}
use Rattle.std.proofs.lemmas.Int.{ints}
use Rattle.dcc_run.specs.End.{is_over}
use Rattle.dcc_num.specs.declared.Width.TheVariants.{Word as word_width}
use Rattle.dcc_num.specs.declared.Reg.TheVariants.{Sp, Bp}
use Rattle.dcc_num.specs.Numbers.{limit_of}
use Rattle.dcc_machine.specs.declared.instr.Operand.{Operand}
use Rattle.dcc_machine.specs.declared.instr.Operand.TheVariants.{Word, Byte, Seg, Mem, Const}
use Rattle.dcc_machine.specs.declared.instr.Op.TheVariants.{Push}
use Rattle.dcc_machine.specs.declared.instr.Instr.{Instr}
use Rattle.dcc_machine.specs.Machine.{State as Machine, word_in, with_word_in, stack_segment, physical, operand_value}
use Rattle.dcc_machine.specs.Operations.{after_push}
use Rattle.dcc_machine.specs.Step.{op_step, step}
use Rattle.dcc_machine.specs.WellFormed.{IsWordOperand, IsOperation}
use Rattle.dcc_machine.specs.Successors.{next_of}
use Rattle.dcc_prog.specs.Trail.{StandsAt}
use Rattle.dcc_prog.specs.Height.{MovesHeight}
use Rattle.dcc_machine.specs.SpAndBp.{is_sp_or_bp}
use Rattle.dcc_prog.specs.FrameForm.{is_framed}
use Rattle.dcc_machine.specs.Access.{Reading, operand_accesses, push_access, accesses}
use Rattle.dcc_prog.specs.CleanLaws.{moves_frames}
use Rattle.dcc_prog.specs.Clean.{Stack, top_in, end_of, is_reading, with_marks, stack_bytes, stored_bytes, stack_after, sp_after}
use Rattle.dcc_machine.proofs.LocationKept.{word-taken}
use Rattle.dcc_machine.proofs.StateKept.{value-fits}
use Rattle.dcc_stack.specs.Accepted.{FrameStays, changes_frame}
use Rattle.dcc_stack.specs.Standing.{StandsIn}
use Rattle.dcc_stack.specs.Apart.{IsApart}
use Rattle.dcc_stack.specs.Slots.{IsChangeable}
use Rattle.dcc_stack.specs.SlotLaws.{marks_at}
use Rattle.dcc_stack.proofs.FormLaws.{in-form}
use Rattle.dcc_stack.proofs.StepInner.{push-height}
use Rattle.dcc_stack.proofs.TableSteps.{IsStepOf, step-of}
use Rattle.dcc_ir.specs.Run.{State}
use Rattle.dcc_ops.specs.OperandPlace.{OperandPlace}
use Rattle.dcc_simulation.specs.Coupled.{Setting, AreCoupled}
use Rattle.dcc_simulation.specs.Places.{IsFramePlace, taken, offsets_of, IsOfFrame}
use Rattle.dcc_simulation.specs.Laws.{IsCleanInstruction, Within, WordsArePushed}
use Rattle.dcc_simulation.proofs.Coupling.{carried_laws, coupled}
use Rattle.dcc_simulation.proofs.FrameBytes.{frames-written}
use Rattle.dcc_simulation.proofs.Lowered.{stored_below, word-falls, word-above, word-lies, word-wraps, word-stored}
use Rattle.dcc_simulation.proofs.OperandBytes.{there}
use Rattle.dcc_simulation.proofs.PlacesWritten.{marks-same}
use Rattle.dcc_simulation.proofs.StepsAgree.{pointers-move, none-rises, steps-agree}

pub value-of : (s : Machine) (ip : ℕ) (x : Operand) → operand_value (record s { ip = ip }) x ≡ operand_value s x
value-of s ip (Word r) = refl
value-of s ip (Byte r half) = refl
value-of s ip (Seg number) = refl
value-of s ip (Mem width ea) = refl
value-of s ip (Const width constant) = refl

plain-frame : (x : Operand) → is_sp_or_bp x ≡ false → changes_frame (Push x) ≡ false
plain-frame (Word Sp) plain = cc
plain-frame (Word Bp) plain = cc
plain-frame x plain = refl

-- what a push stores is the word that is pushed alone
push-stores : (x : Operand) (s u : Machine)
    → filter (λ access. not (is_reading access)) (operand_accesses Reading x s ++ push_access u ∷ []) ≡ push_access u
    ∷ []
push-stores (Mem width ea) s u = refl
push-stores x s u = refl

module _ (e : Setting) (s : Machine) (stack : Stack) (instr : Instr) (x : Operand) (t : State) (place : OperandPlace)
    (is : IsCleanInstruction e s stack instr)
    (stands :
    StandsIn e.image e.program.layout s.memory is.stands.newest (top_in e.program.layout s) (word_in s Bp))
    (push : instr.op ≡ Push x) (plain : is_sp_or_bp x ≡ false) (before : Within is stack.written s t)
    (at : IsFramePlace e is.stands.newest.frame.entry (neg_ℤ (pos stands.height)) word_width place) where
  open e.program use {layout}
  open is.stands use {newest as a}

  abbrev top : ℕ
  top = top_in e.program.layout s

  abbrev first : ℕ
  first = word_in s Sp - 2 + e.program.layout.delta

  abbrev here : Machine
  here = record s { ip = next_of s.ip instr }

  abbrev lowered : Machine
  lowered = with_word_in (record s { ip = next_of s.ip instr }) Sp (word_in s Sp - 2)

  -- SP

  lowers : sp_after instr.op s ≡ (pos (word_in s Sp) -ℤ pos 2)
  lowers = ap (λ o. sp_after o s) push

  falls : word_in s Sp - 2 + 2 ≡ word_in s Sp
  falls = word-falls e s stack instr is 0 lowers

  -- the frame

  pushes-there : StandsAt e.image layout a.at (Push x)
  pushes-there = subst (StandsAt e.image layout a.at) push (there e s stack instr is)

  deep : is_framed e.image layout a.frame.entry ≡ true → 2 ≤ stands.height
  deep framed = by (in-form.stays e.cpu e.image e.program a.frame.entry a.at a.before stands.height going.0 (Push x)
      is.of_file stands.is_at pushes-there going.1 framed (plain-frame x plain))
    where
      going : (after : ℕ) × MovesHeight e.image e.program.layout a.frame.entry a.at (Push x) (pos stands.height) (pos
          after)
      going =
          in-form.moved e.cpu e.image e.program a.frame.entry a.at a.before stands.height (Push x) is.of_file
          stands.is_at
          pushes-there (λ count other. cc)

      by : FrameStays stands.height going.0 → 2 ≤ stands.height
      by (inl both) = both.0
      by (inr both) =
          let rises = push-height going.1 in
          let none = both.0 in
          let still = both.1 in
          absurd (omega (arith, ints, rises, none, still))

  own-at : (index : ℕ) → index < 2
      → (first + index < end_of e.program a.frame) × IsApart e.image layout (first + index) a
  own-at index less =
      carried_laws.own (first + index) is.of_file stands (by (is_framed e.image layout a.frame.entry) refl)
    where
      by : (b : Bool) → is_framed e.image layout a.frame.entry ≡ b
          → pos (first + index) <ℤ (pos top +ℤ (if b then pos stands.height -ℤ pos 2 else pos stands.height))
      by true framed = let down = falls in let two = deep framed in omega (arith, ints, less, down, two)
      by false framed = let down = falls in omega (arith, ints, less, down)

  lowered-top : top_in layout lowered ≡ first
  lowered-top =
      ap (λ n. n + layout.delta)
      (word-taken here Sp Sp (word_in s Sp - 2) is.stands.segments.state.registers.count refl)

  of-frame : IsOfFrame e a (top_in layout lowered) (neg_ℤ (pos stands.height)) word_width first
  of-frame = record {
    place = let on_top = stands.top_is in let down = falls in omega (arith, ints, on_top, down);
    low = let same = lowered-top in omega (arith, same);
    within = let last = (own-at 1 (omega arith)).0 in omega (arith, last);
    apart = λ index less. (own-at index less).1;
  }

  changes : (index : ℕ) → index < 2 → a.frame.base ≤ first + index
      → IsChangeable e.image layout a.frame (first + index)
  changes index less from =
      let on_top = stands.top_is in
      let down = falls in
      absurd (omega (arith, less, from, on_top, down))

  -- the step

  taken-step : IsStepOf e.image layout is.of_file.loaded s.ip instr s
  taken-step =
      step-of e.image layout is.of_file.loaded s.ip s instr is.stands.segments.state refl (ap is_over before.goes)
      is.stands.segments.code is.found

  word-operand : IsWordOperand x
  word-operand = subst IsOperation push taken-step.good

  value : ℕ
  value = operand_value s x

  small : operand_value s x < 65536
  small =
      subst (λ w. operand_value s x < limit_of w) word-operand.width
      (value-fits s x word-operand.operand is.stands.segments.state)

  step-is : step layout.cpu s ≡ record lowered { memory = stored_below e s (operand_value s x) }
  step-is =
      taken-step.is ∙ ap (λ o. op_step layout.cpu o s.ip here) push
      ∙ ap (λ n. after_push n here) (value-of s (next_of s.ip instr) x)
      ∙ word-stored e s stack instr is 0 lowers (operand_value s x)

  -- what is written

  marks-are : marks_at layout (offsets_of word_width (λ index. first + index)) stack.written
      ≡ (stack_after layout (Some instr) s (step layout.cpu s) stack).written
  marks-are =
      marks-same layout (push_access here) word_width (λ index. first + index) stack.written refl
      (λ index less. ap (λ n. physical (stack_segment s) ((n + index) % 65536)) (word-wraps e s stack instr is 0 lowers)
      ∙ word-lies e s stack instr is 0 lowers index less)
      ∙ ap (λ l. with_marks true (stack_bytes layout l) stack.written) (sym (push-stores x here here))
      ∙ ap (λ o. with_marks true (stored_bytes layout (accesses o here)) stack.written) (sym push)
      ∙ sym (none-rises top (top_in layout (step layout.cpu s))
      (with_marks true (stored_bytes layout (accesses instr.op here)) stack.written)
      (let same = ap (top_in layout) step-is ∙ lowered-top in let down = falls in omega (arith, same, down)))

  pub word-pushed :
      AreCoupled e (step layout.cpu s) (stack_after layout (Some instr) s (step layout.cpu s) stack)
      (taken place (operand_value s x) t)
  word-pushed =
      steps-agree e s stack instr t (taken place (operand_value s x) t) is (ap moves_frames push) before
      (subst (λ marks. Within is marks (step layout.cpu s) (taken place (operand_value s x) t)) marks-are
      (subst (λ u. Within is (marks_at layout (offsets_of word_width (λ index. first + index)) stack.written) u
      (taken place (operand_value s x) t)) (sym step-is)
      (frames-written e a is.stands.callers stack.written lowered t word_width (neg_ℤ (pos stands.height)) first place
      (operand_value s x) is.numbered
      (pointers-move.falls e a is.stands.callers stack.written here t (word_in s Sp - 2)
      ((coupled e a is.stands.callers stack.written).anywhere s t (next_of s.ip instr) before)
      (let wide = is.stands.segments.state.registers.words Sp in let down = falls in omega (arith, wide, down))
      (word-above e s stack instr is 0 lowers)
      (let down = falls in omega (arith, down)) is.stands.written)
      of-frame changes at small)))

pub words-pushed : WordsArePushed
words-pushed e s stack instr x t place is stands push plain before at =
    word-pushed e s stack instr x t place is stands push plain before at
