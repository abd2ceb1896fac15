-- The word at SP where an operand other than SP and BP is popped: it is one of the newest frame, and both runs hold it.
use Rattle.std.proofs.Common.{◌≡◌, ◌≤◌, ◌<◌, inl, inr, ℕ, ◌+◌, ◌*◌, ◌%◌, Bool, true, false, Some, refl, sym, ap, ap₂, ◌∙◌, subst, arith}
use Rattle.std.specs.Prelude.{pos, ◌+ℤ◌, ◌-ℤ◌, ◌<ℤ◌, slice_index, All, if◌then◌else◌}
use Rattle.std.proofs.lemmas.Int.{ints}
use Rattle.std.proofs.lemmas.List.Elements.{All-head, All-contains}
use Rattle.std.proofs.Math.Nat.{mod-eq_of_lt}
use Rattle.dcc_num.specs.declared.Width.TheVariants.{Word as word_width}
use Rattle.dcc_num.specs.declared.Flags.{Flags}
use Rattle.dcc_num.specs.declared.Reg.TheVariants.{Sp, Bp}
use Rattle.dcc_machine.specs.declared.instr.Operand.{Operand}
use Rattle.dcc_machine.specs.declared.instr.Operand.TheVariants.{Word}
use Rattle.dcc_machine.specs.declared.instr.Op.TheVariants.{Pop}
use Rattle.dcc_machine.specs.declared.instr.Instr.{Instr}
use Rattle.dcc_machine.specs.Machine.{State as Machine, word_in, stack_segment, physical}
use Rattle.dcc_machine.specs.Operations.{with_flags, with_sp_raised, top_word}
use Rattle.dcc_machine.specs.Successors.{next_of}
use Rattle.dcc_prog.specs.Trail.{StandsAt}
use Rattle.dcc_prog.specs.Height.{MovesHeight}
use Rattle.dcc_machine.specs.SpAndBp.{is_sp_or_bp}
use Rattle.dcc_prog.specs.FrameForm.{is_framed}
use Rattle.dcc_machine.specs.Access.{Reading, Writing, stack_access, operand_accesses, accesses, address_in}
use Rattle.dcc_machine.specs.Access.{addresses_of}
use Rattle.dcc_prog.specs.Clean.{Stack, top_in, end_of, is_reading, is_marked, stack_offset}
use Rattle.dcc_machine.proofs.StateKept.{same-state, word-at-below}
use Rattle.dcc_stack.specs.Accepted.{FrameStays, changes_frame}
use Rattle.dcc_stack.specs.Standing.{StandsIn}
use Rattle.dcc_stack.specs.Apart.{IsApart}
use Rattle.dcc_stack.proofs.ApartAccesses.{Pass, clean-step}
use Rattle.dcc_stack.proofs.ApartWrites.{in-data}
use Rattle.dcc_stack.proofs.FormLaws.{in-form}
use Rattle.dcc_stack.proofs.SlotFrames.{parts-low}
use Rattle.dcc_stack.proofs.StepInner.{pop-height}
use Rattle.dcc_ir.specs.Run.{State, value_in}
use Rattle.dcc_ops.specs.OperandPlace.{OperandPlace, place_value}
use Rattle.dcc_simulation.specs.Coupled.{Setting}
use Rattle.dcc_simulation.specs.Places.{IsFramePlace, IsOfFrame}
use Rattle.dcc_simulation.specs.Laws.{IsCleanInstruction, Within}
use Rattle.dcc_simulation.proofs.Coupling.{carried_laws}
use Rattle.dcc_simulation.proofs.FrameBytes.{frames-read}
use Rattle.dcc_simulation.proofs.OperandBytes.{stack-offset, address-among, nested, there}

plain-frame : (x : Operand) → is_sp_or_bp x ≡ false → changes_frame (Pop x) ≡ false
plain-frame (Word Bp) other = cc
plain-frame x other = refl

module _ (e : Setting) (s : Machine) (stack : Stack) (instr : Instr) (x : Operand)
    (is : IsCleanInstruction e s stack instr)
    (stands :
    StandsIn e.image e.program.layout s.memory is.stands.newest (top_in e.program.layout s) (word_in s Bp))
    (pop : instr.op ≡ Pop x) (other : is_sp_or_bp x ≡ false) where
  open e.program use {layout}
  open is.stands use {newest as a}

  abbrev top : ℕ
  top = top_in e.program.layout s

  abbrev here : Machine
  here = record s { ip = next_of s.ip instr }

  -- the frame

  pops-there : StandsAt e.image layout a.at (Pop x)
  pops-there = subst (StandsAt e.image layout a.at) pop (there e s stack instr is)

  going : (after : ℕ)
      × MovesHeight e.image e.program.layout a.frame.entry a.at (Pop x) (pos stands.height) (pos after)
  going =
      in-form.moved e.cpu e.image e.program a.frame.entry a.at a.before stands.height (Pop x) is.of_file
      stands.is_at pops-there (λ count other. cc)

  two : going.0 + 2 ≡ stands.height
  two = let falls = pop-height going.1 in omega (arith, ints, falls)

  deep : is_framed e.image layout a.frame.entry ≡ true → 4 ≤ stands.height
  deep framed =
      by (in-form.stays e.cpu e.image e.program a.frame.entry a.at a.before stands.height going.0 (Pop x)
      is.of_file stands.is_at pops-there going.1 framed (plain-frame x other))
    where
      by : FrameStays stands.height going.0 → 4 ≤ stands.height
      by (inl both) = let still = both.1 in let down = two in omega (arith, still, down)
      by (inr both) = let none = both.0 in let down = two in absurd (omega (arith, none, down))

  own-at : (index : ℕ) → index < 2
      → (top + index < end_of e.program a.frame) × IsApart e.image layout (top + index) a
  own-at index less = carried_laws.own (top + index) is.of_file stands (by (is_framed e.image layout a.frame.entry)
      refl)
    where
      by : (b : Bool) → is_framed e.image layout a.frame.entry ≡ b
          → pos (top + index) <ℤ (pos top +ℤ (if b then pos stands.height -ℤ pos 2 else pos stands.height))
      by true framed = let four = deep framed in omega (arith, ints, less, four)
      by false framed = let down = two in omega (arith, ints, less, down)

  of-frame : IsOfFrame e a top (pos 2 -ℤ pos stands.height) word_width top
  of-frame = record {
    place = let on_top = stands.top_is in omega (arith, ints, on_top);
    low = omega arith;
    within = let last = (own-at 1 (omega arith)).0 in omega (arith, last);
    apart = λ index less. (own-at index less).1;
  }

  high-at : (index : ℕ) → index < 2 → top + index < layout.hi
  high-at index less =
      let own = own-at index less in
      parts-low e.image e.program (top + index) a is.stands.callers (nested e s stack instr is) own.0 own.1

  -- the word

  lies : (index : ℕ) → index < 2
      → physical (stack_segment s) ((word_in s Sp + index) % 65536) ≡ layout.ds * 16 + (top + index)
  lies index less =
      let high = high-at index less in
      let fits = is.of_file.is_program.layout.small.hi_fits in
      let same : word_in s Sp + index + layout.delta ≡ top + index = omega arith in
      ap (physical (stack_segment s)) (mod-eq_of_lt (omega (arith, high, fits)))
      ∙ in-data layout.ds (stack_segment s) layout.delta (word_in s Sp + index) is.stands.segments.stack_is
      is.of_file.is_program.layout.small.ds_fits (omega (arith, high, fits))
      ∙ ap (λ n. layout.ds * 16 + n) same

  marked : (index : ℕ) → index < 2 → is_marked stack.written (top + index) ≡ true
  marked index less =
      let access = stack_access Reading (word_in s Sp) here in
      let told = (clean-step e.program stack s instr is.clean).told in
      let list = subst (λ o. All (Pass layout is_reading (is_marked stack.written)) (accesses o here)) pop told in
      let first = All-head (Pass layout is_reading (is_marked stack.written)) access
      (operand_accesses Writing x (with_sp_raised 2 here)) list refl in
      let inside = is.stands.low in
      All-contains (λ n. (o : ℕ) → stack_offset layout n ≡ Some o → is_marked stack.written o ≡ true)
      (addresses_of access) (address_in access index) first (address-among access word_width index refl less)
      (top + index)
      (ap (stack_offset layout) (lies index less)
      ∙ stack-offset layout (top + index) (omega (arith, inside)) (high-at index less))

  -- the word at the top of the stack is read at its place, whatever the flags are
  pub top-read : (flags : Flags) (t : State) (place : OperandPlace) → Within is stack.written (with_flags flags here) t
      → IsFramePlace e is.stands.newest.frame.entry (pos 2 -ℤ pos stands.height) word_width place
      → value_in t (place_value place) ≡ top_word here
  top-read flags t place before at =
      frames-read e a is.stands.callers stack.written (with_flags flags here) t word_width (pos 2 -ℤ pos stands.height)
      top place before of-frame marked at
      ∙ ap₂ (λ n m. slice_index s.memory n + 256 * slice_index s.memory m)
      (sym (lies 0 (omega arith)) ∙ ap (physical (stack_segment s)) (zeroth (word_in s Sp)
      (is.stands.segments.state.registers.words Sp)))
      (sym (lies 1 (omega arith)))
    where
      zeroth : (n : ℕ) → n < 65536 → (n + 0) % 65536 ≡ n
      zeroth n less = omega (arith, less)

  pub top-small : top_word here < 65536
  top-small =
      word-at-below here (stack_segment s) (word_in s Sp)
      (same-state s here refl refl refl refl is.stands.segments.state)

  -- SP rises past it within the stack
  pub top-wide : word_in s Sp + 2 < 65536
  top-wide =
      let high = high-at 1 (omega arith) in
      let fits = is.of_file.is_program.layout.small.hi_fits in
      omega (arith, high, fits)
