-- Operands of a clean instruction of a procedure that is found: they are read and written at the places that are named.
use Rattle.std.proofs.Common.{◌≡◌, ◌<◌, ℕ, ◌+◌, ◌*◌, ◌%◌, Bool, true, false, true≢false, ◌||◌, List, Contains, Option, Some, None, refl, sym, ap, ap₂, ◌∙◌, subst, arith}
use Rattle.std.specs.Prelude.{pos, ◌-ℤ◌, neg_ℤ, if◌then◌else◌}
use Rattle.std.proofs.lemmas.Int.{ints}
use Rattle.dcc_num.specs.declared.Width.{Width}
use Rattle.dcc_num.specs.declared.Width.TheVariants.{Word as word_width}
use Rattle.dcc_num.specs.declared.Reg.{Reg}
use Rattle.dcc_num.specs.declared.Reg.TheVariants.{Sp, Bp}
use Rattle.dcc_num.specs.declared.Half.TheVariants.{Low, High}
use Rattle.dcc_num.specs.declared.Flags.{Flags}
use Rattle.dcc_num.specs.Numbers.{wrapped_of}
use Rattle.dcc_machine.specs.declared.instr.Ea.{Ea}
use Rattle.dcc_machine.specs.declared.instr.Operand.{Operand}
use Rattle.dcc_machine.specs.declared.instr.Operand.TheVariants.{Word, Byte, Seg, Mem, Const}
use Rattle.dcc_machine.specs.declared.instr.Op.{Op}
use Rattle.dcc_machine.specs.declared.instr.Instr.{Instr}
use Rattle.dcc_machine.specs.Machine.{State as Machine, word_in, is_bp, is_general}
use Rattle.dcc_machine.specs.Operations.{with_flags}
use Rattle.dcc_machine.specs.WellFormed.{IsOperand}
use Rattle.dcc_machine.specs.Successors.{next_of}
use Rattle.dcc_prog.specs.Trail.{IsNode}
use Rattle.dcc_machine.specs.SpAndBp.{is_sp_or_bp}
use Rattle.dcc_machine.specs.Access.{Direction, Reading, Writing, Access, bytes_in, is_direct, operand_accesses}
use Rattle.dcc_machine.specs.Access.{accesses}
use Rattle.dcc_prog.specs.Frame.{span_of, memory_of, memory_operand, offset_in_frame, StartsExposure, by_index, used, IsUsed}
use Rattle.dcc_prog.specs.Clean.{Stack, top_in, stack_bytes, with_marks}
use Rattle.dcc_stack.specs.Standing.{StandsIn}
use Rattle.dcc_stack.specs.Slots.{is_memory, writes_memory}
use Rattle.dcc_ir.specs.declared.syntax.Loc.TheVariants.{Half}
use Rattle.dcc_ir.specs.Run.{State, value_in}
use Rattle.dcc_ops.specs.OperandPlace.{OperandPlace, memory, is_sound_place}
use Rattle.dcc_ops.specs.Computed.{computed_expr}
use Rattle.dcc_ops.specs.Registers.{register_place}
use Rattle.dcc_ops.specs.Coupling.{IsRead, IsWritten}
use Rattle.dcc_ops.specs.Performed.{RegistersStand}
use Rattle.dcc_ops.proofs.PerformedLaws.{registers_stand}
use Rattle.dcc_simulation.specs.Coupled.{Setting}
use Rattle.dcc_simulation.specs.Places.{part_value, frame_address, IsOffset, IsOperandPlace, direct, elsewhere}
use Rattle.dcc_simulation.specs.Laws.{IsCleanInstruction, Within}
use Rattle.dcc_simulation.specs.Procedures.{Procedure, frame_place}
use Rattle.dcc_simulation.specs.Operands.{address_of, memory_place, operand_place}
use Rattle.dcc_simulation.specs.FoundPlaces.{IsFoundAt}
use Rattle.dcc_simulation.proofs.Coupling.{coupled}
use Rattle.dcc_simulation.proofs.OperandBytes.{stand-in, there, access-is}
use Rattle.dcc_simulation.proofs.PlacesRead.{operands-read}
use Rattle.dcc_simulation.proofs.PlacesWritten.{frame-sound, operands-written}
use Rattle.dcc_simulation.proofs.Addresses.{sum-told, addresses-told}
use Rattle.dcc_simulation.proofs.AddressValues.{address-value, from-frame-value}
use Rattle.dcc_simulation.proofs.FoundProcedures.{listed}
use Rattle.dcc_simulation.proofs.FoundPlaces.{frame-place}
use Rattle.dcc_simulation.proofs.TabledOperands.{IsAddress, IsSource, IsTarget}

-- Registers.

pub general-of : (r : Reg) → is_sp_or_bp (Word r) ≡ false → is_general r ≡ true
general-of Sp other = absurd (true≢false other)
general-of Bp other = absurd (true≢false other)
general-of r other = refl

pub half-general : (r : Reg) (half : _) → is_sp_or_bp (Byte r half) ≡ false → is_general r ≡ true
half-general Sp half other = absurd (true≢false other)
half-general Bp half other = absurd (true≢false other)
half-general r half other = refl

-- a general register stands in its halves
pub register-named : (p : Procedure) (height : ℕ) (r : Reg) → is_general r ≡ true
    → register_place (Word r) ≡ operand_place p height (Word r)
register-named p height Sp general = absurd (true≢false (sym general))
register-named p height Bp general = absurd (true≢false (sym general))
register-named p height r general = refl

-- an operation names the memory of an operand, and accesses it
pub record IsOperandIn (op : Op) (u : Machine) (direction : Direction) (x : Operand) : Type 0 where
  pub named : {w : Width} {ea : Ea} → memory_of x ≡ Some (w, ea) → memory_operand op ≡ Some (w, ea)
  pub among : (access : Access) → Contains (operand_accesses direction x u) access → Contains (accesses op u) access

-- The operands of an instruction.

module _ (e : Setting) (s : Machine) (stack : Stack) (instr : Instr) (is : IsCleanInstruction e s stack instr)
    (p : Procedure) (at : IsFoundAt e is.stands.newest.frame.entry p) where
  open is.stands use {newest as a}

  abbrev R : Machine → State → Type 0
  R = Within is stack.written

  -- the instruction pointer is past it
  abbrev here : Machine
  here = record s { ip = next_of s.ip instr }

  registers : RegistersStand R
  registers = registers_stand R (coupled e a is.stands.callers stack.written)

  -- registers are words in the inner run
  pub words-small : (flags : Flags) (t : State) → R (with_flags flags here) t → (r : Option Reg)
      → part_value t r < 65536
  words-small flags t c None = omega arith
  words-small flags t c (Some r) =
      let low : t.running.values (Half r Low) < 256 = c.newest.values (Half r Low) in
      let high : t.running.values (Half r High) < 256 = c.newest.values (Half r High) in
      let whole : t.running.values (Half r High) * 256 + t.running.values (Half r Low) < 65536 =
      omega (arith, low, high) in
      whole

  node : IsNode e.image e.program.layout a.frame.entry a.at
  node = record { before = a.before; trail = (stand-in e s stack instr is).is_at.trail }

  -- Memory.

  -- an address is told by its sum; with BP it exposes bytes of the frame
  pub offset-told : (ea : Ea) → IsAddress ea
      → (is_bp ea.base ≡ true → StartsExposure e.image e.program.layout a.frame.entry a.at (offset_in_frame ea))
      → IsOffset R here ea (computed_expr (address_of ea))
  offset-told ea told starts flags t c =
      address-value t (words-small flags t c) ea told.small
      ∙ sum-told e s stack instr (next_of s.ip instr) is flags t c ea told.plain starts

  module _ (w : Width) (ea : Ea) (operand : memory_operand instr.op ≡ Some (w, ea)) (told : IsAddress ea) where
    starts : is_direct ea ≡ false → is_bp ea.base ≡ true
        → StartsExposure e.image e.program.layout a.frame.entry a.at (offset_in_frame ea)
    starts indirect so =
        by_index (there e s stack instr is) operand (ap (λ b. b || is_bp ea.index) so) indirect

    pub memory-placed : IsOperandPlace e a.frame.entry R here ea w (memory_place p w ea)
    memory-placed = by (is_direct ea) refl
      where
        by : (b : Bool) → is_direct ea ≡ b
            → IsOperandPlace e a.frame.entry R here ea w
            (if b then frame_place p w (offset_in_frame ea) else memory w (computed_expr (address_of ea)))
        by true so =
            direct so
            (frame-place e a.frame.entry p at (span_of (offset_in_frame ea) (bytes_in w)) w (offset_in_frame ea)
            (used node (IsUsed.accessed (access-is e s stack instr is w ea operand so))) (omega (arith, ints))
            (omega (arith, ints)))
        by false indirect = elsewhere indirect (offset-told ea told (starts indirect))

    pub memory-sound : is_sound_place (memory_place p w ea) ≡ true
    memory-sound = by (memory_place p w ea) memory-placed
      where
        by : (place : OperandPlace) → IsOperandPlace e a.frame.entry R here ea w place → is_sound_place place ≡ true
        by place (direct so stands) = frame-sound e a.frame.entry (offset_in_frame ea) w place stands
        by _ (elsewhere indirect offset) = refl

  -- All operands.

  -- the bytes that are written after it is
  abbrev pub marks-of : Operand → List Bool
  marks-of x = with_marks true (stack_bytes e.program.layout (operand_accesses Writing x here)) stack.written

  delta-is : p.delta ≡ e.program.layout.delta
  delta-is = (listed e at.lifting a.frame.entry p at.procedure).delta_is

  module _ (height : ℕ) where
    pub operand-read : (x : Operand) → IsSource x → IsOperand x → is_sp_or_bp x ≡ false → IsOperandIn instr.op here Reading x
        → IsRead R here x (operand_place p height x)
    operand-read (Word r) source good other of =
        subst (IsRead R here (Word r)) (register-named p height r (general-of r other))
        (registers.read here (Word r) (general-of r other) tt)
    operand-read (Byte r half) source good other of =
        registers.read here (Byte r half) (half-general r half other) tt
    operand-read (Seg number) source good other of = absurd source
    operand-read (Mem w ea) source good other of =
        operands-read e s stack instr w ea (memory_place p w ea) (next_of s.ip instr) is (of.named refl)
        (of.among _ (0, omega arith, refl)) (memory-placed w ea (of.named refl) source)
    operand-read (Const w number) source good other of = registers.read here (Const w number) refl good

    pub operand-sound : (x : Operand) → IsSource x → is_sp_or_bp x ≡ false → IsOperandIn instr.op here Reading x
        → is_sound_place (operand_place p height x) ≡ true
    operand-sound (Word r) source other of =
        subst (λ place. is_sound_place place ≡ true) (register-named p height r (general-of r other)) refl
    operand-sound (Byte r Low) source other of = refl
    operand-sound (Byte r High) source other of = refl
    operand-sound (Seg number) source other of = absurd source
    operand-sound (Mem w ea) source other of = memory-sound w ea (of.named refl) source
    operand-sound (Const w number) source other of = refl

    pub operand-written : (x : Operand) → IsTarget x → is_sp_or_bp x ≡ false
        → (is_memory x ≡ true → writes_memory instr.op ≡ true) → IsOperandIn instr.op here Writing x
        → IsWritten R (Within is (marks-of x)) here x (operand_place p height x)
    operand-written (Word r) target other writes of =
        subst (IsWritten R R here (Word r)) (register-named p height r (general-of r other))
        (registers.written here (Word r) (general-of r other))
    operand-written (Byte r half) target other writes of =
        registers.written here (Byte r half) (half-general r half other)
    operand-written (Seg number) target other writes of = absurd target
    operand-written (Mem w ea) target other writes of =
        operands-written e s stack instr w ea (memory_place p w ea) (next_of s.ip instr) is (of.named refl)
        (writes refl) (of.among _ (0, omega arith, refl)) (memory-placed w ea (of.named refl) target)
    operand-written (Const w number) target other writes of = absurd target

    -- BP, where the instruction copies it
    pub bp-read : StartsExposure e.image e.program.layout a.frame.entry a.at (pos 2 -ℤ pos height)
        → IsRead R here (Word Bp) (operand_place p height (Word Bp))
    bp-read starts = record {
      width = refl;
      value = λ flags t c.
          let number : (pos height -ℤ pos 2) ≡ neg_ℤ (pos 2 -ℤ pos height) = omega (arith, ints) in
          from-frame-value t (words-small flags t c) (pos 2 -ℤ pos height) (pos height -ℤ pos 2)
          ∙ ap (λ z. (value_in t (frame_address (pos 2 -ℤ pos height)) + wrapped_of word_width z) % 65536) number
          ∙ addresses-told.bp e s stack instr (next_of s.ip instr) (pos 2 -ℤ pos height) (pos 2 -ℤ pos height) flags t
          is starts c;
      small = λ flags t c. is.stands.segments.state.registers.words Bp;
    }

    -- SP, where it stands at that height
    pub sp-read :
        (stands :
        StandsIn e.image e.program.layout s.memory a (top_in e.program.layout s) (word_in s Bp))
        → stands.height ≡ height
        → IsRead R here (Word Sp) (operand_place p height (Word Sp))
    sp-read stands at-height = record {
      width = refl;
      value = λ flags t c.
          let number : (((pos 2 -ℤ pos height) -ℤ pos p.delta) -ℤ pos 0)
          ≡ (((pos 2 -ℤ pos stands.height) -ℤ pos e.program.layout.delta) -ℤ pos 0) =
          ap₂ (λ h d. ((pos 2 -ℤ pos h) -ℤ pos d) -ℤ pos 0) (sym at-height) delta-is in
          let whole : ((pos 2 -ℤ pos height) -ℤ pos p.delta) ≡ (((pos 2 -ℤ pos height) -ℤ pos p.delta) -ℤ pos 0) =
          omega (arith, ints) in
          from-frame-value t (words-small flags t c) (pos 0) ((pos 2 -ℤ pos height) -ℤ pos p.delta)
          ∙ ap (λ z. (value_in t (frame_address (pos 0)) + wrapped_of word_width z) % 65536) (whole ∙ number)
          ∙ addresses-told.sp e a is.stands.callers stack.written (with_flags flags here) t (pos 0) stands c;
      small = λ flags t c. is.stands.segments.state.registers.words Sp;
    }
