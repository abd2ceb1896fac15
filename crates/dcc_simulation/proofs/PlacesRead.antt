-- A memory operand that a clean instruction reads is read at its place.
use Rattle.std.proofs.Common.{◌≡◌, ◌<◌, ℕ, ◌+◌, ◌*◌, ◌%◌, true, false, Some, refl, sym, ap, ap₂, ◌∙◌, arith}
use Rattle.std.specs.Prelude.{ℤ, slice_index}
use Rattle.dcc_num.specs.declared.Width.{Width}
use Rattle.dcc_num.specs.declared.Width.TheVariants.{Byte as byte_width, Word as word_width}
use Rattle.dcc_num.specs.declared.Flags.{Flags}
use Rattle.dcc_num.specs.Numbers.{limit_of}
use Rattle.dcc_machine.specs.declared.instr.Ea.{Ea}
use Rattle.dcc_machine.specs.declared.instr.Instr.{Instr}
use Rattle.dcc_machine.specs.declared.instr.Operand.TheVariants.{Mem}
use Rattle.dcc_machine.specs.Machine.{State as Machine, physical, offset_of, segment_of, operand_value}
use Rattle.dcc_machine.specs.Operations.{with_flags}
use Rattle.dcc_machine.specs.StateForm.{IsState}
use Rattle.dcc_machine.specs.Access.{Reading, bytes_in, is_direct}
use Rattle.dcc_prog.specs.Frame.{memory_operand, offset_in_frame}
use Rattle.dcc_prog.specs.Clean.{Stack, is_marked}
use Rattle.dcc_machine.proofs.StateKept.{word-at-below}
use Rattle.dcc_ir.specs.Run.{State, value_in}
use Rattle.dcc_ops.specs.OperandPlace.{OperandPlace, place_width, place_value}
use Rattle.dcc_simulation.specs.Coupled.{Setting}
use Rattle.dcc_simulation.specs.Places.{IsFramePlace, in_half, in_cell, in_memory, IsOperandPlace, direct, elsewhere}
use Rattle.dcc_simulation.specs.Places.{number_of}
use Rattle.dcc_simulation.specs.Laws.{IsCleanInstruction, Within, Makes, OperandsAreRead}
use Rattle.dcc_simulation.proofs.Coupling.{carried_laws}
use Rattle.dcc_simulation.proofs.FrameBytes.{load-is, frames-read}
use Rattle.dcc_simulation.proofs.OperandBytes.{exposed-in, start, high-at, of-frame, address-at, told, shown}
use Rattle.dcc_simulation.proofs.OperandBytes.{other-address}

-- a number is told by its bytes
numbers-same : (w : Width) (bytes others : ℕ → ℕ) → ((index : ℕ) → index < bytes_in w → bytes index ≡ others index)
    → number_of w bytes ≡ number_of w others
numbers-same byte_width bytes others same = same 0 (omega arith)
numbers-same word_width bytes others same = ap₂ (λ n m. n + 256 * m) (same 0 (omega arith)) (same 1 (omega arith))

-- the offset of an operand is a word
first-offset : (s : Machine) (ea : Ea) → (offset_of s ea + 0) % 65536 ≡ offset_of s ea
first-offset s ea = omega arith

operand-is : (s : Machine) (w : Width) (ea : Ea)
    → number_of w (λ index. slice_index s.memory (physical (segment_of s ea) ((offset_of s ea + index) % 65536)))
    ≡ operand_value s (Mem w ea)
operand-is s byte_width ea = ap (λ n. slice_index s.memory (physical (segment_of s ea) n)) (first-offset s ea)
operand-is s word_width ea =
    ap (λ n. slice_index s.memory (physical (segment_of s ea) n)
    + 256 * slice_index s.memory (physical (segment_of s ea) ((offset_of s ea + 1) % 65536))) (first-offset s ea)

value-small : (s : Machine) (w : Width) (ea : Ea) → IsState s → operand_value s (Mem w ea) < limit_of w
value-small s byte_width ea form = form.memory (physical (segment_of s ea) (offset_of s ea))
value-small s word_width ea form = word-at-below s (segment_of s ea) (offset_of s ea) form

pub frame-wide : (e : Setting) (entry : ℕ) (k : ℤ) (w : Width) (place : OperandPlace) → IsFramePlace e entry k w place
    → place_width place ≡ w
frame-wide e entry k _ _ (in_half in_it) = refl
frame-wide e entry k _ _ (in_cell low high) = refl
frame-wide e entry k w _ (in_memory placed) = refl

module _ (e : Setting) (s : Machine) (stack : Stack) (instr : Instr) (ip : ℕ)
    (is : IsCleanInstruction e s stack instr) (ea : Ea) where
  abbrev R : Machine → State → Type 0
  R = Within is stack.written

  abbrev here : Machine
  here = record s { ip = ip }

  pub place-wide : (w : Width) (place : OperandPlace) → IsOperandPlace e is.stands.newest.frame.entry R here ea w place
      → place_width place ≡ w
  place-wide w place (direct so at) = frame-wide e is.stands.newest.frame.entry (offset_in_frame ea) w place at
  place-wide w _ (elsewhere indirect offset) = refl

  module _ (w : Width) (operand : memory_operand instr.op ≡ Some (w, ea)) (makes : Makes is Reading w ea) where
    abbrev byte_of : ℕ → ℕ
    byte_of index = slice_index s.memory (physical (segment_of s ea) ((offset_of s ea + index) % 65536))

    -- bytes of the frame that are read are written
    frame-marked : (so : is_direct ea ≡ true) (index : ℕ) → index < bytes_in w
        → is_marked stack.written (start e s stack instr is w ea operand so + index) ≡ true
    frame-marked so index less =
        let own = of-frame e s stack instr is w ea operand so in
        let low = own.low in
        let inside = is.stands.low in
        told e s stack instr is w ea operand index (start e s stack instr is w ea operand so + index) less
        (address-at e s stack instr is w ea operand so index less) (omega (arith, low, inside))
        (high-at e s stack instr is w ea operand so index less) makes

    -- bytes elsewhere stand in memory
    elsewhere-read : is_direct ea ≡ false → (flags : Flags) (t : State) → R (with_flags flags here) t → (index : ℕ)
        → index < bytes_in w
        → slice_index t.memory ((offset_of s ea + index) % 65536) ≡ byte_of index
    elsewhere-read indirect flags t c index less =
        let offset : ℕ = (offset_of s ea + index) % 65536 in
        let address = other-address e s stack instr is w ea operand indirect index in
        carried_laws.reads_memory offset c.carried (omega arith) (λ low high.
        let marked = told e s stack instr is w ea operand index offset less address low high makes in (
          is.stands.written offset marked,
          exposed-in e s stack instr is t c.waiting offset
              (shown e s stack instr is w ea operand index offset less address low high Reading makes indirect),
          marked,
        ))
        ∙ sym (ap (slice_index s.memory) address)

    read-at : (place : OperandPlace) → IsOperandPlace e is.stands.newest.frame.entry R here ea w place
        → (flags : Flags) (t : State) → R (with_flags flags here) t
        → value_in t (place_value place) ≡ number_of w byte_of
    read-at place (direct so at) flags t c =
        frames-read e is.stands.newest is.stands.callers stack.written (with_flags flags here) t w (offset_in_frame ea)
        (start e s stack instr is w ea operand so) place c (of-frame e s stack instr is w ea operand so)
        (frame-marked so)
        at
        ∙ numbers-same w (λ index.
        slice_index s.memory (e.program.layout.ds * 16 + (start e s stack instr is w ea operand so + index))) byte_of
        (λ index less. sym (ap (slice_index s.memory) (address-at e s stack instr is w ea operand so index less)))
    read-at _ (elsewhere {at = at} indirect offset) flags t c =
        load-is w t at byte_of (λ index less.
        ap (λ n. slice_index t.memory ((n + index) % 65536)) (offset flags t c)
        ∙ elsewhere-read indirect flags t c index less)

pub operands-read : OperandsAreRead
operands-read e s stack instr w ea place ip is operand makes at = record {
  width = place-wide e s stack instr ip is ea w place at;
  value = λ flags t c. read-at e s stack instr ip is ea w operand makes place at flags t c ∙ operand-is s w ea;
  small = λ flags t c. value-small s w ea is.stands.segments.state;
}
