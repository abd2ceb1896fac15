-- The laws of both runs side by side.
use Rattle.std.specs.Prelude.{◌≡◌, ◌≤◌, ◌<◌, ◌⊎◌, ℕ, ◌+◌, ◌*◌, ◌%◌, ◌||◌, ℤ, pos, ◌+ℤ◌, ◌-ℤ◌, ◌≤ℤ◌, neg_ℤ, true, false}
use Rattle.std.specs.Prelude.{Bool, List, [], ◌∷◌, Contains, Option, Some, None, length, slice_index}
use Rattle.dcc_run.specs.End.{Running}
use Rattle.dcc_num.specs.declared.Half.TheVariants.{Low, High}
use Rattle.dcc_num.specs.declared.Width.{Width}
use Rattle.dcc_num.specs.declared.Width.TheVariants.{Word as word_width}
use Rattle.dcc_num.specs.declared.Reg.{Reg}
use Rattle.dcc_num.specs.declared.Reg.TheVariants.{Sp, Bp}
use Rattle.dcc_num.specs.declared.Flags.{Flags}
use Rattle.dcc_num.specs.Numbers.{limit_of, wrapped_of}
use Rattle.dcc_machine.specs.declared.instr.Ea.{Ea}
use Rattle.dcc_machine.specs.declared.instr.Operand.{Operand}
use Rattle.dcc_machine.specs.declared.instr.Operand.TheVariants.{Mem}
use Rattle.dcc_machine.specs.declared.instr.Op.TheVariants.{Push, Call, Ret}
use Rattle.dcc_machine.specs.declared.instr.Instr.{Instr}
use Rattle.dcc_machine.specs.Machine.{State as Machine, word_in, with_word_in, is_bp, segment_of, offset_of}
use Rattle.dcc_machine.specs.Machine.{operand_value, is_general}
use Rattle.dcc_machine.specs.Operations.{with_flags}
use Rattle.dcc_machine.specs.SpAndBp.{is_mov_bp_sp, is_sp_or_bp, leaves_frame}
use Rattle.dcc_machine.specs.Step.{step}
use Rattle.dcc_machine.specs.Successors.{next_of}
use Rattle.dcc_prog.specs.Trail.{instruction_in, IsEntry}
use Rattle.dcc_machine.specs.Access.{Direction, Reading, Writing, Access, bytes_in, kind_of, found_accesses, stored}
use Rattle.dcc_prog.specs.Frame.{Span, memory_operand, offset_in_frame, IsPiece, StartsExposure}
use Rattle.dcc_prog.specs.Clean.{Stack, top_in, is_marked, stack_bytes, stored_bytes, with_marks, foul_of, stack_after}
use Rattle.dcc_prog.specs.CleanLaws.{moves_frames}
use Rattle.dcc_stack.specs.Accepted.{IsProgramOfFile}
use Rattle.dcc_stack.specs.Standing.{Activation, StandsIn, StackStands}
use Rattle.dcc_stack.specs.Slots.{IsChangeable, writes_memory}
use Rattle.dcc_stack.specs.SlotLaws.{stores_at, marks_at}
use Rattle.dcc_ir.specs.declared.syntax.Loc.TheVariants.{Half}
use Rattle.dcc_ir.specs.Tree.{Expr}
use Rattle.dcc_ir.specs.Run.{State, value_in, execute}
use Rattle.dcc_ops.specs.OperandPlace.{OperandPlace, place_value}
use Rattle.dcc_ops.specs.Coupling.{Relation, HoldFlags, IsCoupling, IsRead, IsWritten}
use Rattle.dcc_ops.specs.Performed.{Stands}
use Rattle.dcc_ops.specs.Statements.{op_stmts}
use Rattle.dcc_simulation.specs.Coupled.{Setting, AreNumbered, IsActivationOf, Coupled, AreCoupled}
use Rattle.dcc_simulation.specs.Calls.{begun, Begins, Returns}
use Rattle.dcc_simulation.specs.Places.{IsFramePlace, IsOffset, IsPlainAddress, frame_address, address_value}
use Rattle.dcc_simulation.specs.Places.{IsOperandPlace, taken, number_of, bytes_from, offsets_of, IsOfFrame}

-- both runs side by side are a coupling
abbrev pub RunsAreCoupled : Type 0
RunsAreCoupled =
    (e : Setting) (a : Activation) (callers : List Activation) (written : List Bool)
    → IsCoupling (Coupled e a callers written)

-- Where the entry procedure begins, with nothing of the stack written: the runs agree where registers, flags and the
-- console do, and the memories outside the stack.
abbrev pub RunsBegin : Type 0
RunsBegin =
    (e : Setting) (s : Machine) (stack : Stack) (t : State) → IsProgramOfFile e.cpu e.image e.program
    → (stands : StackStands e.image e.program.layout s stack) → s.end ≡ Running → t.end ≡ Running
    → IsActivationOf e stands.newest t.running → stands.callers ≡ [] → t.waiting ≡ []
    → ((r : Reg) → is_general r ≡ true
    → word_in s r ≡ t.running.values (Half r High) * 256 + t.running.values (Half r Low))
    → HoldFlags s.flags t.running.values → t.input ≡ s.input → t.events ≡ s.events
    → length t.memory ≡ 65536 → ((offset : ℕ) → slice_index t.memory offset < 256)
    → ((offset : ℕ) → offset < 65536 → (offset < e.program.layout.lo) ⊎ (e.program.layout.hi ≤ offset)
    → slice_index t.memory offset ≡ slice_index s.memory (e.program.layout.ds * 16 + offset))
    → ((offset : ℕ) → is_marked stack.written offset ≡ false) → AreCoupled e s stack t

-- Frames.

-- a written byte or word of the newest frame is read at its place
abbrev pub FramesAreRead : Type 0
FramesAreRead =
    (e : Setting) (a : Activation) (callers : List Activation) (written : List Bool) (s : Machine) (t : State)
    (w : Width) (k : ℤ) (first : ℕ) (place : OperandPlace) → Coupled e a callers written s t
    → IsOfFrame e a (top_in e.program.layout s) k w first
    → ((index : ℕ) → index < bytes_in w → is_marked written (first + index) ≡ true)
    → IsFramePlace e a.frame.entry k w place
    → value_in t (place_value place)
    ≡ number_of w (λ index. slice_index s.memory (e.program.layout.ds * 16 + (first + index)))

-- a byte or word of the newest frame takes a number at its place, as the machine's memory does; one of an argument,
-- where the procedure may change it
abbrev pub FramesAreWritten : Type 0
FramesAreWritten =
    (e : Setting) (a : Activation) (callers : List Activation) (written : List Bool) (s : Machine) (t : State)
    (w : Width) (k : ℤ) (first : ℕ) (place : OperandPlace) (v : ℕ) → AreNumbered e → Coupled e a callers written s t
    → IsOfFrame e a (top_in e.program.layout s) k w first
    → ((index : ℕ) → index < bytes_in w → a.frame.base ≤ first + index
    → IsChangeable e.image e.program.layout a.frame (first + index))
    → IsFramePlace e a.frame.entry k w place → v < limit_of w
    → Coupled e a callers (marks_at e.program.layout (offsets_of w (λ index. first + index)) written)
    (record s {
      memory =
          stored
          (stores_at (λ offset. e.program.layout.ds * 16 + offset) (offsets_of w (λ index. first + index))
          (bytes_from first v)) s.memory;
    }) (taken place v t)

-- Bytes that an instruction uses together, and those of an argument's word, have one place, and so has each part of
-- them.
abbrev pub PiecesHavePlaces : Type 0
PiecesHavePlaces =
    (e : Setting) (entry : ℕ) (piece : Span) (w : Width) (k : ℤ) → IsProgramOfFile e.cpu e.image e.program
    → AreNumbered e → IsEntry e.image e.program.layout entry → IsPiece e.image e.program.layout entry piece
    → piece.first ≤ℤ k → (k +ℤ pos (bytes_in w)) ≤ℤ piece.end
    → (place : OperandPlace) × IsFramePlace e entry k w place

-- One instruction.

-- a clean step of an instruction is about to be made, where the stack stands
pub record IsCleanInstruction (e : Setting) (s : Machine) (stack : Stack) (instr : Instr) : Type 0 where
  pub of_file : IsProgramOfFile e.cpu e.image e.program
  pub numbered : AreNumbered e
  pub stands : StackStands e.image e.program.layout s stack
  pub found : instruction_in e.image e.program.layout s.ip ≡ Some instr
  pub clean : foul_of e.program stack s (Some instr) ≡ None

module _ {e : Setting} {s : Machine} {stack : Stack} {instr : Instr} (is : IsCleanInstruction e s stack instr) where
  -- both runs agree within the instruction, with these bytes of the stack written
  abbrev pub Within : List Bool → Relation
  Within written t u = Coupled e is.stands.newest is.stands.callers written t u

  -- the access to a memory operand
  abbrev pub operand_access : Direction → Width → Ea → Access
  operand_access direction w ea = record {
    direction = direction;
    kind = kind_of ea;
    segment = segment_of s ea;
    offset = offset_of s ea;
    size = bytes_in w;
  }

  -- the instruction makes the access to its memory operand
  abbrev pub Makes : Direction → Width → Ea → Type 0
  Makes direction w ea = Contains (found_accesses (Some instr) s) (operand_access direction w ea)

  -- the bytes of the stack that are written after an access that stores
  abbrev pub written_by : Access → List Bool
  written_by access = with_marks true (stack_bytes e.program.layout (access ∷ [])) stack.written

-- a memory operand that a clean instruction reads is read at its place
abbrev pub OperandsAreRead : Type 0
OperandsAreRead =
    (e : Setting) (s : Machine) (stack : Stack) (instr : Instr) (w : Width) (ea : Ea) (place : OperandPlace) (ip : ℕ)
    (is : IsCleanInstruction e s stack instr) → memory_operand instr.op ≡ Some (w, ea) → Makes is Reading w ea
    → IsOperandPlace e is.stands.newest.frame.entry (Within is stack.written) (record s { ip = ip }) ea w place
    → IsRead (Within is stack.written) (record s { ip = ip }) (Mem w ea) place

-- a memory operand that a clean instruction writes is written at its place
abbrev pub OperandsAreWritten : Type 0
OperandsAreWritten =
    (e : Setting) (s : Machine) (stack : Stack) (instr : Instr) (w : Width) (ea : Ea) (place : OperandPlace) (ip : ℕ)
    (is : IsCleanInstruction e s stack instr) → memory_operand instr.op ≡ Some (w, ea)
    → writes_memory instr.op ≡ true → Makes is Writing w ea
    → IsOperandPlace e is.stands.newest.frame.entry (Within is stack.written) (record s { ip = ip }) ea w place
    → IsWritten (Within is stack.written) (Within is (written_by is (operand_access is Writing w ea)))
    (record s { ip = ip }) (Mem w ea) place

-- Addresses in the inner run, where the instruction's flags don't matter.

pub record AddressesAreTold : Type 0 where
  -- SP is the address of a byte of the frame and a number
  pub sp :
      (e : Setting) (a : Activation) (callers : List Activation) (written : List Bool) (s : Machine) (t : State)
      (k : ℤ) (stands : StandsIn e.image e.program.layout s.memory a (top_in e.program.layout s) (word_in s Bp))
      → Coupled e a callers written s t
      → (value_in t (frame_address k)
      + wrapped_of word_width (((pos 2 -ℤ pos stands.height) -ℤ pos e.program.layout.delta) -ℤ k)) % 65536
      ≡ word_in s Sp
  -- BP is the address of a byte of the frame and a number, where an instruction exposes bytes of the frame
  pub bp :
      (e : Setting) (s : Machine) (stack : Stack) (instr : Instr) (ip : ℕ) (start k : ℤ) (flags : Flags) (t : State)
      (is : IsCleanInstruction e s stack instr)
      → StartsExposure e.image e.program.layout is.stands.newest.frame.entry is.stands.newest.at start
      → Within is stack.written (with_flags flags (record s { ip = ip })) t
      → (value_in t (frame_address k) + wrapped_of word_width (neg_ℤ k)) % 65536 ≡ word_in s Bp
  -- an expression with the sum of an address is its offset; with BP as its base the instruction exposes bytes of the
  -- frame
  pub offset :
      (e : Setting) (s : Machine) (stack : Stack) (instr : Instr) (ip : ℕ) (ea : Ea) (at : Expr)
      (is : IsCleanInstruction e s stack instr) → IsPlainAddress ea
      → (is_bp ea.base ≡ true
      → StartsExposure e.image e.program.layout is.stands.newest.frame.entry is.stands.newest.at (offset_in_frame ea))
      → ((t : State) → value_in t at ≡ address_value t ea)
      → IsOffset (Within is stack.written) (record s { ip = ip }) ea at

-- SP and BP.

-- SP and BP take words, and the run of the inner language stays as it is
pub record PointersMove : Type 0 where
  -- SP falls, down to the stack's low end at most
  pub falls :
      (e : Setting) (a : Activation) (callers : List Activation) (written : List Bool) (s : Machine) (t : State)
      (sp : ℕ) → Coupled e a callers written s t → sp < 65536
      → e.program.layout.lo ≤ sp + e.program.layout.delta → sp ≤ word_in s Sp
      → ((offset : ℕ) → is_marked written offset ≡ true → top_in e.program.layout s ≤ offset)
      → Coupled e a callers written (with_word_in s Sp sp) t
  -- SP rises, and some bytes are written no longer
  pub rises :
      (e : Setting) (a : Activation) (callers : List Activation) (written : List Bool) (s : Machine) (t : State)
      (sp : ℕ) (offsets : List ℕ) → Coupled e a callers written s t → sp < 65536 → word_in s Sp ≤ sp
      → Coupled e a callers (with_marks false offsets written) (with_word_in s Sp sp) t
  pub bp :
      (e : Setting) (a : Activation) (callers : List Activation) (written : List Bool) (s : Machine) (t : State)
      (bp : ℕ) → Coupled e a callers written s t → bp < 65536 → Coupled e a callers written (with_word_in s Bp bp) t

-- Steps.

-- Where the runs agree after a clean step of an instruction other than CALL and RET, with the bytes that are written
-- then, they agree at the next instruction.
abbrev pub StepsAgree : Type 0
StepsAgree =
    (e : Setting) (s : Machine) (stack : Stack) (instr : Instr) (t u : State)
    (is : IsCleanInstruction e s stack instr) → moves_frames instr.op ≡ false → Within is stack.written s t
    → Within is
    (stack_after e.program.layout (Some instr) s (step e.program.layout.cpu s) stack).written
    (step e.program.layout.cpu s) u
    → AreCoupled e (step e.program.layout.cpu s)
    (stack_after e.program.layout (Some instr) s (step e.program.layout.cpu s) stack) u

-- After a clean step, and the statements of an operation that leaves SP and whose operands stand at these places, both
-- runs agree at the next instruction.
abbrev pub OperationsAgree : Type 0
OperationsAgree =
    (e : Setting) (s : Machine) (stack : Stack) (instr : Instr) (t : State) (number : Option ℕ) (p q : OperandPlace)
    (is : IsCleanInstruction e s stack instr) → moves_frames instr.op ≡ false
    → top_in e.program.layout (step e.program.layout.cpu s) ≡ top_in e.program.layout s
    → Stands (Within is stack.written)
    (Within is
    (with_marks true (stored_bytes e.program.layout (found_accesses (Some instr) s)) stack.written))
    (record s { ip = next_of s.ip instr }) instr.op p q
    → Within is stack.written s t
    → AreCoupled e (step e.program.layout.cpu s)
    (stack_after e.program.layout (Some instr) s (step e.program.layout.cpu s) stack)
    (execute (op_stmts e.program.layout.cpu instr.op number p q) t)

-- After a PUSH of an operand other than SP and BP both runs agree, where the word of the frame below SP takes the
-- operand, at its place.
abbrev pub WordsArePushed : Type 0
WordsArePushed =
    (e : Setting) (s : Machine) (stack : Stack) (instr : Instr) (x : Operand) (t : State) (place : OperandPlace)
    (is : IsCleanInstruction e s stack instr)
    (stands :
    StandsIn e.image e.program.layout s.memory is.stands.newest (top_in e.program.layout s) (word_in s Bp))
    → instr.op ≡ Push x → is_sp_or_bp x ≡ false → Within is stack.written s t
    → IsFramePlace e is.stands.newest.frame.entry (neg_ℤ (pos stands.height)) word_width place
    → AreCoupled e (step e.program.layout.cpu s)
    (stack_after e.program.layout (Some instr) s (step e.program.layout.cpu s) stack) (taken place (operand_value s
    x) t)

-- After `mov bp,sp`, `mov sp,bp`, LEA of SP from BP, `pop bp` and LEAVE both runs agree, and the inner run stays as it
-- is.
abbrev pub PointersAreSet : Type 0
PointersAreSet =
    (e : Setting) (s : Machine) (stack : Stack) (instr : Instr) (t : State) (is : IsCleanInstruction e s stack instr)
    → (is_mov_bp_sp instr.op || leaves_frame instr.op) ≡ true → Within is stack.written s t
    → AreCoupled e (step e.program.layout.cpu s)
    (stack_after e.program.layout (Some instr) s (step e.program.layout.cpu s) stack) t

-- After a CALL both runs agree, where the inner run has begun the procedure that is called.
abbrev pub CallsBegin : Type 0
CallsBegin =
    (e : Setting) (s : Machine) (stack : Stack) (instr : Instr) (target : ℕ) (t u : State)
    (is : IsCleanInstruction e s stack instr) → instr.op ≡ Call target → Within is stack.written s t
    → Begins e (begun target (top_in e.program.layout s) (word_in s Bp)) is.stands.newest is.stands.callers
    stack.written s t u
    → AreCoupled e (step e.program.layout.cpu s)
    (stack_after e.program.layout (Some instr) s (step e.program.layout.cpu s) stack) u

-- After a RET both runs agree, where the inner run has returned to the procedure that waits.
abbrev pub CallsReturn : Type 0
CallsReturn =
    (e : Setting) (s : Machine) (stack : Stack) (instr : Instr) (count : ℕ) (t u : State)
    (is : IsCleanInstruction e s stack instr) → instr.op ≡ Ret count → Within is stack.written s t
    → Returns e is.stands.newest is.stands.callers stack.written t u
    → AreCoupled e (step e.program.layout.cpu s)
    (stack_after e.program.layout (Some instr) s (step e.program.layout.cpu s) stack) u
