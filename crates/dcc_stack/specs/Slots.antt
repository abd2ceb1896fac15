-- Frames as variables: what a second run keeps of the machine's stack, whose frames have variables, and memory for
-- exposed bytes alone. Nothing is said of bytes that no step has written.
use Rattle.std.specs.Prelude.{◌≡◌, ◌≤◌, ◌<◌, ◌⊎◌, ℕ, ◌+◌, ◌*◌, ◌&&◌, ◌||◌, if◌then◌else◌, ℤ, pos, ◌+ℤ◌, ◌-ℤ◌, ◌<ℤ◌}
use Rattle.std.specs.Prelude.{int_le, int_lt, Bool, true, false, List, [], ◌∷◌, ◌++◌, length, map, slice_index}
use Rattle.std.specs.Prelude.{slice_set, Option, Some, None}
use Rattle.std.specs.List.{range_with_len, list_any}
use Rattle.std.specs.Ordering.{int_eq}
use Rattle.dcc_num.specs.declared.Width.{Width}
use Rattle.dcc_machine.specs.declared.image.Image.{Image}
use Rattle.dcc_prog.specs.declared.procedure.Layout.{Layout}
use Rattle.dcc_prog.specs.declared.procedure.Node.{Node}
use Rattle.dcc_prog.specs.declared.procedure.Proc.{Proc}
use Rattle.dcc_prog.specs.declared.frame.Frame.{Frame}
use Rattle.dcc_prog.specs.declared.frame.Program.{Program}
use Rattle.dcc_machine.specs.declared.instr.Ea.{Ea}
use Rattle.dcc_machine.specs.declared.instr.Operand.{Operand}
use Rattle.dcc_machine.specs.declared.instr.Operand.TheVariants.{Mem}
use Rattle.dcc_machine.specs.declared.instr.Op.{Op}
use Rattle.dcc_machine.specs.declared.instr.Op.TheVariants.{Alu, Unary, Shift, Mov, Xchg, Pop}
use Rattle.dcc_machine.specs.Machine.{State}
use Rattle.dcc_machine.specs.Writes.{writes_operand}
use Rattle.dcc_machine.specs.Access.{bytes_in, writes_back, is_direct}
use Rattle.dcc_prog.specs.Trail.{StandsAt, IsNode, IsEntry}
use Rattle.dcc_prog.specs.Frame.{Span, span_of, memory_operand, offset_in_frame, IsDirectAccess, argument_word}
use Rattle.dcc_prog.specs.Frame.{HasArguments, IsExposedSlot, IsPlaced}
use Rattle.dcc_prog.specs.Analysed.{bytes_of}
use Rattle.dcc_prog.specs.Clean.{LiveFrame, Stack, end_of, exposes, is_exposed_byte, is_marked, top_in}
use Rattle.dcc_stack.specs.Standing.{Activation, StackStands}
use Rattle.dcc_stack.specs.Apart.{control_size, IsApart}

-- Arguments that are given back.

abbrev pub is_memory : Operand → Bool
is_memory (Mem width ea) = true
is_memory operand = false

-- the operation writes its operand in memory
abbrev pub writes_memory : Op → Bool
writes_memory (Alu operation a b) = writes_operand operation && is_memory a
writes_memory (Unary operation a) = writes_back operation && is_memory a
writes_memory (Shift operation a count) = is_memory a
writes_memory (Mov to from) = is_memory to
writes_memory (Xchg a b) = true
writes_memory (Pop a) = is_memory a
writes_memory op = false

-- a procedure may change the word of an argument: it writes one of its bytes by a direct access, or exposes it
pub data IsGivenBack (image : Image) (layout : Layout) (entry number : ℕ) : Type 0 where
  by_write :
      {at : ℕ} {op : Op} {span : Span}
      → IsNode image layout entry at
      → StandsAt image layout at op
      → writes_memory op ≡ true
      → IsDirectAccess image layout entry at span
      → span.first <ℤ (argument_word number).end
      → (argument_word number).first <ℤ span.end
      → IsGivenBack image layout entry number
  by_exposure : IsExposedSlot image layout entry (argument_word number) → IsGivenBack image layout entry number

-- Frames with variables.

-- an activation with the bytes of its frame that are in variables, by their offsets from the base less 4
pub record Typed : Type 0 where
  pub activation : Activation
  pub slots : ℤ → ℕ

-- where an offset of the data segment lies in a frame, from its base less 4
abbrev pub place_in : Typed → ℕ → ℤ
place_in t offset = pos (offset + 4) -ℤ pos t.activation.frame.base

-- A byte of the frame has this value: in the memory of the second run where it is placed, else in a variable.
pub record Holds (image : Image) (layout : Layout) (other : List ℕ) (t : Typed) (offset value : ℕ) : Type 0 where
  pub placed : IsPlaced image layout t.activation.frame.entry (place_in t offset) → slice_index other offset ≡ value
  pub kept : ¬ IsPlaced image layout t.activation.frame.entry (place_in t offset) → t.slots (place_in t offset) ≡ value

-- the byte lies in an argument word that the procedure may change
pub record IsChangeable (image : Image) (layout : Layout) (frame : LiveFrame) (offset : ℕ) : Type 0 where
  pub number : ℕ
  pub count : ℕ
  pub arguments : HasArguments image layout frame.entry count
  pub is_argument : number < count
  pub is_given_back : IsGivenBack image layout frame.entry number
  pub from : frame.base + 2 * number ≤ offset
  pub to : offset < frame.base + 2 * number + 2

-- The written bytes of each frame's part hold what the machine's memory has there, but for return addresses and saved
-- BPs, and for the bytes of a waiting frame that its callee may change. A part reaches from where SP stands, or from
-- the base of the next newer frame, up to the end of the arguments.
abbrev pub AreHeld : Program → Image → List ℕ → List ℕ → List Bool → (ℕ → Type 0) → ℕ → List Typed → Type 0
AreHeld program image memory other written Changes top [] = Unit {0}
AreHeld program image memory other written Changes top (t ∷ callers) =
    ((offset : ℕ)
    → top ≤ offset → offset < end_of program t.activation.frame → is_marked written offset ≡ true
    → ¬ Changes offset → IsApart image program.layout offset t.activation
    → Holds image program.layout other t offset (slice_index memory (program.layout.ds * 16 + offset)))
    × AreHeld program image memory other written (IsChangeable image program.layout t.activation.frame)
    t.activation.frame.base callers

-- What the frames with variables, and the memory of the second run, hold of the machine's memory, where SP stands at an
-- offset.
pub record Carries (program : Program) (image : Image) (memory other : List ℕ) (written : List Bool) (top : ℕ)
    (typed : List Typed) : Type 0 where
  pub size : length other ≡ 65536
  pub bytes : (offset : ℕ) → slice_index other offset < 256
  -- outside the stack the memories are the same
  pub outside :
      (offset : ℕ)
      → offset < 65536
      → (offset < program.layout.lo) ⊎ (program.layout.hi ≤ offset)
      → slice_index other offset ≡ slice_index memory (program.layout.ds * 16 + offset)
  pub held : AreHeld program image memory other written (λ offset. ⊥) top typed

-- Where frames lie.

-- A frame ends below the saved BP and the return address of its caller, whose own bytes its arguments are. The entry
-- procedure's frame has no arguments, and the stack ends two bytes before.
abbrev pub LiesBelow : Program → Image → LiveFrame → List Activation → Type 0
LiesBelow program image frame [] = (frame.base ≡ program.layout.hi + 2) × (end_of program frame ≡ frame.base)
LiesBelow program image frame (caller ∷ callers) =
    end_of program frame + control_size image program.layout caller ≤ caller.frame.base

-- the frames of procedures, the newest first, each of them below the next, and all at the stack's bytes
abbrev pub AreNested : Program → Image → List Activation → Type 0
AreNested program image [] = Unit {0}
AreNested program image (a ∷ callers) =
    IsEntry image program.layout a.frame.entry × (program.layout.lo ≤ a.frame.base)
    × LiesBelow program image a.frame callers × AreNested program image callers

abbrev pub activations_of : List Typed → List Activation
activations_of typed = map (λ (t : Typed). t.activation) typed

-- the frame that holds the offset exposes it, where SP stands at `top`
abbrev pub IsExposedIn : Program → ℕ → List Typed → ℕ → Type 0
IsExposedIn program top typed offset =
    is_exposed_byte program top (map (λ (a : Activation). a.frame) (activations_of typed)) offset ≡ true

-- two procedures that have begun have the same frame with the same bytes, wherever in their code they stand
pub record IsAlike (t u : Typed) : Type 0 where
  pub frame : u.activation.frame ≡ t.activation.frame
  pub slots : (k : ℤ) → u.slots k ≡ t.slots k

-- the machine with its stack, and the second run
pub record Couples (program : Program) (image : Image) (s : State) (stack : Stack) (typed : List Typed)
    (other : List ℕ) : Type 0 where
  pub stands : StackStands image program.layout s stack
  pub activations : activations_of typed ≡ stands.newest ∷ stands.callers
  pub carries : Carries program image s.memory other stack.written (top_in program.layout s) typed

-- Writes of the second run.

abbrev pub with_slot : Typed → ℤ → ℕ → Typed
with_slot t place value = record t { slots = λ k. if int_eq k place then value else t.slots k }

-- a byte of a frame takes a value: in memory where it is placed, else in a variable
pub data Puts (image : Image) (layout : Layout) (t : Typed) (other : List ℕ) (offset value : ℕ) :
    Typed → List ℕ → Type 0 where
  in_memory :
      IsPlaced image layout t.activation.frame.entry (place_in t offset)
      → Puts image layout t other offset value t (slice_set other offset value)
  in_slot :
      ¬ IsPlaced image layout t.activation.frame.entry (place_in t offset)
      → Puts image layout t other offset value (with_slot t (place_in t offset) value) other

-- bytes of a frame take values, one after another
pub data PutsAll (image : Image) (layout : Layout) (values : ℕ → ℕ) :
    Typed → List ℕ → List ℕ → Typed → List ℕ → Type 0 where
  done : {t : Typed} {other : List ℕ} → PutsAll image layout values t other [] t other
  next :
      {t u after : Typed} {other between others : List ℕ} {offset : ℕ} {offsets : List ℕ}
      → Puts image layout t other offset (values offset) u between
      → PutsAll image layout values u between offsets after others
      → PutsAll image layout values t other (offset ∷ offsets) after others

-- no byte is newly marked but the one at the offset
abbrev pub MarksAt : ℕ → List Bool → List Bool → Type 0
MarksAt offset written after =
    (o : ℕ) → is_marked after o ≡ true → (o ≡ offset) ⊎ (is_marked written o ≡ true)

-- The bytes in memory, by what is found for a procedure.

abbrev pub is_within : ℤ → Span → Bool
is_within k span = int_le span.first k && int_lt k span.end

-- the frame exposes a byte of the span, which has two bytes at most
abbrev pub exposes_of : Frame → Span → Bool
exposes_of frame span =
    exposes frame span.first
    || (int_lt (span.first +ℤ pos 1) span.end && exposes frame (span.first +ℤ pos 1))

-- the cells and the argument words of a frame
abbrev pub slots_of : Frame → List Span
slots_of frame = map bytes_of frame.cells.items ++ map argument_word (range_with_len 0 frame.args)

-- the byte at a distance from the base less 4 stands in memory: the frame exposes it, or another byte of its slot
abbrev pub is_placed : Frame → ℤ → Bool
is_placed frame k =
    exposes frame k || list_any (λ span. is_within k span && exposes_of frame span) (slots_of frame)

-- Which arguments are given back, by what is found for a procedure.

-- the bytes of a direct access of a framed procedure, if the operation is one
abbrev pub direct_bytes : Option (Width × Ea) → Option Span
direct_bytes None = None
direct_bytes (Some (width, ea)) = if is_direct ea then Some (span_of (offset_in_frame ea) (bytes_in width)) else None

abbrev pub overlaps : Span → Option Span → Bool
overlaps word None = false
overlaps word (Some span) = int_lt span.first word.end && int_lt word.first span.end

-- the operation writes a byte of the span by a direct access
abbrev pub writes_directly : Op → Span → Bool
writes_directly op word = writes_memory op && overlaps word (direct_bytes (memory_operand op))

-- the procedure may change the word of this argument of its frame
abbrev pub gives_back : Proc → Frame → ℕ → Bool
gives_back proc frame number =
    exposes_of frame (argument_word number)
    || (frame.framed
    && list_any (λ (node : ℕ × Node). writes_directly node.1.instr.op (argument_word number)) proc.nodes.entries)
