-- How a second run goes on holding the machine's stack: what each kind of access, and each beginning and end of a
-- frame, gives and leaves. The laws speak of memories, marks and frames alone; which instruction does it doesn't
-- matter.
use Rattle.std.specs.Prelude.{◌≡◌, ◌≤◌, ◌<◌, ◌⊎◌, ◌↔◌, ℕ, ◌+◌, ◌*◌, ℤ, pos, ◌+ℤ◌, ◌-ℤ◌, ◌≤ℤ◌, ◌<ℤ◌, Bool, true, false}
use Rattle.std.specs.Prelude.{List, ◌∷◌, length, map, slice_index, slice_set, Contains, Some}
use Rattle.std.specs.List.{AllZip, filter_map}
use Rattle.dcc_machine.specs.declared.cpu.Cpu.{Cpu}
use Rattle.dcc_machine.specs.declared.image.Image.{Image}
use Rattle.dcc_prog.specs.declared.procedure.Layout.{Layout}
use Rattle.dcc_prog.specs.declared.procedure.Proc.{Proc}
use Rattle.dcc_prog.specs.declared.frame.Frame.{Frame}
use Rattle.dcc_prog.specs.declared.frame.Program.{Program}
use Rattle.dcc_machine.specs.declared.instr.Op.{Op}
use Rattle.dcc_prog.specs.Trail.{StandsAt, IsNode, IsEntry}
use Rattle.dcc_prog.specs.Frame.{Span, own_bytes, IsDirectAccess, IsPlaced}
use Rattle.dcc_machine.specs.Machine.{State}
use Rattle.dcc_machine.specs.Access.{Store, stored}
use Rattle.dcc_prog.specs.Clean.{LiveFrame, Stack, top_in, stack_offset, end_of, frame_in, is_marked, with_marks}
use Rattle.dcc_stack.specs.Accepted.{IsProgramOfFile, IsInFrame}
use Rattle.dcc_stack.specs.Standing.{Activation, StandsIn, Stand}
use Rattle.dcc_stack.specs.Apart.{IsApart}
use Rattle.dcc_stack.specs.Slots.{writes_memory, IsGivenBack, Typed, place_in, Holds, IsChangeable, Carries, Couples}
use Rattle.dcc_stack.specs.Slots.{AreNested, activations_of, IsExposedIn, IsAlike, Puts, PutsAll, MarksAt, is_placed}
use Rattle.dcc_stack.specs.Slots.{gives_back}

-- The second run holds the machine's stack, where SP stands at an offset of it and frames lie as those that stand.
pub record AreCarried (cpu : Cpu) (image : Image) (program : Program) (memory other : List ℕ) (written : List Bool)
    (top : ℕ) (typed : List Typed) : Type 0 where
  pub is_program : IsProgramOfFile cpu image program
  pub nested : AreNested program image (activations_of typed)
  pub low : program.layout.lo ≤ top
  pub size : length memory ≡ 1048576
  pub carries : Carries program image memory other written top typed

-- an offset of an argument's byte
abbrev pub IsArgumentByte : Program → LiveFrame → ℕ → Type 0
IsArgumentByte program frame offset = (frame.base ≤ offset) × (offset < end_of program frame)

-- bytes by their offsets, each stored at the place of its offset
abbrev pub stores_at : (ℕ → ℕ) → List ℕ → (ℕ → ℕ) → List Store
stores_at place offsets values = map (λ offset. record { address = place offset; byte = values offset }) offsets

-- the marks after writes at places that are offsets of the data segment: bytes of the stack are written
abbrev pub marks_at : Layout → List ℕ → List Bool → List Bool
marks_at layout offsets written =
    with_marks true (filter_map (stack_offset layout) (map (λ offset. layout.ds * 16 + offset) offsets)) written

-- a byte that the newest frame may write: one of its own, or of an argument that it may change
pub record IsWritable (image : Image) (program : Program) (t : Typed) (top offset : ℕ) : Type 0 where
  pub low : top ≤ offset
  pub high : offset < end_of program t.activation.frame
  pub apart : IsApart image program.layout offset t.activation
  pub changes : t.activation.frame.base ≤ offset → IsChangeable image program.layout t.activation.frame offset

pub record SlotsAreCarried : Type 0 where
  -- Frames.
  -- frames that stand in memory are nested
  pub nested :
      {cpu : Cpu} {image : Image} {program : Program} {memory : List ℕ} {activations : List Activation} {top bp : ℕ}
      → IsProgramOfFile cpu image program → Stand image program.layout memory activations top bp
      → program.layout.lo ≤ top → AreNested program image activations
  -- two runs that are coupled have frames that are carried
  pub coupled :
      {cpu : Cpu} {image : Image} {program : Program} {s : State} {stack : Stack} {typed : List Typed} {other : List ℕ}
      → IsProgramOfFile cpu image program → Couples program image s stack typed other
      → AreCarried cpu image program s.memory other stack.written (top_in program.layout s) typed
  -- which bytes stand in memory is told by the frame that is found
  pub placed :
      {cpu : Cpu} {image : Image} {program : Program} (entry : ℕ) (frame : Frame) (k : ℤ)
      → IsProgramOfFile cpu image program → IsEntry image program.layout entry
      → frame_in program.procs.items program.cells.frames.items entry ≡ Some frame
      → (is_placed frame k ≡ true) ↔ IsPlaced image program.layout entry k
  pub decided :
      {cpu : Cpu} {image : Image} {program : Program} (entry : ℕ) (k : ℤ) → IsProgramOfFile cpu image program
      → IsEntry image program.layout entry
      → IsPlaced image program.layout entry k ⊎ (¬ IsPlaced image program.layout entry k)
  -- which arguments are given back is told by the procedure and its frame, as they are found
  pub given_back :
      {cpu : Cpu} {image : Image} {program : Program} (proc : Proc) (frame : Frame) (number : ℕ)
      → IsProgramOfFile cpu image program → Contains program.procs.items proc
      → frame_in program.procs.items program.cells.frames.items proc.entry ≡ Some frame → number < frame.args
      → (gives_back proc frame number ≡ true) ↔ IsGivenBack image program.layout proc.entry number
  -- the bytes that accesses reach of a frame, and those whose addresses are computed, are its own or its arguments'
  pub in_frame :
      {cpu : Cpu} {image : Image} {program : Program} {memory : List ℕ} {a : Activation} {top bp : ℕ} {span : Span}
      (offset : ℕ) → IsProgramOfFile cpu image program
      → (stands : StandsIn image program.layout memory a top bp)
      → IsInFrame image program.layout a.frame.entry stands.height span
      → span.first ≤ℤ (pos (offset + 4) -ℤ pos a.frame.base) → (pos (offset + 4) -ℤ pos a.frame.base) <ℤ span.end
      → (top ≤ offset) × (offset < end_of program a.frame) × IsApart image program.layout offset a
  -- the bytes that a frame has of its own at the top of the stack, and those below, are apart from return addresses
  -- and saved BPs
  pub own :
      {cpu : Cpu} {image : Image} {program : Program} {memory : List ℕ} {a : Activation} {top bp : ℕ} (offset : ℕ)
      → IsProgramOfFile cpu image program → (stands : StandsIn image program.layout memory a top bp)
      → pos offset <ℤ (pos top +ℤ own_bytes image program.layout a.frame.entry (pos stands.height))
      → (offset < end_of program a.frame) × IsApart image program.layout offset a
  -- a byte of an argument that an instruction writes directly is one that may change
  pub changeable :
      {cpu : Cpu} {image : Image} {program : Program} {frame : LiveFrame} {at : ℕ} {op : Op} {span : Span} (offset : ℕ)
      → IsProgramOfFile cpu image program → IsEntry image program.layout frame.entry
      → IsNode image program.layout frame.entry at → StandsAt image program.layout at op → writes_memory op ≡ true
      → IsDirectAccess image program.layout frame.entry at span
      → span.first ≤ℤ (pos (offset + 4) -ℤ pos frame.base) → (pos (offset + 4) -ℤ pos frame.base) <ℤ span.end
      → IsArgumentByte program frame offset → IsChangeable image program.layout frame offset
  -- where in their procedures frames stand doesn't matter
  pub alike :
      {cpu : Cpu} {image : Image} {program : Program} {memory other : List ℕ} {written : List Bool} {top : ℕ}
      {typed after : List Typed} → AreCarried cpu image program memory other written top typed
      → AllZip IsAlike typed after → AreCarried cpu image program memory other written top after
  -- Memory.
  -- a byte outside the stack, or a written one that its frame exposes, is the same in both memories
  pub reads_memory :
      {cpu : Cpu} {image : Image} {program : Program} {memory other : List ℕ} {written : List Bool} {top : ℕ}
      {typed : List Typed} (offset : ℕ) → AreCarried cpu image program memory other written top typed
      → offset < 65536
      → (program.layout.lo ≤ offset → offset < program.layout.hi
      → (top ≤ offset) × IsExposedIn program top typed offset × (is_marked written offset ≡ true))
      → slice_index other offset ≡ slice_index memory (program.layout.ds * 16 + offset)
  -- a byte outside the stack, or one that its frame exposes, written or not, takes a value in both memories
  pub stores_memory :
      {cpu : Cpu} {image : Image} {program : Program} {memory other : List ℕ} {written : List Bool} {top : ℕ}
      {typed : List Typed} (offset value : ℕ) (marks : List Bool)
      → AreCarried cpu image program memory other written top typed
      → offset < 65536 → value < 256
      → (program.layout.lo ≤ offset → offset < program.layout.hi → IsExposedIn program top typed offset)
      → MarksAt offset written marks
      → AreCarried cpu image program (slice_set memory (program.layout.ds * 16 + offset) value)
      (slice_set other offset value) marks top typed
  -- a write may add no mark, or that of its own byte
  pub marks_stay : (offset : ℕ) (written : List Bool) → MarksAt offset written written
  pub marks_one : (offset : ℕ) (written : List Bool) → MarksAt offset written (slice_set written offset true)
  -- many such bytes do, one after another
  pub stores_many :
      {cpu : Cpu} {image : Image} {program : Program} {memory other : List ℕ} {written : List Bool} {top : ℕ}
      {typed : List Typed} (offsets : List ℕ) (values : ℕ → ℕ)
      → AreCarried cpu image program memory other written top typed → ((offset : ℕ) → values offset < 256)
      → ((offset : ℕ) → Contains offsets offset
      → (offset < 65536)
      × (program.layout.lo ≤ offset → offset < program.layout.hi → IsExposedIn program top typed offset))
      → AreCarried cpu image program
      (stored (stores_at (λ offset. program.layout.ds * 16 + offset) offsets values) memory)
      (stored (stores_at (λ offset. offset) offsets values) other) (marks_at program.layout offsets written) top typed
  -- The newest frame.
  -- a written byte of the newest frame's part is what the second run holds of it
  pub reads_own :
      {cpu : Cpu} {image : Image} {program : Program} {memory other : List ℕ} {written : List Bool} {top : ℕ}
      {t : Typed} {callers : List Typed} (offset : ℕ)
      → AreCarried cpu image program memory other written top (t ∷ callers)
      → top ≤ offset → offset < end_of program t.activation.frame → is_marked written offset ≡ true
      → IsApart image program.layout offset t.activation
      → Holds image program.layout other t offset (slice_index memory (program.layout.ds * 16 + offset))
  -- a byte that the newest frame may write takes a value, in memory and in the frame
  pub writes_own :
      {cpu : Cpu} {image : Image} {program : Program} {memory other : List ℕ} {written : List Bool} {top : ℕ}
      {t : Typed} {callers : List Typed} (offset value : ℕ) (marks : List Bool) {u : Typed} {after : List ℕ}
      → AreCarried cpu image program memory other written top (t ∷ callers)
      → IsWritable image program t top offset → value < 256
      → Puts image program.layout t other offset value u after → MarksAt offset written marks
      → AreCarried cpu image program (slice_set memory (program.layout.ds * 16 + offset) value) after marks top
      (u ∷ callers)
  -- many such bytes do, one after another
  pub writes_many :
      {cpu : Cpu} {image : Image} {program : Program} {memory other : List ℕ} {written : List Bool} {top : ℕ}
      {t : Typed} {callers : List Typed} (offsets : List ℕ) (values : ℕ → ℕ) {u : Typed} {after : List ℕ}
      → AreCarried cpu image program memory other written top (t ∷ callers) → ((offset : ℕ) → values offset < 256)
      → ((offset : ℕ) → Contains offsets offset → IsWritable image program t top offset)
      → PutsAll image program.layout values t other offsets u after
      → AreCarried cpu image program
      (stored (stores_at (λ offset. program.layout.ds * 16 + offset) offsets values) memory) after
      (marks_at program.layout offsets written) top (u ∷ callers)
  -- a frame whose bytes take values stays where it is
  pub puts_stay :
      {image : Image} {layout : Layout} {values : ℕ → ℕ} {t u : Typed} {other offsets after : List ℕ}
      → PutsAll image layout values t other offsets u after → u.activation ≡ t.activation
  -- a byte of the newest frame's return address or saved BP takes a value in the machine's memory alone
  pub writes_control :
      {cpu : Cpu} {image : Image} {program : Program} {memory other : List ℕ} {written : List Bool} {top : ℕ}
      {t : Typed} {callers : List Typed} (offset value : ℕ) (marks : List Bool)
      → AreCarried cpu image program memory other written top (t ∷ callers)
      → top ≤ offset → offset < program.layout.hi → ¬ IsApart image program.layout offset t.activation
      → MarksAt offset written marks
      → AreCarried cpu image program (slice_set memory (program.layout.ds * 16 + offset) value) other marks top
      (t ∷ callers)
  -- SP.
  -- SP falls, where no byte below its old place is marked
  pub lowers :
      {cpu : Cpu} {image : Image} {program : Program} {memory other : List ℕ} {written : List Bool} {top : ℕ}
      {typed : List Typed} (low : ℕ) → AreCarried cpu image program memory other written top typed
      → program.layout.lo ≤ low → low ≤ top
      → ((offset : ℕ) → is_marked written offset ≡ true → top ≤ offset)
      → AreCarried cpu image program memory other written low typed
  -- SP rises, and any marks are taken off
  pub raises :
      {cpu : Cpu} {image : Image} {program : Program} {memory other : List ℕ} {written : List Bool} {top : ℕ}
      {typed : List Typed} (high : ℕ) (offsets : List ℕ) → AreCarried cpu image program memory other written top typed
      → top ≤ high → AreCarried cpu image program memory other (with_marks false offsets written) high typed
  -- Beginnings and ends.
  -- where nothing is written, frames hold nothing
  pub begins :
      {image : Image} {program : Program} {memory other : List ℕ} {written : List Bool} (top : ℕ) (typed : List Typed)
      → length other ≡ 65536 → ((offset : ℕ) → slice_index other offset < 256)
      → ((offset : ℕ) → offset < 65536 → (offset < program.layout.lo) ⊎ (program.layout.hi ≤ offset)
      → slice_index other offset ≡ slice_index memory (program.layout.ds * 16 + offset))
      → ((offset : ℕ) → is_marked written offset ≡ false)
      → Carries program image memory other written top typed
  -- A frame begins where its caller stands. It holds the written bytes of its arguments; of memory no other bytes have
  -- changed than those of arguments that stand there.
  pub calls :
      {cpu : Cpu} {image : Image} {program : Program} {memory other : List ℕ} {written : List Bool} {caller : Typed}
      {callers : List Typed} (callee : Typed) (after : List ℕ)
      → AreCarried cpu image program memory other written callee.activation.frame.base (caller ∷ callers)
      → AreNested program image (activations_of (callee ∷ caller ∷ callers))
      → length after ≡ 65536 → ((offset : ℕ) → slice_index after offset < 256)
      → ((offset : ℕ) → IsArgumentByte program callee.activation.frame offset → is_marked written offset ≡ true
      → Holds image program.layout after callee offset (slice_index memory (program.layout.ds * 16 + offset)))
      → ((offset : ℕ) → (slice_index after offset ≡ slice_index other offset)
      ⊎ (IsArgumentByte program callee.activation.frame offset
      × IsPlaced image program.layout callee.activation.frame.entry (place_in callee offset)))
      → AreCarried cpu image program memory after written callee.activation.frame.base (callee ∷ caller ∷ callers)
  -- A frame begins, and each written byte of its arguments is read of the caller and then put into the callee.
  pub passes :
      {cpu : Cpu} {image : Image} {program : Program} {memory other : List ℕ} {written : List Bool} {caller : Typed}
      {callers : List Typed} (callee : Typed) (offsets : List ℕ) (values : ℕ → ℕ) {begun : Typed} {after : List ℕ}
      → AreCarried cpu image program memory other written callee.activation.frame.base (caller ∷ callers)
      → AreNested program image (activations_of (callee ∷ caller ∷ callers))
      → ((offset : ℕ) → Contains offsets offset → IsArgumentByte program callee.activation.frame offset)
      → ((offset : ℕ) → IsArgumentByte program callee.activation.frame offset → is_marked written offset ≡ true
      → Contains offsets offset × Holds image program.layout other caller offset (values offset))
      → ((offset : ℕ) → values offset < 256)
      → PutsAll image program.layout values callee other offsets begun after
      → AreCarried cpu image program memory after written callee.activation.frame.base (begun ∷ caller ∷ callers)
  -- A frame ends: the bytes of the arguments that it may have changed are read of it, and then put into the caller.
  pub returns :
      {cpu : Cpu} {image : Image} {program : Program} {memory other : List ℕ} {written : List Bool} {top : ℕ}
      {callee caller : Typed} {callers : List Typed} (offsets : List ℕ) (values : ℕ → ℕ) {resumed : Typed}
      {after : List ℕ} → AreCarried cpu image program memory other written top (callee ∷ caller ∷ callers)
      → top ≤ callee.activation.frame.base
      → ((offset : ℕ) → Contains offsets offset → IsChangeable image program.layout callee.activation.frame offset)
      → ((offset : ℕ) → IsChangeable image program.layout callee.activation.frame offset
      → is_marked written offset ≡ true
      → Contains offsets offset × Holds image program.layout other callee offset (values offset))
      → ((offset : ℕ) → values offset < 256)
      → PutsAll image program.layout values caller other offsets resumed after
      → AreCarried cpu image program memory after written callee.activation.frame.base (resumed ∷ callers)
