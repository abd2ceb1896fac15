-- What holds at each node of an accepted program: which height it has, how its instruction uses SP and BP there, and
-- which bytes of the frame it reaches.
use Rattle.std.specs.Prelude.{◌≡◌, ◌≢◌, ◌≤◌, ◌<◌, ◌⊎◌, ℕ, ◌+◌, ◌*◌, ℤ, pos, ◌-ℤ◌, ◌≤ℤ◌, Bool, true, false, List, ◌∷◌}
use Rattle.std.specs.Prelude.{map, Some, All, Contains}
use Rattle.dcc_num.specs.declared.Width.{Width}
use Rattle.dcc_num.specs.declared.Reg.TheVariants.{Sp, Bp}
use Rattle.dcc_num.specs.declared.Half.{Half}
use Rattle.dcc_machine.specs.declared.cpu.Cpu.{Cpu}
use Rattle.dcc_machine.specs.declared.image.Image.{Image}
use Rattle.dcc_prog.specs.declared.procedure.Layout.{Layout}
use Rattle.dcc_prog.specs.declared.frame.Frame.{Frame}
use Rattle.dcc_prog.specs.declared.frame.Program.{Program}
use Rattle.dcc_machine.specs.declared.instr.Ea.{Ea}
use Rattle.dcc_machine.specs.declared.instr.Operand.{Operand}
use Rattle.dcc_machine.specs.declared.instr.Operand.TheVariants.{Word}
use Rattle.dcc_machine.specs.declared.instr.Op.{Op}
use Rattle.dcc_machine.specs.declared.instr.Op.TheVariants.{Mov, Lea, Push, Pop, Enter, Leave, Table, Call, Ret, Int21}
use Rattle.dcc_machine.specs.declared.instr.Instr.{Instr}
use Rattle.dcc_machine.specs.Access.{is_direct}
use Rattle.dcc_machine.specs.Writes.{writes_half}
use Rattle.dcc_prog.specs.Trail.{instruction_in, StandsAt, known_ah, table_number, successors, IsTrail, IsEntry}
use Rattle.dcc_machine.specs.SpAndBp.{is_sp_or_bp, address_uses_bp, is_by_bp}
use Rattle.dcc_prog.specs.FrameForm.{is_framed}
use Rattle.dcc_prog.specs.Height.{lowering_of, IsRemoved, MovesHeight, GivesHeight}
use Rattle.dcc_prog.specs.Frame.{Span, span_of, memory_operand, own_bytes, IsDirectAccess, StartsExposure, HasArguments}
use Rattle.dcc_prog.specs.Frame.{IsCell, HasExposedLocal, HasExposedArguments}
use Rattle.dcc_prog.specs.Construct.{is_system}
use Rattle.dcc_machine.specs.MzImage.{IsLoaded}
use Rattle.dcc_prog.specs.Clean.{frame_in}
use Rattle.dcc_prog.specs.CleanLaws.{moves_frames}
use Rattle.dcc_prog.specs.Analysed.{bytes_of, IsProgramOf}

-- a trail of a reached procedure ends at an offset, and gives it a height
pub record IsAt (image : Image) (layout : Layout) (entry at : ℕ) (before : List ℕ) (height : ℤ) : Type 0 where
  pub is_entry : IsEntry image layout entry
  pub trail : IsTrail image layout entry (at ∷ before)
  pub gives : GivesHeight image layout entry (at ∷ before) height

-- a file's image with the program that the analyses find in it
pub record IsProgramOfFile (cpu : Cpu) (image : Image) (program : Program) : Type 0 where
  pub loaded : IsLoaded image
  pub is_program : IsProgramOf cpu image program

-- Heights.

-- a height is a number of bytes, and in a framed procedure 0 or more than the saved BP takes
pub record HeightFits (image : Image) (layout : Layout) (entry : ℕ) (height : ℤ) : Type 0 where
  pub number : ℕ
  pub is : height ≡ pos number
  pub bound : number ≤ 32766
  pub framed : is_framed image layout entry ≡ true → (number ≡ 0) ⊎ (2 ≤ number)

-- Forms.

-- at the height the procedure's frame is set up: it is framed, and the saved BP is on the stack
pub record IsSetUp (image : Image) (layout : Layout) (entry height : ℕ) : Type 0 where
  pub framed : is_framed image layout entry ≡ true
  pub deep : 2 ≤ height

-- an operand other than SP and BP, whose address uses BP only where the frame is set up
pub record IsPlainOperand (image : Image) (layout : Layout) (entry height : ℕ) (a : Operand) : Type 0 where
  pub other : is_sp_or_bp a ≡ false
  pub by_bp : is_by_bp a ≡ true → IsSetUp image layout entry height

-- how an operation uses SP and BP, at a height
pub data IsForm (image : Image) (layout : Layout) (entry at height : ℕ) : Op → Type 0 where
  -- `push bp`, `mov bp,sp` and ENTER set the frame up
  saves :
      is_framed image layout entry ≡ true → at ≡ entry → height ≡ 0
      → IsForm image layout entry at height (Push (Word Bp))
  points :
      is_framed image layout entry ≡ true → height ≡ 2 → IsForm image layout entry at height (Mov (Word Bp) (Word Sp))
  enters :
      {count : ℕ}
      → is_framed image layout entry ≡ true
      → at ≡ entry
      → height ≡ 0
      → count < 65536
      → IsForm image layout entry at height (Enter count)
  -- `mov sp,bp`, LEA of SP from BP, `pop bp` and LEAVE give bytes of the frame up
  falls_back : IsSetUp image layout entry height → IsForm image layout entry at height (Mov (Word Sp) (Word Bp))
  falls_to :
      {ea : Ea}
      → IsSetUp image layout entry height
      → is_direct ea ≡ true
      → IsForm image layout entry at height (Lea Sp ea)
  restores : is_framed image layout entry ≡ true → height ≡ 2 → IsForm image layout entry at height (Pop (Word Bp))
  leaves : IsSetUp image layout entry height → IsForm image layout entry at height Leave
  pushes :
      {a : Operand}
      → IsPlainOperand image layout entry height a
      → IsForm image layout entry at height (Push a)
  pops : {a : Operand} → IsPlainOperand image layout entry height a → IsForm image layout entry at height (Pop a)
  calls : {target : ℕ} → IsForm image layout entry at height (Call target)
  returns : {count : ℕ} → height ≡ 0 → entry ≢ layout.start_ip → IsForm image layout entry at height (Ret count)
  moves : {op : Op} {bytes : ℤ} → lowering_of op ≡ Some bytes → IsForm image layout entry at height op
  -- an operation of no other case writes neither SP nor BP
  keeps :
      {op : Op}
      → moves_frames op ≡ false
      → ((half : Half) → writes_half op Sp half ≡ false)
      → ((half : Half) → writes_half op Bp half ≡ false)
      → IsForm image layout entry at height op

-- `push bp`, ENTER, `pop bp` and LEAVE: these alone set the frame up or give it up
abbrev pub changes_frame : Op → Bool
changes_frame (Push (Word Bp)) = true
changes_frame (Enter count) = true
changes_frame (Pop (Word Bp)) = true
changes_frame Leave = true
changes_frame op = false

-- the frame is set up at both heights, or at neither
abbrev pub FrameStays : ℕ → ℕ → Type 0
FrameStays height after = ((2 ≤ height) × (2 ≤ after)) ⊎ ((height ≡ 0) × (after ≡ 0))

-- What is known of the instruction at a node after a trail: its form; that the address of its memory operand uses BP
-- only where the frame is set up; and what the trail tells of the numbers that a DOS call and a table need.
pub record IsNodeOf (image : Image) (layout : Layout) (entry at : ℕ) (before : List ℕ) (height : ℕ) : Type 0 where
  pub instr : Instr
  pub stands : instruction_in image layout at ≡ Some instr
  pub form : IsForm image layout entry at height instr.op
  pub no_system : is_system instr.op ≡ false
  pub by_bp :
      {width : Width} {ea : Ea}
      → memory_operand instr.op ≡ Some (width, ea)
      → address_uses_bp ea ≡ true
      → IsSetUp image layout entry height
  -- without a displacement alone the stack is in the data segment at its own offsets
  pub indexed :
      {width : Width} {ea : Ea}
      → memory_operand instr.op ≡ Some (width, ea)
      → address_uses_bp ea ≡ true
      → is_direct ea ≡ false
      → layout.delta ≡ 0
  pub ah : instr.op ≡ Int21 → (number : ℕ) × (known_ah image layout before ≡ Some number)
  pub table :
      (r : _) (offset : ℕ)
      → instr.op ≡ Table r offset
      → (number : ℕ) × (table_number image layout r before ≡ Some number)

-- Bytes.

-- bytes of the frame, counted from the base less 4, that lie in the arguments, or between SP and BP
pub data IsInFrame (image : Image) (layout : Layout) (entry height : ℕ) (span : Span) : Type 0 where
  in_arguments :
      {count : ℕ}
      → HasArguments image layout entry count
      → pos 4 ≤ℤ span.first
      → span.end ≤ℤ pos (4 + 2 * count)
      → IsInFrame image layout entry height span
  in_locals :
      (pos 2 -ℤ pos height) ≤ℤ span.first
      → span.end ≤ℤ pos 0
      → IsInFrame image layout entry height span

-- From a byte on addresses of the frame are computed: this is done where the frame is set up, the data segment has
-- these bytes at their own offsets, and the byte is one of the frame.
pub record IsGoodStart (image : Image) (layout : Layout) (entry height : ℕ) (start : ℤ) : Type 0 where
  pub set_up : IsSetUp image layout entry height
  pub near : layout.delta ≡ 0
  pub inside : IsInFrame image layout entry height (span_of start 1)

-- the frame that is found for a procedure
pub record IsFrameFor (image : Image) (program : Program) (entry : ℕ) (frame : Frame) : Type 0 where
  pub found : frame_in program.procs.items program.cells.frames.items entry ≡ Some frame
  pub framed : frame.framed ≡ is_framed image program.layout entry
  pub arguments : HasArguments image program.layout entry frame.args
  pub cells : All (λ cell. IsCell image program.layout entry (bytes_of cell)) frame.cells.items
  pub every : (cell : Span) → IsCell image program.layout entry cell → Contains (map bytes_of frame.cells.items) cell
  pub local : HasExposedLocal image program.layout entry frame.exposed.local
  pub argument : HasExposedArguments image program.layout entry frame.exposed.arg

-- The laws.

pub record AcceptedProgramsAreInForm : Type 0 where
  pub heights :
      (cpu : Cpu) (image : Image) (program : Program) (entry at : ℕ) (before : List ℕ) (height : ℤ)
      → IsProgramOfFile cpu image program → IsAt image program.layout entry at before height
      → HeightFits image program.layout entry height
  pub one_height :
      (cpu : Cpu) (image : Image) (program : Program) (entry at : ℕ) (before before' : List ℕ) (height height' : ℤ)
      → IsProgramOfFile cpu image program → IsAt image program.layout entry at before height
      → IsAt image program.layout entry at before' height' → height ≡ height'
  pub nodes :
      (cpu : Cpu) (image : Image) (program : Program) (entry at : ℕ) (before : List ℕ) (height : ℕ)
      → IsProgramOfFile cpu image program → IsAt image program.layout entry at before (pos height)
      → IsNodeOf image program.layout entry at before height
  -- each operation but RET moves the height at its node to one other height
  pub moved :
      (cpu : Cpu) (image : Image) (program : Program) (entry at : ℕ) (before : List ℕ) (height : ℕ) (op : Op)
      → IsProgramOfFile cpu image program → IsAt image program.layout entry at before (pos height)
      → StandsAt image program.layout at op → ((count : ℕ) → op ≢ Ret count)
      → (after : ℕ) × MovesHeight image program.layout entry at op (pos height) (pos after)
  -- in a framed procedure all operations but `push bp`, ENTER, `pop bp` and LEAVE leave the frame set up, or not set
  -- up, as it is
  pub stays :
      (cpu : Cpu) (image : Image) (program : Program) (entry at : ℕ) (before : List ℕ) (height after : ℕ) (op : Op)
      → IsProgramOfFile cpu image program → IsAt image program.layout entry at before (pos height)
      → StandsAt image program.layout at op → MovesHeight image program.layout entry at op (pos height) (pos after)
      → is_framed image program.layout entry ≡ true → changes_frame op ≡ false → FrameStays height after
  -- the trail goes on to its successors, with the height after its last operation
  pub goes_on :
      (cpu : Cpu) (image : Image) (program : Program) (entry at next : ℕ) (before : List ℕ) (op : Op) (height after : ℤ)
      → IsProgramOfFile cpu image program → IsAt image program.layout entry at before height
      → StandsAt image program.layout at op → MovesHeight image program.layout entry at op height after
      → Contains (successors image program.layout (at ∷ before)) next
      → IsAt image program.layout entry next (at ∷ before) after
  -- a RET removes what a CALL of its procedure does
  pub removed :
      (cpu : Cpu) (image : Image) (program : Program) (entry at count bytes : ℕ) (before : List ℕ) (height : ℤ)
      → IsProgramOfFile cpu image program → IsAt image program.layout entry at before height
      → StandsAt image program.layout at (Ret count) → IsRemoved image program.layout entry bytes → bytes ≡ count
  pub accesses :
      (cpu : Cpu) (image : Image) (program : Program) (entry at : ℕ) (before : List ℕ) (height : ℕ) (span : Span)
      → IsProgramOfFile cpu image program → IsAt image program.layout entry at before (pos height)
      → IsDirectAccess image program.layout entry at span → IsInFrame image program.layout entry height span
  pub starts :
      (cpu : Cpu) (image : Image) (program : Program) (entry at : ℕ) (before : List ℕ) (height : ℕ) (start : ℤ)
      → IsProgramOfFile cpu image program → IsAt image program.layout entry at before (pos height)
      → StartsExposure image program.layout entry at start → IsGoodStart image program.layout entry height start
  -- the arguments of a callee lie in its caller's own bytes
  pub arguments :
      (cpu : Cpu) (image : Image) (program : Program) (entry at target count : ℕ) (before : List ℕ) (height : ℕ)
      → IsProgramOfFile cpu image program → IsAt image program.layout entry at before (pos height)
      → StandsAt image program.layout at (Call target) → HasArguments image program.layout target count
      → pos (2 * count) ≤ℤ own_bytes image program.layout entry (pos height)
  pub frames :
      (cpu : Cpu) (image : Image) (program : Program) (entry : ℕ)
      → IsProgramOfFile cpu image program → IsEntry image program.layout entry
      → (frame : Frame) × IsFrameFor image program entry frame
