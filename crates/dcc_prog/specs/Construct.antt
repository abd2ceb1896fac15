-- The constructs for which a program is not decompiled. Each kind has a number, and is a predicate of the processor,
-- the image and an offset in its code segment: one file may have a construct on one processor and none on the other.
use Rattle.std.specs.Prelude.{◌≡◌, ◌≢◌, ◌≤◌, ◌<◌, ◌⊎◌, ℕ, ◌+◌, ◌*◌, ◌==◌, Bool, true, false, not, ◌||◌, List, ◌∷◌}
use Rattle.std.specs.Prelude.{length, Option, Some, None}
use Rattle.dcc_num.specs.declared.Reg.{Reg}
use Rattle.dcc_num.specs.declared.dos.TheConstants.{GETCHE, PUTC, GETCH, PUTS, EXIT}
use Rattle.dcc_prog.specs.declared.refusal.ConstructKind.{ConstructKind}
use Rattle.dcc_prog.specs.declared.refusal.ConstructKind.TheVariants.{NoLayout, OutsideProfile, IndirectJump}
use Rattle.dcc_prog.specs.declared.refusal.ConstructKind.TheVariants.{IndirectCall, DosNumber, StackHeight, FrameAccess}
use Rattle.dcc_prog.specs.declared.refusal.ConstructKind.TheVariants.{ArgumentsShort, ArgumentReused, SeveralResults}
use Rattle.dcc_prog.specs.declared.refusal.ConstructKind.TheVariants.{EntryReturn, Division}
use Rattle.dcc_prog.specs.declared.refusal.FrameFault.{FrameFault}
use Rattle.dcc_machine.specs.declared.cpu.Cpu.{Cpu}
use Rattle.dcc_machine.specs.declared.image.Image.{Image}
use Rattle.dcc_prog.specs.declared.procedure.Layout.{Layout}
use Rattle.dcc_machine.specs.declared.instr.Op.{Op}
use Rattle.dcc_machine.specs.declared.instr.Op.TheVariants.{Mov, Plain as PlainOp, Table, Call, Ret, Int21}
use Rattle.dcc_machine.specs.Machine.{is_segment}
use Rattle.dcc_machine.specs.Bytes.{byte_at}
use Rattle.dcc_machine.specs.Operands.{reg_field}
use Rattle.dcc_machine.specs.Operations.{is_control}
use Rattle.dcc_prog.specs.Layout.{HasLayout}
use Rattle.dcc_prog.specs.Trail.{code_within, instruction_in, StandsAt, known_ah, table_number, IsTrail, IsNode}
use Rattle.dcc_prog.specs.Trail.{IsEntry}
use Rattle.dcc_prog.specs.FrameForm.{is_frame_form}
use Rattle.dcc_prog.specs.Prepared.{IsUnprepared}
use Rattle.dcc_prog.specs.Height.{IsMisplaced, HasBadHeight}
use Rattle.dcc_prog.specs.Frame.{HasBadAccess, IsShortCall}

-- the number by which a construct is told; the causes of one kind share it
abbrev pub construct_number : ConstructKind → ℕ
construct_number NoLayout = 1
construct_number OutsideProfile = 2
construct_number IndirectJump = 3
construct_number IndirectCall = 4
construct_number DosNumber = 5
construct_number StackHeight = 6
construct_number (FrameAccess cause) = 7
construct_number ArgumentsShort = 8
construct_number ArgumentReused = 9
construct_number SeveralResults = 10
construct_number EntryReturn = 11
construct_number Division = 12

-- Kind 1: no layout.

-- the offset is the entry, and no layout for the processor holds of the image
pub record LacksLayout (cpu : Cpu) (image : Image) (at : ℕ) : Type 0 where
  pub entry : at ≡ image.ip
  pub none : (layout : Layout) → layout.cpu ≡ cpu → ¬ HasLayout image layout

-- Kinds 3 and 4: indirect jumps and calls.

-- the bytes FFh and a ModRM byte with that reg field stand at the offset in the code
pub record HasIndirect (code : List ℕ) (at reg : ℕ) : Type 0 where
  pub inside : at + 2 ≤ length code
  pub opcode : byte_at code at ≡ 0xFF
  pub reg_is : reg_field (byte_at code (at + 1)) ≡ reg

-- FF /4 or FF /5
abbrev pub IsIndirectJump : List ℕ → ℕ → Type 0
IsIndirectJump code at = HasIndirect code at 4 ⊎ HasIndirect code at 5

-- FF /2 or FF /3
abbrev pub IsIndirectCall : List ℕ → ℕ → Type 0
IsIndirectCall code at = HasIndirect code at 2 ⊎ HasIndirect code at 3

-- a jump through a table ends a trail, whose last instructions tell the greatest number N of its index, or don't
pub record HasNumber (image : Image) (layout : Layout) (entry at : ℕ) (number : Option ℕ) : Type 0 where
  pub before : List ℕ
  pub trail : IsTrail image layout entry (at ∷ before)
  pub register : Reg
  pub table : ℕ
  pub stands : StandsAt image layout at (Table register table)
  pub number_is : table_number image layout register before ≡ number

-- the N + 1 words of a table don't lie wholly in the code
pub record LacksTable (image : Image) (layout : Layout) (at number : ℕ) : Type 0 where
  pub register : Reg
  pub table : ℕ
  pub stands : StandsAt image layout at (Table register table)
  pub outside : length (code_within image layout) < table + 2 * (number + 1)

-- a jump through a table that has no form: a trail tells no N, two tell two, or the table of at most 256 words
-- doesn't lie in the code
pub data IsFormless (image : Image) (layout : Layout) (entry at : ℕ) : Type 0 where
  no_number : HasNumber image layout entry at None → IsFormless image layout entry at
  two_numbers :
      {number other : ℕ}
      → HasNumber image layout entry at (Some number)
      → HasNumber image layout entry at (Some other)
      → number ≢ other
      → IsFormless image layout entry at
  no_table :
      {number : ℕ}
      → HasNumber image layout entry at (Some number)
      → number ≤ 255
      → LacksTable image layout at number
      → IsFormless image layout entry at

-- Kind 2: instructions outside of what is known.

-- a MOV from or to a segment register, CLI, STI or CLD
abbrev pub is_system : Op → Bool
is_system (Mov to from) = is_segment to || is_segment from
is_system (PlainOp operation) = is_control operation
is_system op = false

-- no instruction of the table of encodings lies in the code at the offset, and no indirect jump or call stands there
pub record IsUnknown (image : Image) (layout : Layout) (at : ℕ) : Type 0 where
  pub none : instruction_in image layout at ≡ None
  pub no_jump : ¬ IsIndirectJump (code_within image layout) at
  pub no_call : ¬ IsIndirectCall (code_within image layout) at

-- at the offset stands an instruction that only a prelude may have, or one that uses SP or BP in no form that is
-- allowed at any height
pub record IsForeign (image : Image) (layout : Layout) (entry at : ℕ) : Type 0 where
  pub op : Op
  pub stands : StandsAt image layout at op
  pub foreign : is_system op || not (is_frame_form image layout entry at op) ≡ true

-- Kind 5: the number of a DOS call.

-- the numbers of the five DOS calls that are known
abbrev pub is_dos_number : ℕ → Bool
is_dos_number number =
    (number == GETCHE) || (number == PUTC) || (number == GETCH) || (number == PUTS) || (number == EXIT)

-- INT 21h ends a trail before which AH is known, or isn't
pub record HasAh (image : Image) (layout : Layout) (entry at : ℕ) (ah : Option ℕ) : Type 0 where
  pub before : List ℕ
  pub trail : IsTrail image layout entry (at ∷ before)
  pub stands : StandsAt image layout at Int21
  pub ah_is : known_ah image layout before ≡ ah

pub data HasNoNumber (image : Image) (layout : Layout) (entry at : ℕ) : Type 0 where
  not_known : HasAh image layout entry at None → HasNoNumber image layout entry at
  other_number :
      {number : ℕ}
      → HasAh image layout entry at (Some number)
      → is_dos_number number ≡ false
      → HasNoNumber image layout entry at
  two_numbers :
      {number other : ℕ}
      → HasAh image layout entry at (Some number)
      → HasAh image layout entry at (Some other)
      → number ≢ other
      → HasNoNumber image layout entry at

-- Kind 11: returns from the entry procedure, and calls of it.

pub data ReturnsFromEntry (image : Image) (layout : Layout) (entry at : ℕ) : Type 0 where
  returns :
      {count : ℕ}
      → entry ≡ layout.start_ip
      → StandsAt image layout at (Ret count)
      → ReturnsFromEntry image layout entry at
  calls : StandsAt image layout at (Call layout.start_ip) → ReturnsFromEntry image layout entry at

-- All kinds.

-- a construct of this kind, one of those that trails tell, stands at a node of the procedure with this entry
pub data IsAtNode (image : Image) (layout : Layout) (entry at : ℕ) : ConstructKind → Type 0 where
  unknown : IsUnknown image layout at → IsAtNode image layout entry at OutsideProfile
  foreign : IsForeign image layout entry at → IsAtNode image layout entry at OutsideProfile
  indirect_jump : IsIndirectJump (code_within image layout) at → IsAtNode image layout entry at IndirectJump
  formless : IsFormless image layout entry at → IsAtNode image layout entry at IndirectJump
  indirect_call : IsIndirectCall (code_within image layout) at → IsAtNode image layout entry at IndirectCall
  dos_number : HasNoNumber image layout entry at → IsAtNode image layout entry at DosNumber
  entry_return : ReturnsFromEntry image layout entry at → IsAtNode image layout entry at EntryReturn
  division : IsUnprepared image layout entry at → IsAtNode image layout entry at Division

-- a construct of this kind, one of those that heights tell, stands at a node of the procedure with this entry
pub data IsAtHeight (image : Image) (layout : Layout) (entry at : ℕ) : ConstructKind → Type 0 where
  misplaced : IsMisplaced image layout entry at → IsAtHeight image layout entry at OutsideProfile
  bad_height : HasBadHeight image layout entry at → IsAtHeight image layout entry at StackHeight

-- a construct of this kind, one of those that the frame tells, stands at a node of the procedure with this entry
pub data IsAtFrame (image : Image) (layout : Layout) (entry at : ℕ) : ConstructKind → Type 0 where
  bad_access :
      {cause : FrameFault}
      → HasBadAccess image layout entry at cause
      → IsAtFrame image layout entry at (FrameAccess cause)
  short_call : IsShortCall image layout entry at → IsAtFrame image layout entry at ArgumentsShort

-- the relation of entries and offsets holds at a node of some procedure that is reached
pub record IsAtSomeNode (image : Image) (layout : Layout) (Stands : ℕ → ℕ → Type 0) (at : ℕ) : Type 0 where
  pub entry : ℕ
  pub is_entry : IsEntry image layout entry
  pub node : IsNode image layout entry at
  pub stands : Stands entry at

-- a construct of this kind stands at the offset, as trails tell it; `IsOfHeights`: as heights tell it; `IsOfFrames`:
-- as a frame tells it
abbrev pub IsOfTrails : ConstructKind → Image → Layout → ℕ → Type 0
IsOfTrails kind image layout = IsAtSomeNode image layout (λ entry at. IsAtNode image layout entry at kind)

abbrev pub IsOfHeights : ConstructKind → Image → Layout → ℕ → Type 0
IsOfHeights kind image layout = IsAtSomeNode image layout (λ entry at. IsAtHeight image layout entry at kind)

abbrev pub IsOfFrames : ConstructKind → Image → Layout → ℕ → Type 0
IsOfFrames kind image layout = IsAtSomeNode image layout (λ entry at. IsAtFrame image layout entry at kind)

-- on this processor a construct of this kind stands at the offset
pub data IsConstruct (cpu : Cpu) : ConstructKind → Image → ℕ → Type 0 where
  lacks_layout : {image : Image} {at : ℕ} → LacksLayout cpu image at → IsConstruct cpu NoLayout image at
  of_trails :
      {kind : ConstructKind} {at : ℕ} {image : Image} {layout : Layout}
      → layout.cpu ≡ cpu
      → HasLayout image layout
      → IsOfTrails kind image layout at
      → IsConstruct cpu kind image at
  of_heights :
      {kind : ConstructKind} {at : ℕ} {image : Image} {layout : Layout}
      → layout.cpu ≡ cpu
      → HasLayout image layout
      → IsOfHeights kind image layout at
      → IsConstruct cpu kind image at
  of_frames :
      {kind : ConstructKind} {at : ℕ} {image : Image} {layout : Layout}
      → layout.cpu ≡ cpu
      → HasLayout image layout
      → IsOfFrames kind image layout at
      → IsConstruct cpu kind image at
