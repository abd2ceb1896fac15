-- What a line and the lines from some place on are assembled to. This stands between the definitions and the code; no
-- public contract rests on it.
use Rattle.std.specs.Prelude.{◌≡◌, ◌<◌, ◌≤◌, ℕ, ◌+◌, List, [], ◌∷◌, ◌++◌, length, Option, Some, None}
use Rattle.dcc_machine.specs.declared.cpu.Cpu.{Cpu}
use Rattle.dcc_machine.specs.declared.cpu.Cpu.TheVariants.{I8086, I186}
use Rattle.dcc_machine.specs.declared.instr.Op.{Op}
use Rattle.dcc_machine.specs.declared.instr.Op.TheVariants.{Jump, Branch, Loop, LoopE, LoopNe, Jcxz, Call}
use Rattle.smallvec.specs.SmallVec.{SmallVec}
use Rattle.dcc_encode.specs.Encoding.{IsStandard}
use Rattle.dcc_list.specs.Text.{IsOffset, Gives, text_of, IsLine, Begins, head_line}
use Rattle.dcc_asm.specs.declared.assembler.Heading.{Heading}
use Rattle.dcc_asm.specs.declared.fault.ListKind.{ListKind}
use Rattle.dcc_asm.specs.declared.fault.ListKind.TheVariants.{Word}
use Rattle.dcc_asm.specs.declared.fault.ListFault.{ListFault}
use Rattle.dcc_asm.specs.declared.fault.ListFault.TheVariants.{At, Memory}
use Rattle.dcc_asm.specs.Fault.{bytes_most, IsEncodable, Offends, HasHead}

-- the target of a jump or a call, which its bytes count from the next instruction
abbrev pub target_of : Op → Option ℕ
target_of (Jump target) = Some target
target_of (Branch condition target) = Some target
target_of (Loop target) = Some target
target_of (LoopE target) = Some target
target_of (LoopNe target) = Some target
target_of (Jcxz target) = Some target
target_of (Call target) = Some target
target_of op = None

-- the operation has no encoding at the place, or this is its standard one
abbrev pub IsStandardAt : Cpu → ℕ → ℕ → Op → Option (SmallVec ℕ) → Type 0
IsStandardAt cpu cs place op None = ¬ IsEncodable cpu cs place op
IsStandardAt cpu cs place op (Some bytes) = (at : ℕ) × (IsOffset cs place at) × (IsStandard cpu at op bytes.items)

-- the line gives what the image gets
pub record Grows (cpu : Cpu) (cs : ℕ) (old new line : List ℕ) : Type 0 where
  pub bytes : List ℕ
  pub gives : Gives cpu cs (length old) line bytes
  pub grown : new ≡ old ++ bytes
  pub fits : length new ≤ bytes_most

-- the image gets what the line gives, or the line offends so
abbrev pub IsDone : Cpu → ℕ → List ℕ → List ℕ → List ℕ → Option ListKind → Type 0
IsDone cpu cs old new line None = Grows cpu cs old new line
IsDone cpu cs old new line (Some kind) = Offends cpu cs (length old) line kind

-- where the digits of the code segment stand in the first line
abbrev pub digits_place : Cpu → ℕ
digits_place I8086 = 18
digits_place I186 = 17

-- the first line of the text, where it tells this processor and a code segment, and the rest of the text
abbrev pub IsHeadingFor : Cpu → List ℕ → Option Heading → Type 0
IsHeadingFor cpu text None = (cs : ℕ) (rest : List ℕ) → cs < 65536 → ¬ (text ≡ text_of (head_line cpu cs ∷ []) ++ rest)
IsHeadingFor cpu text (Some heading) = text ≡ text_of (head_line heading.cpu heading.cs ∷ []) ++ heading.rest.now

-- the first line of the text, where it tells a processor and a code segment, and the rest of the text
abbrev pub IsHeading : List ℕ → Option Heading → Type 0
IsHeading text None = ¬ HasHead text
IsHeading text (Some heading) = text ≡ text_of (head_line heading.cpu heading.cs ∷ []) ++ heading.rest.now

-- lines that give bytes, of which none offends
pub record Passes (cpu : Cpu) (cs : ℕ) (text : List ℕ) (lines : List (List ℕ)) (bytes rest : List ℕ) : Type 0 where
  pub begins : Begins cpu cs lines bytes
  pub bytes_fit : length bytes ≤ bytes_most
  pub text_is : text ≡ text_of lines ++ rest

-- the lines of the text give these bytes
pub record AreGiven (cpu : Cpu) (cs : ℕ) (text bytes : List ℕ) : Type 0 where
  pub lines : List (List ℕ)
  pub passes : Passes cpu cs text lines bytes []

-- so far the lines of the text have given the image, and the next line has this number
pub record Reads (cpu : Cpu) (cs : ℕ) (text image left : List ℕ) (number : ℕ) : Type 0 where
  pub lines : List (List ℕ)
  pub passes : Passes cpu cs text lines image left
  pub number_is : number ≡ 2 + length lines
  pub room : number + length left ≤ 2 + length text

-- the line of the text that offends first, counted from 2
pub data OffendsFirst (cpu : Cpu) (cs : ℕ) (text : List ℕ) : ℕ → ListKind → Type 0 where
  at_line :
      {lines : List (List ℕ)} {bytes line : List ℕ} {kind : ListKind} (rest : List ℕ)
      → Passes cpu cs text lines bytes (text_of (line ∷ []) ++ rest)
      → IsLine line
      → Offends cpu cs (length bytes) line kind
      → OffendsFirst cpu cs text (2 + length lines) kind
  unended :
      {lines : List (List ℕ)} {bytes rest : List ℕ}
      → Passes cpu cs text lines bytes rest
      → IsLine rest
      → 0 < length rest
      → OffendsFirst cpu cs text (2 + length lines) Word

abbrev pub IsFaultOfLines : Cpu → ℕ → List ℕ → ListFault → Type 0
IsFaultOfLines cpu cs text (At number kind) = OffendsFirst cpu cs text number kind
IsFaultOfLines cpu cs text Memory = Unit {0}
