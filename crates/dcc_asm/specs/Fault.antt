-- Which bytes a text is assembled to, and why a text isn't assembled: the first line that offends, and how.
use Rattle.std.specs.Prelude.{◌≡◌, ◌<◌, ◌≤◌, ℕ, ◌+◌, List, [], ◌∷◌, ◌++◌, length}
use Rattle.dcc_machine.specs.declared.cpu.Cpu.{Cpu}
use Rattle.dcc_machine.specs.declared.instr.Op.{Op}
use Rattle.dcc_encode.specs.Encoding.{IsEncoding, IsStandard}
use Rattle.dcc_list.specs.Text.{IsOffset, comment_line, place_line, bytes_line, operation_line, odd_line, head_line}
use Rattle.dcc_list.specs.Text.{AreBytes, Gives, text_of, IsLine, Begins, StandsFor}
use Rattle.dcc_asm.specs.declared.fault.ListKind.{ListKind}
use Rattle.dcc_asm.specs.declared.fault.ListKind.TheVariants.{Length, Head, Word, Range, Odd, Place}
use Rattle.dcc_asm.specs.declared.fault.ListFault.{ListFault}
use Rattle.dcc_asm.specs.declared.fault.ListFault.TheVariants.{At, Memory}

-- Limits -------------------------------------------------------------------------------------

-- the greatest number of bytes of a text
abbrev pub text_most : ℕ
text_most = 67108864

-- the greatest number of bytes of an image
abbrev pub bytes_most : ℕ
bytes_most = 262144

-- the text is a listing of the bytes, and neither is too long
pub record IsAssembled (text bytes : List ℕ) : Type 0 where
  pub text_fits : length text ≤ text_most
  pub bytes_fit : length bytes ≤ bytes_most
  pub stands : StandsFor text bytes

-- Forms --------------------------------------------------------------------------------------

-- some processor has an encoding of the operation at some offset
pub record IsKnown (op : Op) : Type 0 where
  pub cpu : Cpu
  pub at : ℕ
  pub bytes : List ℕ
  pub encoding : IsEncoding cpu at op bytes

-- the line has one of the forms of a listing's lines, whatever stands before it
pub data HasForm : List ℕ → Type 0 where
  comment : {words : List ℕ} → HasForm (comment_line words)
  place : {at : ℕ} → at < 65536 → HasForm (place_line at)
  bytes : {bytes : List ℕ} → AreBytes bytes → length bytes ≤ 16 → HasForm (bytes_line bytes)
  operation : {op : Op} → IsKnown op → HasForm (operation_line op)
  odd : {bytes : List ℕ} {op : Op} → AreBytes bytes → IsKnown op → HasForm (odd_line bytes op)

-- the operation has an encoding for the processor at the offset of the image's byte of this place
pub record IsEncodable (cpu : Cpu) (cs place : ℕ) (op : Op) : Type 0 where
  pub at : ℕ
  pub is_offset : IsOffset cs place at
  pub bytes : List ℕ
  pub encoding : IsEncoding cpu at op bytes

-- the bytes are an encoding of the operation at the offset of that byte, and not the standard one
pub record IsOdd (cpu : Cpu) (cs place : ℕ) (bytes : List ℕ) (op : Op) : Type 0 where
  pub at : ℕ
  pub is_offset : IsOffset cs place at
  pub encoding : IsEncoding cpu at op bytes
  pub other : ¬ IsStandard cpu at op bytes

-- Faults -------------------------------------------------------------------------------------

-- how a line offends that stands after that many bytes of an image for the processor with that code segment: by a form
-- that no line has, by a place where the next byte doesn't stand, by an operation that has no encoding there, by bytes
-- that aren't another encoding of the operation, or by bytes that are too many
pub data Offends (cpu : Cpu) (cs place : ℕ) : List ℕ → ListKind → Type 0 where
  no_form : {line : List ℕ} → ¬ HasForm line → Offends cpu cs place line Word
  other_place : {at : ℕ} → at < 65536 → ¬ IsOffset cs place at → Offends cpu cs place (place_line at) Place
  no_encoding : {op : Op} → IsKnown op → ¬ IsEncodable cpu cs place op → Offends cpu cs place (operation_line op) Range
  not_odd :
      {bytes : List ℕ} {op : Op}
      → AreBytes bytes
      → IsKnown op
      → ¬ IsOdd cpu cs place bytes op
      → Offends cpu cs place (odd_line bytes op) Odd
  too_many :
      {line bytes : List ℕ}
      → Gives cpu cs place line bytes
      → bytes_most < place + length bytes
      → Offends cpu cs place line Length

-- the first line of the text tells a processor and a code segment
pub record HasHead (text : List ℕ) : Type 0 where
  pub cpu : Cpu
  pub cs : ℕ
  pub segment : cs < 65536
  pub rest : List ℕ
  pub text_is : text ≡ text_of (head_line cpu cs ∷ []) ++ rest

-- the lines up to some place of the text, of which none offends: the first one tells the processor and the code
-- segment, the lines after it give these bytes, and the rest stands behind them
pub record BeginsWith (text : List ℕ) (cpu : Cpu) (cs : ℕ) (lines : List (List ℕ)) (bytes rest : List ℕ) : Type 0 where
  pub text_fits : length text ≤ text_most
  pub begins : Begins cpu cs lines bytes
  pub bytes_fit : length bytes ≤ bytes_most
  pub text_is : text ≡ text_of (head_line cpu cs ∷ lines) ++ rest

-- the first line of the text that offends, counted from 1, and how it offends; a text that is too long offends in line
-- 0, and bytes behind the last line feed are no line of any form
pub data IsFirstFault (text : List ℕ) : ℕ → ListKind → Type 0 where
  too_long : text_most < length text → IsFirstFault text 0 Length
  no_head : length text ≤ text_most → ¬ HasHead text → IsFirstFault text 1 Head
  at_line :
      {cpu : Cpu} {cs : ℕ} {lines : List (List ℕ)} {bytes line : List ℕ} {kind : ListKind} (rest : List ℕ)
      → BeginsWith text cpu cs lines bytes (text_of (line ∷ []) ++ rest)
      → IsLine line
      → Offends cpu cs (length bytes) line kind
      → IsFirstFault text (2 + length lines) kind
  unended :
      {cpu : Cpu} {cs : ℕ} {lines : List (List ℕ)} {bytes rest : List ℕ}
      → BeginsWith text cpu cs lines bytes rest
      → IsLine rest
      → 0 < length rest
      → IsFirstFault text (2 + length lines) Word

-- the fault says why the text isn't assembled; want of memory has no cause in it
abbrev pub IsFaultOf : List ℕ → ListFault → Type 0
IsFaultOf text (At number kind) = IsFirstFault text number kind
IsFaultOf text Memory = Unit {0}
