-- What the fields of an instruction, as they are read from its bytes, have to do with the rows of the tables. Both
-- processors' fields are read alike, by the rows of the 80186, which has those of the 8086.
use Rattle.std.specs.Prelude.{◌≡◌, ◌≤◌, ◌<◌, ℕ, ◌+◌, IsSomeAnd, ◌↔◌, Bool, if◌then◌else◌, ◌==◌, ◌&&◌, true, false}
use Rattle.std.specs.Prelude.{nat_le, IsTrue, List, [], ◌∷◌, length, find, Option, Some, None, option_map}
use Rattle.dcc_machine.specs.declared.cpu.Cpu.{Cpu}
use Rattle.dcc_machine.specs.declared.cpu.Cpu.TheVariants.{I186}
use Rattle.dcc_machine.specs.declared.instr.Op.{Op}
use Rattle.dcc_machine.specs.Bytes.{byte_at}
use Rattle.dcc_machine.specs.Operands.{displacement_size, displacement_at}
use Rattle.dcc_machine.specs.Table.{Parts, Row, ConstantForm, ConstantPlace, at_end, at_index, no_constant}
use Rattle.dcc_machine.specs.Table.{byte_constant, word_constant, signed_constant, fits, constant_size, constant_at}
use Rattle.dcc_machine.specs.Table.{head_length, row_length, row_parts, table, IsRow}
use Rattle.dcc_decode.specs.declared.fields.Constant.{Constant}
use Rattle.dcc_decode.specs.declared.fields.Constant.TheVariants.{Absent, Byte, Word, SignedByte}
use Rattle.dcc_decode.specs.declared.fields.Fields.{Fields}

-- a constant of the code as a form of the table
abbrev pub form_of : Constant → ConstantForm
form_of Absent = no_constant
form_of Byte = byte_constant
form_of Word = word_constant
form_of SignedByte = signed_constant

-- the fields of the code as the parts from which the table makes an operation
abbrev pub parts_of : Fields → Parts
parts_of fields = record {
  opcode = fields.opcode;
  modrm = fields.modrm;
  displacement = fields.displacement;
  constant = fields.constant;
  next = fields.at + fields.len;
}

-- the operation of the processor's row that an opcode and a ModRM byte fit, if any
unfoldable pub operation_of : Cpu → Parts → Option Op
operation_of cpu parts =
    option_map (λ row. row.operation parts)
    (find (λ row. fits row.pattern (parts.opcode ∷ parts.modrm ∷ [])) (table cpu))

-- a shift or rotate by a constant has a byte as its constant
abbrev pub HasByteCount : Fields → Type 0
HasByteCount fields = 0xc0 ≤ fields.opcode → fields.opcode ≤ 0xc1 → fields.constant < 256

abbrev pub is_at_end : ConstantPlace → Bool
is_at_end at_end = true
is_at_end (at_index index) = false

-- a row whose first bytes are its opcode and its ModRM byte, if it has one, and whose constant stands at the end
abbrev pub is_opcode_row : Row → Bool
is_opcode_row row = (length row.pattern == (if row.has_modrm then 2 else 1)) && is_at_end row.constant_place

abbrev pub IsOpcodeRow : Row → Type 0
IsOpcodeRow row = IsRow I186 row × IsTrue (is_opcode_row row)

-- the answer, whether a ModRM byte follows the opcode, is that of each row that begins with it
pub record TellsModrm (opcode : ℕ) (answer : Bool) : Type 0 where
  pub of_row :
      (row : Row) (rest : List ℕ) → IsOpcodeRow row → IsTrue (fits row.pattern (opcode ∷ rest))
      → row.has_modrm ≡ answer

-- the answer, which constant ends the instruction, is that of each row that the two bytes fit
pub record TellsConstant (opcode modrm : ℕ) (answer : Constant) : Type 0 where
  pub of_row :
      (row : Row) (rest : List ℕ) → IsOpcodeRow row
      → IsTrue (fits row.pattern (opcode ∷ modrm ∷ rest)) → row.constant_form ≡ form_of answer

-- the ModRM byte at index 1, its displacement, and the index after that
abbrev pub modrm_read : List ℕ → Option (ℕ × ℕ × ℕ)
modrm_read bytes =
    let modrm = byte_at bytes 1 in
    let end = 2 + displacement_size modrm in
    if nat_le end (length bytes) then Some (modrm, displacement_at modrm bytes 2, end) else None

-- the constant of a form at an index
abbrev pub constant_read : ConstantForm → List ℕ → ℕ → Option ℕ
constant_read form bytes index =
    if nat_le (index + constant_size form) (length bytes) then Some (constant_at form bytes index)
    else None

-- the ModRM byte and the displacement of an instruction of a row, and the index after them
abbrev pub head_of : Row → List ℕ → Option (ℕ × ℕ × ℕ)
head_of row bytes =
    if nat_le (head_length row bytes) (length bytes) then Some (
      if row.has_modrm then byte_at bytes 1 else 0,
      if row.has_modrm then displacement_at (byte_at bytes 1) bytes (length row.pattern) else 0,
      head_length row bytes,
    )
    else None

-- the answer is the ModRM byte and the displacement of each row that the bytes fit; a row fits
-- the bytes exactly where it fits the opcode with the ModRM byte of the answer
pub record ReadsHead (opcode : ℕ) (bytes : List ℕ) (answer : Option (ℕ × ℕ × ℕ)) : Type 0 where
  pub of_row :
      (row : Row) → IsOpcodeRow row → IsTrue (fits row.pattern bytes) → answer ≡ head_of row bytes
  pub fitting :
      (modrm displacement end : ℕ) → answer ≡ Some (modrm, displacement, end) → (row : Row)
      → IsOpcodeRow row
      → (IsTrue (fits row.pattern bytes) ↔ IsTrue (fits row.pattern (opcode ∷ modrm ∷ [])))

-- what is read is the fields of each row that the bytes fit; None where they end within it
pub record ReadsRows (bytes : List ℕ) (at : ℕ) (answer : Option Fields) : Type 0 where
  pub complete :
      (row : Row) → IsOpcodeRow row → IsTrue (fits row.pattern bytes)
      → row_length row bytes ≤ length bytes
      → IsSomeAnd answer (λ fields. (parts_of fields ≡ row_parts row at bytes) × (fields.len ≡ row_length row bytes))
  pub cut_short :
      (row : Row) → IsOpcodeRow row → IsTrue (fits row.pattern bytes)
      → length bytes < row_length row bytes → answer ≡ None

-- the rows that fields fit are those that the bytes fit from which they were read
pub record FitsAsRead (bytes : List ℕ) (fields : Fields) : Type 0 where
  pub of_row :
      (row : Row) → IsOpcodeRow row
      → (IsTrue (fits row.pattern bytes) ↔ IsTrue (fits row.pattern (fields.opcode ∷ fields.modrm ∷ [])))
