-- What the bytes of an 8086 instruction say of its operands: registers by number, the fields of a
-- ModRM byte, addresses, displacements and constants (8086 Family User's Manual, tables 4-8 to
-- 4-10).
use Rattle.std.specs.Prelude.{ℕ, ◌/◌, ◌%◌, Bool, if◌then◌else◌, ◌==◌, ◌&&◌, ◌||◌, nat_lt, List, [], ◌∷◌, get_or, Option}
use Rattle.std.specs.Prelude.{Some, None}
use Rattle.dcc_num.specs.declared.Reg.{Reg}
use Rattle.dcc_num.specs.declared.Reg.TheVariants.{Ax, Cx, Dx, Bx, Sp, Bp, Si, Di}
use Rattle.dcc_num.specs.declared.Half.TheVariants.{Low, High}
use Rattle.dcc_num.specs.declared.Width.{Width}
use Rattle.dcc_num.specs.declared.Width.TheVariants.{Byte as byte_width, Word as word_width}
use Rattle.dcc_num.specs.Numbers.{sign_extension_of}
use Rattle.dcc_machine.specs.declared.instr.Ea.{Ea}
use Rattle.dcc_machine.specs.declared.instr.Operand.{Operand}
use Rattle.dcc_machine.specs.declared.instr.Operand.TheVariants.{Word, Byte, Mem}
use Rattle.dcc_machine.specs.Bytes.{byte_at, word_at}

-- the word register of a number from 0 to 7
abbrev pub word_register : ℕ → Reg
word_register number = get_or (Ax ∷ Cx ∷ Dx ∷ Bx ∷ Sp ∷ Bp ∷ Si ∷ Di ∷ []) number Di

-- the byte register of a number from 0 to 7: AL, CL, DL, BL, AH, CH, DH, BH
abbrev pub byte_register : ℕ → Operand
byte_register number =
    Byte (word_register (number % 4)) (if nat_lt number 4 then Low else High)

-- the register of that width and number
abbrev pub register : Width → ℕ → Operand
register byte_width number = byte_register number
register word_width number = Word (word_register number)

-- the width that an opcode with a width bit has: bit 0 is set for words
abbrev pub width_of : ℕ → Width
width_of opcode = if opcode % 2 == 1 then word_width else byte_width

-- the fields of a ModRM byte: mod in bits 7 and 6, reg in bits 5 to 3, rm in bits 2 to 0
abbrev pub mod_field : ℕ → ℕ
mod_field modrm = modrm / 64

abbrev pub reg_field : ℕ → ℕ
reg_field modrm = modrm / 8 % 8

abbrev pub rm_field : ℕ → ℕ
rm_field modrm = modrm % 8

-- whether the ModRM byte names a memory operand by a word displacement alone: mod 0, rm 6
abbrev pub has_direct_address : ℕ → Bool
has_direct_address modrm = (mod_field modrm == 0) && (rm_field modrm == 6)

-- how many bytes of displacement follow a ModRM byte
abbrev pub displacement_size : ℕ → ℕ
displacement_size modrm =
    if mod_field modrm == 1 then 1
    else if (mod_field modrm == 2) || has_direct_address modrm then 2
    else 0

-- the displacement that stands at an index after a ModRM byte
abbrev pub displacement_at : ℕ → List ℕ → ℕ → ℕ
displacement_at modrm bytes index =
    if mod_field modrm == 1 then sign_extension_of (byte_at bytes index)
    else if (mod_field modrm == 2) || has_direct_address modrm then word_at bytes index
    else 0

-- the registers whose sum with the displacement is the address of a memory operand, by rm
abbrev pub base_registers : List (Option Reg)
base_registers =
    Some Bx ∷ Some Bx ∷ Some Bp ∷ Some Bp ∷ None ∷ None ∷ Some Bp ∷ Some Bx ∷ []

abbrev pub index_registers : List (Option Reg)
index_registers = Some Si ∷ Some Di ∷ Some Si ∷ Some Di ∷ Some Si ∷ Some Di ∷ None ∷ None ∷ []

-- the address of a memory operand with that displacement
abbrev pub address : ℕ → ℕ → Ea
address modrm displacement = record {
  base = if has_direct_address modrm then None else get_or base_registers (rm_field modrm) None;
  index = get_or index_registers (rm_field modrm) None;
  disp = displacement;
}

-- the operand that the mod and rm fields name: with mod 3 a register, else memory
abbrev pub rm_operand : Width → ℕ → ℕ → Operand
rm_operand width modrm displacement =
    if mod_field modrm == 3 then register width (rm_field modrm)
    else Mem width (address modrm displacement)
