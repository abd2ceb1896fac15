-- Reading a spelling back: the operation of a spelling is found by the bytes at a few places. What is read from a text
-- that is no spelling doesn't matter, since the spelling of what was read is compared with the text. This stands
-- between the definitions and the code; no public contract rests on it.
use Rattle.std.specs.Prelude.{ℕ, ◌+◌, ◌-◌, ◌*◌, ◌%◌, ◌==◌, Bool, ◌&&◌, not, if◌then◌else◌, nat_lt, List, [], ◌∷◌, length}
use Rattle.std.specs.Prelude.{slice_index, take, drop, Option, Some, None, option_map}
use Rattle.std.specs.List.{position_or_len}
use Rattle.dcc_num.specs.declared.Reg.{Reg}
use Rattle.dcc_num.specs.declared.Reg.TheVariants.{Ax, Cx, Dx, Bx, Sp, Bp, Si, Di}
use Rattle.dcc_num.specs.declared.Half.TheVariants.{Low, High}
use Rattle.dcc_num.specs.declared.Width.TheVariants.{Byte as byte_width, Word as word_width}
use Rattle.dcc_machine.specs.declared.instr.Unary.{Unary}
use Rattle.dcc_machine.specs.declared.instr.Unary.TheVariants.{Imul}
use Rattle.dcc_machine.specs.declared.instr.Count.{Count}
use Rattle.dcc_machine.specs.declared.instr.Count.TheVariants.{One, Cl, Const as ConstCount}
use Rattle.dcc_machine.specs.declared.instr.Ea.{Ea}
use Rattle.dcc_machine.specs.declared.instr.Operand.{Operand}
use Rattle.dcc_machine.specs.declared.instr.Operand.TheVariants.{Word, Byte, Seg, Mem, Const}
use Rattle.dcc_machine.specs.declared.instr.Op as machine
use Rattle.dcc_machine.specs.declared.instr.Op.TheVariants as op
use Rattle.dcc_reread.specs.declared.mnemonic.Mnemonic.{Mnemonic}
use Rattle.dcc_reread.specs.declared.mnemonic.Mnemonic.TheVariants.{Alu, Unary as UnaryName, Shift, Mov, Xchg, Lea, Push}
use Rattle.dcc_reread.specs.declared.mnemonic.Mnemonic.TheVariants.{Pop, Enter, Leave, Plain, Jmp, Branch, Loop, LoopE}
use Rattle.dcc_reread.specs.declared.mnemonic.Mnemonic.TheVariants.{LoopNe, Jcxz, Call, Ret, Int}
use Rattle.dcc_reread.specs.Mnemonics.{mnemonic_of}

-- Numbers ------------------------------------------------------------------------------------

-- the byte at a place, or 0
abbrev pub byte_of : List ℕ → ℕ → ℕ
byte_of text place = slice_index text place

-- the number of a hexadecimal digit in upper case
abbrev pub digit_value : ℕ → ℕ
digit_value digit = if nat_lt digit 58 then (digit - 48) % 16 else (digit - 55) % 16

-- the number of the two digits at a place, and of the four
abbrev pub byte_value : List ℕ → ℕ → ℕ
byte_value text place = digit_value (byte_of text place) * 16 + digit_value (byte_of text (place + 1))

abbrev pub word_value : List ℕ → ℕ → ℕ
word_value text place = byte_value text place * 256 + byte_value text (place + 2)

-- Registers ----------------------------------------------------------------------------------

-- AX, CX, DX or BX by its letter
abbrev pub register_of_letter : ℕ → Reg
register_of_letter letter =
    if letter == 97 then Ax else if letter == 99 then Cx else if letter == 100 then Dx else Bx

-- the word register of a name of two letters
abbrev pub word_register_of : ℕ → ℕ → Reg
word_register_of first second =
    if second == 120 then register_of_letter first
    else if second == 112 then (if first == 115 then Sp else Bp)
    else (if first == 115 then Si else Di)

-- the number of a segment register by its first letter
abbrev pub segment_of_letter : ℕ → ℕ
segment_of_letter letter =
    if letter == 101 then 0 else if letter == 99 then 1 else if letter == 115 then 2 else 3

-- the register of a name of two letters
abbrev pub register_of : ℕ → ℕ → Operand
register_of first second =
    if second == 108 then Byte (register_of_letter first) Low
    else if second == 104 then Byte (register_of_letter first) High
    else if second == 115 then Seg (segment_of_letter first)
    else Word (word_register_of first second)

-- Addresses ----------------------------------------------------------------------------------

-- in brackets a second register stands behind the first one
abbrev pub has_second : List ℕ → Bool
has_second brackets = (byte_of brackets 3 == 43) && not (byte_of brackets 4 == 48)

-- where the digits of the displacement stand in brackets, if there is one
abbrev pub displacement_place : List ℕ → Option ℕ
displacement_place brackets =
    if byte_of brackets 1 == 48 then Some 3
    else if not (byte_of brackets 3 == 43) then None
    else if byte_of brackets 4 == 48 then Some 6
    else if byte_of brackets 6 == 43 then Some 9
    else None

abbrev pub displacement_at : List ℕ → Option ℕ → ℕ
displacement_at brackets None = 0
displacement_at brackets (Some place) = word_value brackets place

-- the length of brackets, which have a second register or none, and digits of a displacement at a place or none
abbrev pub length_with : Bool → Option ℕ → ℕ
length_with second (Some place) = place + 5
length_with second None = if second then 7 else 4

abbrev pub brackets_length : List ℕ → ℕ
brackets_length brackets = length_with (has_second brackets) (displacement_place brackets)

-- the register of a name of two letters at a place
abbrev pub word_register_at : List ℕ → ℕ → Reg
word_register_at text place = word_register_of (byte_of text place) (byte_of text (place + 1))

-- the first part in brackets is SI or DI, and not BX or BP
abbrev pub begins_with_index : List ℕ → Bool
begins_with_index brackets = byte_of brackets 2 == 105

abbrev pub base_of : List ℕ → Option Reg
base_of brackets =
    if byte_of brackets 1 == 48 then None
    else if begins_with_index brackets then None
    else Some (word_register_at brackets 1)

abbrev pub index_of : List ℕ → Option Reg
index_of brackets =
    if byte_of brackets 1 == 48 then None
    else if begins_with_index brackets then Some (word_register_at brackets 1)
    else if has_second brackets then Some (word_register_at brackets 4)
    else None

-- the address that brackets name
abbrev pub address_of : List ℕ → Ea
address_of brackets = record {
  base = base_of brackets;
  index = index_of brackets;
  disp = displacement_at brackets (displacement_place brackets);
}

-- Operands -----------------------------------------------------------------------------------

-- the constant whose spelling is the text
abbrev pub constant_of : List ℕ → Operand
constant_of text =
    if length text == 4 then Const byte_width (byte_value text 2) else Const word_width (word_value text 2)

-- the operand whose spelling is the text
abbrev pub operand_of : List ℕ → Operand
operand_of text =
    if byte_of text 0 == 48 then constant_of text
    else if byte_of text 4 == 32
    then Mem (if byte_of text 0 == 119 then word_width else byte_width) (address_of (drop 5 text))
    else register_of (byte_of text 0) (byte_of text 1)

-- the length of the first of several operands, which is no constant
abbrev pub first_length : List ℕ → ℕ
first_length text = if byte_of text 2 == 44 then 2 else 5 + brackets_length (drop 5 text)

abbrev pub first_of : List ℕ → Operand
first_of text = operand_of (take (first_length text) text)

-- what stands behind the first operand and the comma
abbrev pub behind_first : List ℕ → List ℕ
behind_first text = drop (first_length text + 1) text

abbrev pub second_of : List ℕ → Operand
second_of text = operand_of (behind_first text)

abbrev pub count_of : List ℕ → Count
count_of text = if length text == 1 then One else if length text == 2 then Cl else ConstCount (byte_value text 2)

-- Operations ---------------------------------------------------------------------------------

-- a product: of one operand, or of an operand and a constant
abbrev pub product_of : List ℕ → machine.Op
product_of text =
    if byte_of text 2 == 44
    then op.Imul3 (word_register_at text 0) (first_of (drop 3 text)) (word_value (behind_first (drop 3 text)) 2)
    else op.Unary Imul (operand_of text)

-- an operation on one operand
abbrev pub unary_of : Unary → List ℕ → machine.Op
unary_of Imul text = product_of text
unary_of operation text = op.Unary operation (operand_of text)

-- a jump to a target, or through a table
abbrev pub jump_of : List ℕ → machine.Op
jump_of text =
    if byte_of text 0 == 99 then op.Table (word_register_at text 4) (word_value text 9)
    else op.Jump (word_value text 2)

abbrev pub return_of : List ℕ → machine.Op
return_of [] = op.Ret 0
return_of text = op.Ret (word_value text 2)

-- the operation of a mnemonic and its operands' text
abbrev pub operation_of : Mnemonic → List ℕ → machine.Op
operation_of (Alu operation) text = op.Alu operation (first_of text) (second_of text)
operation_of (UnaryName operation) text = unary_of operation text
operation_of (Shift operation) text = op.Shift operation (first_of text) (count_of (behind_first text))
operation_of Mov text = op.Mov (first_of text) (second_of text)
operation_of Xchg text = op.Xchg (first_of text) (second_of text)
operation_of Lea text = op.Lea (word_register_at text 0) (address_of (drop 3 text))
operation_of Push text = op.Push (operand_of text)
operation_of Pop text = op.Pop (operand_of text)
operation_of Enter text = op.Enter (word_value text 2)
operation_of Leave text = op.Leave
operation_of (Plain operation) text = op.Plain operation
operation_of Jmp text = jump_of text
operation_of (Branch condition) text = op.Branch condition (word_value text 2)
operation_of Loop text = op.Loop (word_value text 2)
operation_of LoopE text = op.LoopE (word_value text 2)
operation_of LoopNe text = op.LoopNe (word_value text 2)
operation_of Jcxz text = op.Jcxz (word_value text 2)
operation_of Call text = op.Call (word_value text 2)
operation_of Ret text = return_of text
operation_of Int text = op.Int21

-- where the mnemonic ends: at the first space, or at the text's end
abbrev pub name_length : List ℕ → ℕ
name_length text = position_or_len (λ byte. byte == 32) text

-- the operation whose spelling may be the text; each other operation has another spelling
abbrev pub operation_in : List ℕ → Option machine.Op
operation_in text =
    option_map (λ name. operation_of name (drop (name_length text + 1) text))
    (mnemonic_of (take (name_length text) text))
