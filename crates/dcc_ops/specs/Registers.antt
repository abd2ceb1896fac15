-- Registers and constants as operands, and the places where they stand.
use Rattle.std.specs.Prelude.{Bool, true, false}
use Rattle.dcc_num.specs.declared.Width.TheVariants.{Word as word_width}
use Rattle.dcc_num.specs.declared.Half.TheVariants.{Low, High}
use Rattle.dcc_machine.specs.declared.instr.Operand.{Operand}
use Rattle.dcc_machine.specs.declared.instr.Operand.TheVariants.{Word, Byte, Const}
use Rattle.dcc_machine.specs.Machine.{is_general}
use Rattle.dcc_ir.specs.declared.syntax.Loc.TheVariants.{Half}
use Rattle.dcc_ops.specs.OperandPlace.{OperandPlace, constant, byte, word}

-- the operand is a register whose halves are locations, or one of the halves
abbrev pub is_register : Operand → Bool
is_register (Word r) = is_general r
is_register (Byte r half) = is_general r
is_register operand = false

-- the operand is a register whose halves are locations, one of the halves, or a constant
abbrev pub is_source : Operand → Bool
is_source (Const width number) = true
is_source operand = is_register operand

-- the place of a register or a constant; other operands have none, and stand at a constant 0 here
abbrev pub register_place : Operand → OperandPlace
register_place (Word r) = word (Half r Low) (Half r High)
register_place (Byte r half) = byte (Half r half)
register_place (Const width number) = constant width number
register_place operand = constant word_width 0
