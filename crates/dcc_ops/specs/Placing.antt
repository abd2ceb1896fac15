-- The code's places as places of the definitions.
use Rattle.dcc_ops.specs.declared.operand_place.OperandPlace.{OperandPlace as Placed}
use Rattle.dcc_ops.specs.declared.operand_place.OperandPlace.TheVariants.{Constant, Byte, Word, Memory, Address}
use Rattle.dcc_ops.specs.declared.operand_place.OperandPlace.TheVariants.{Computed}
use Rattle.dcc_ops.specs.OperandPlace.{OperandPlace, constant, byte, word, memory, address, computed}
use Rattle.dcc_ops.specs.Computed.{computed_expr}

abbrev pub place_of : Placed → OperandPlace
place_of (Constant w n) = constant w n
place_of (Byte location) = byte location
place_of (Word low high) = word low high
place_of (Memory w at) = memory w (computed_expr at)
place_of (Address distance) = address distance
place_of (Computed sum) = computed (computed_expr sum)
