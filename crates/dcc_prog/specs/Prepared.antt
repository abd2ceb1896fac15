-- The upper half of what a division divides is prepared: along the chain of sole predecessors back from the
-- division, the nearest instruction that writes it makes it 0, or the sign of the lower half.
use Rattle.std.specs.Prelude.{◌≡◌, ℕ, ◌==◌, Bool, true, false, not, ◌&&◌, ◌||◌}
use Rattle.dcc_num.specs.declared.Width.{Width}
use Rattle.dcc_num.specs.declared.Width.TheVariants.{Byte as byte_width, Word as word_width}
use Rattle.dcc_num.specs.declared.Reg.TheVariants.{Ax, Dx}
use Rattle.dcc_num.specs.declared.Half.TheVariants.{Low, High}
use Rattle.dcc_machine.specs.declared.image.Image.{Image}
use Rattle.dcc_prog.specs.declared.procedure.Layout.{Layout}
use Rattle.dcc_machine.specs.declared.instr.Alu.TheVariants.{Sub, Xor}
use Rattle.dcc_machine.specs.declared.instr.Unary.{Unary}
use Rattle.dcc_machine.specs.declared.instr.Unary.TheVariants.{Div, Idiv}
use Rattle.dcc_machine.specs.declared.instr.Plain.TheVariants.{Cbw, Cwd}
use Rattle.dcc_machine.specs.declared.instr.Operand.{Operand}
use Rattle.dcc_machine.specs.declared.instr.Operand.TheVariants.{Word, Byte, Const}
use Rattle.dcc_machine.specs.declared.instr.Op.{Op}
use Rattle.dcc_machine.specs.declared.instr.Op.TheVariants.{Alu as AluOp, Unary as UnaryOp, Mov, Plain as PlainOp}
use Rattle.dcc_machine.specs.Operations.{is_division}
use Rattle.dcc_machine.specs.Machine.{operand_width}
use Rattle.dcc_machine.specs.Writes.{writes_half}
use Rattle.dcc_prog.specs.Trail.{StandsAt, IsSolePredecessor}

-- the operand is the upper half of what a division of that width divides: AH, or DX
abbrev pub is_upper : Width → Operand → Bool
is_upper byte_width (Byte Ax High) = true
is_upper word_width (Word Dx) = true
is_upper width operand = false

-- MOV of 0 to the upper half, or SUB or XOR of it with itself
abbrev pub zeroes_upper : Width → Op → Bool
zeroes_upper width (Mov to (Const other constant)) = is_upper width to && constant == 0
zeroes_upper width (AluOp Sub a b) = is_upper width a && is_upper width b
zeroes_upper width (AluOp Xor a b) = is_upper width a && is_upper width b
zeroes_upper width op = false

-- CBW, or CWD
abbrev pub extends_sign : Width → Op → Bool
extends_sign byte_width (PlainOp Cbw) = true
extends_sign word_width (PlainOp Cwd) = true
extends_sign width op = false

-- the operation prepares the upper half for the division
abbrev pub prepares : Unary → Width → Op → Bool
prepares Div width op = zeroes_upper width op
prepares Idiv width op = extends_sign width op
prepares operation width op = false

abbrev pub writes_ax : Op → Bool
writes_ax op = writes_half op Ax Low || writes_half op Ax High

abbrev pub writes_upper : Width → Op → Bool
writes_upper byte_width op = writes_half op Ax High
writes_upper word_width op = writes_half op Dx Low || writes_half op Dx High

-- the operation leaves the upper half of the dividend, and for IDIV the whole dividend, as it was
abbrev pub keeps_dividend : Unary → Width → Op → Bool
keeps_dividend Idiv width op = not (writes_ax op) && not (writes_upper width op)
keeps_dividend operation width op = not (writes_upper width op)

-- the sole predecessor of an offset prepares the upper half for the division, or it keeps the dividend and the half is
-- prepared before it
pub data IsPrepared (image : Image) (layout : Layout) (entry : ℕ) (division : Unary) (width : Width) : ℕ → Type 0 where
  nearest :
      {at from : ℕ} {op : Op}
      → IsSolePredecessor image layout entry from at
      → StandsAt image layout from op
      → prepares division width op ≡ true
      → IsPrepared image layout entry division width at
  further :
      {at from : ℕ} {op : Op}
      → IsSolePredecessor image layout entry from at
      → StandsAt image layout from op
      → keeps_dividend division width op ≡ true
      → IsPrepared image layout entry division width from
      → IsPrepared image layout entry division width at

-- a division stands at a node of the procedure, and its upper half isn't prepared
pub record IsUnprepared (image : Image) (layout : Layout) (entry at : ℕ) : Type 0 where
  pub division : Unary
  pub operand : Operand
  pub stands : StandsAt image layout at (UnaryOp division operand)
  pub divides : is_division division ≡ true
  pub unprepared : ¬ IsPrepared image layout entry division (operand_width operand) at
