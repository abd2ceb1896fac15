-- What the decoder's operations have in common: constants fit their width, and two operands have one width.
use Rattle.std.specs.Prelude.{◌≡◌, ℕ, ◌<◌}
use Rattle.dcc_num.specs.declared.Width.TheVariants.{Word as word_width}
use Rattle.dcc_num.specs.Numbers.{limit_of}
use Rattle.dcc_machine.specs.declared.instr.Shift.{Shift}
use Rattle.dcc_machine.specs.declared.instr.Shift.TheVariants.{Rcl, Rcr}
use Rattle.dcc_machine.specs.declared.instr.Count.{Count}
use Rattle.dcc_machine.specs.declared.instr.Count.TheVariants.{Const as ConstCount}
use Rattle.dcc_machine.specs.declared.instr.Operand.{Operand}
use Rattle.dcc_machine.specs.declared.instr.Operand.TheVariants.{Word, Byte, Seg, Mem, Const}
use Rattle.dcc_machine.specs.declared.instr.Op.{Op}
use Rattle.dcc_machine.specs.declared.instr.Op.TheVariants.{Alu, Unary, Shift as ShiftOp, Mov, Xchg, Lea, Imul3, Push}
use Rattle.dcc_machine.specs.declared.instr.Op.TheVariants.{Pop, Enter, Leave, Plain, Jump, Branch, Loop, LoopE, LoopNe}
use Rattle.dcc_machine.specs.declared.instr.Op.TheVariants.{Jcxz, Table, Call, Ret, Int21}
use Rattle.dcc_machine.specs.Machine.{operand_width}

-- a constant fits its width, and the number of a segment register is below 4
abbrev pub IsOperand : Operand → Type 0
IsOperand (Word r) = Unit {0}
IsOperand (Byte r half) = Unit {0}
IsOperand (Seg number) = number < 4
IsOperand (Mem width ea) = Unit {0}
IsOperand (Const width constant) = constant < limit_of width

-- two operands of one width
pub record AreOperands (a b : Operand) : Type 0 where
  pub first : IsOperand a
  pub second : IsOperand b
  pub widths : operand_width a ≡ operand_width b

-- an operand of 16 bits
pub record IsWordOperand (a : Operand) : Type 0 where
  pub operand : IsOperand a
  pub width : operand_width a ≡ word_width

-- the factors of a product of a word operand and a constant
pub record AreFactors (a : Operand) (constant : ℕ) : Type 0 where
  pub operand : IsOperand a
  pub width : operand_width a ≡ word_width
  pub fits : constant < 65536

-- RCL and RCR go by 1 alone, never by a constant
abbrev pub MayCount : Shift → Count → Type 0
MayCount Rcl (ConstCount number) = ⊥
MayCount Rcr (ConstCount number) = ⊥
MayCount operation count = Unit {0}

pub record IsShift (operation : Shift) (a : Operand) (count : Count) : Type 0 where
  pub operand : IsOperand a
  pub may : MayCount operation count

-- the operands of an operation are well formed
abbrev pub IsOperation : Op → Type 0
IsOperation (Alu operation a b) = AreOperands a b
IsOperation (Unary operation a) = IsOperand a
IsOperation (ShiftOp operation a count) = IsShift operation a count
IsOperation (Mov to from) = AreOperands to from
IsOperation (Xchg a b) = AreOperands a b
IsOperation (Lea r ea) = Unit {0}
IsOperation (Imul3 r a constant) = AreFactors a constant
IsOperation (Push a) = IsWordOperand a
IsOperation (Pop a) = IsWordOperand a
IsOperation (Enter count) = Unit {0}
IsOperation Leave = Unit {0}
IsOperation (Plain operation) = Unit {0}
IsOperation (Jump target) = Unit {0}
IsOperation (Branch condition target) = Unit {0}
IsOperation (Loop target) = Unit {0}
IsOperation (LoopE target) = Unit {0}
IsOperation (LoopNe target) = Unit {0}
IsOperation (Jcxz target) = Unit {0}
IsOperation (Table r offset) = Unit {0}
IsOperation (Call target) = Unit {0}
IsOperation (Ret count) = Unit {0}
IsOperation Int21 = Unit {0}
