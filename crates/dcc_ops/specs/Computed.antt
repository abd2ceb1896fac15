-- Words that are computed without a statement of their own, as addresses of operands are: the sum, modulo 65536, of an
-- address in the frame, of general registers and of a number.
use Rattle.std.specs.Prelude.{ℕ, ◌==◌, if◌then◌else◌, Option, Some, None, option_map}
use Rattle.dcc_num.specs.declared.Reg.{Reg}
use Rattle.dcc_ir.specs.declared.syntax.BinOp.TheVariants.{Add}
use Rattle.dcc_ir.specs.Tree.{Expr, Const, Binary, Address}
use Rattle.dcc_ops.specs.declared.operand_place.Computed.{Computed}
use Rattle.dcc_ops.specs.Expressions.{word_of}

-- a sum so far, where there is one, and a part more
abbrev pub plus : Option Expr → Expr → Expr
plus None e = e
plus (Some sum) e = Binary Add 16 sum e

-- the sum so far with a register, where there is one
abbrev pub adding : Option Reg → Option Expr → Option Expr
adding None sum = sum
adding (Some r) sum = Some (plus sum (word_of r))

-- the sum so far with a number: 0 is added to nothing
abbrev pub ending : ℕ → Option Expr → Expr
ending number None = Const 16 number
ending number (Some sum) = if number == 0 then sum else Binary Add 16 sum (Const 16 number)

abbrev pub computed_expr : Computed → Expr
computed_expr c = ending c.number (adding c.index (adding c.base (option_map Address c.frame)))
