-- What the standard rules ask of an expression, and what they put in its place.
use Rattle.std.specs.Prelude.{◌≡◌, ℕ, ◌==◌, Bool, if◌then◌else◌, Option, Some, None, option_map, Result, IfOk}
use Rattle.std.specs.declared.alloc.AllocError.{AllocError}
use Rattle.dcc_ir.specs.declared.syntax.Expr.{Expr as Expression}
use Rattle.dcc_ir.specs.declared.syntax.BinOp.{BinOp}
use Rattle.dcc_ir.specs.Views.{expr_of}
use Rattle.dcc_ir.specs.Tree.{Expr, Const, Unary, Binary, Widen, Part, Join, Choose}
use Rattle.dcc_ir.specs.Forms.{ones, zero_of, one_of, Operands, is_binary, left_is, right_is, are_same}
use Rattle.dcc_stdrules.specs.declared.asked.Number.{Number}
use Rattle.dcc_stdrules.specs.declared.asked.Number.TheVariants.{Zero, One, Ones}
use Rattle.dcc_stdrules.specs.declared.asked.Asked.{Asked}
use Rattle.dcc_stdrules.specs.declared.asked.Asked.TheVariants.{LeftIs, RightIs, Same}
use Rattle.dcc_stdrules.specs.declared.asked.Given.{Given}
use Rattle.dcc_stdrules.specs.declared.asked.Given.TheVariants.{Left, Right, Nothing}

-- the number at a width
abbrev pub number_of : Number → ℕ → ℕ
number_of Zero = zero_of
number_of One = one_of
number_of Ones = ones

-- what is asked of the operands of an operator
abbrev pub asked_of : Asked → Operands
asked_of (LeftIs number) = left_is (number_of number)
asked_of (RightIs number) = right_is (number_of number)
asked_of Same = are_same

-- what takes the place of an operator on these operands
abbrev pub given_of : Given → ℕ → Expr → Expr → Expr
given_of Left width a b = a
given_of Right width a b = b
given_of Nothing width a b = Const width 0

-- what takes the place of an expression with an operator on two operands
abbrev pub in_place : Given → Expr → Expr
in_place given (Binary operator width a b) = given_of given width a b
in_place given e = e

-- the other expression where the test passes
abbrev pub answer_where : Bool → Expr → Option Expr
answer_where test other = if test then Some other else None

-- a call answers the other expression where the test passes, and none elsewhere
abbrev pub Answers : Result (Option Expression) AllocError → Bool → Expr → Type 0
Answers result test other = IfOk result (λ answer. option_map expr_of answer ≡ answer_where test other)

-- what stands below two operators in a row
abbrev pub twice_below : Expr → Expr
twice_below (Unary f w (Unary g v a)) = a
twice_below e = e

-- the operand of a Part
abbrev pub part_of : Expr → Expr
part_of (Part width first x) = x
part_of e = e

-- the lower half of the Join of which the expression is a part
abbrev pub low_of_part : Expr → Expr
low_of_part (Part width first (Join high low)) = low
low_of_part e = e

-- the upper half of the Join of which the expression is a part
abbrev pub high_of_part : Expr → Expr
high_of_part (Part width first (Join high low)) = high
high_of_part e = e

-- the expression of which an upper part is joined
abbrev pub halved : Expr → Expr
halved (Join (Part width first x) low) = x
halved e = e

-- the widened expression of which the expression is a part
abbrev pub widened_in : Expr → Expr
widened_in (Part width first (Widen signed wide x)) = x
widened_in e = e

-- the arm that the constant of a choice chooses
abbrev pub chosen_in : Expr → Expr
chosen_in (Choose (Const width n) a b) = if n == 1 then a else b
chosen_in e = e
