-- The expressions that stand for the values of instructions.
use Rattle.std.specs.Prelude.{ℕ, ◌+◌, ◌-◌, ◌%◌, ◌==◌, Bool, true, false, if◌then◌else◌}
use Rattle.dcc_num.specs.declared.Width.{Width}
use Rattle.dcc_num.specs.declared.Width.TheVariants.{Byte as byte_width, Word as word_width}
use Rattle.dcc_num.specs.declared.Reg.{Reg}
use Rattle.dcc_num.specs.declared.Reg.TheVariants.{Cx}
use Rattle.dcc_num.specs.declared.Half.TheVariants.{Low, High}
use Rattle.dcc_num.specs.declared.FlagName.{FlagName}
use Rattle.dcc_num.specs.declared.FlagName.TheVariants.{Cf, Zf, Sf, Of}
use Rattle.dcc_num.specs.Numbers.{bits_of}
use Rattle.dcc_machine.specs.declared.cpu.Cpu.{Cpu}
use Rattle.dcc_machine.specs.declared.cpu.Cpu.TheVariants.{I8086, I186}
use Rattle.dcc_machine.specs.declared.instr.Count.{Count}
use Rattle.dcc_machine.specs.declared.instr.Count.TheVariants.{One, Cl, Const as ConstCount}
use Rattle.dcc_machine.specs.declared.instr.Cond.{Cond}
use Rattle.dcc_machine.specs.declared.instr.Cond.TheVariants.{O, No, B, Ae, Z, Nz, Be, A, S, Ns, L, Ge, Le, G}
use Rattle.dcc_ir.specs.declared.syntax.Loc.TheVariants.{Half, Flag}
use Rattle.dcc_ir.specs.declared.syntax.UnOp.TheVariants.{Not, IsZero}
use Rattle.dcc_ir.specs.declared.syntax.BinOp.{BinOp}
use Rattle.dcc_ir.specs.declared.syntax.BinOp.TheVariants.{Add, Sub, Mul, And, Or, Xor, Shl, Shr, Eq, LtS, LtU, LeS}
use Rattle.dcc_ir.specs.declared.syntax.BinOp.TheVariants.{LeU}
use Rattle.dcc_ir.specs.Tree.{Expr, Const, Get, Unary, Binary, Widen, Part, Join, Choose}
use Rattle.dcc_ops.specs.Temporaries.{left_place, right_place, result_place, product_place, carry_place}

-- Operands and results.

-- a word register, by its halves
abbrev pub word_of : Reg → Expr
word_of r = Join (Get (Half r High)) (Get (Half r Low))

-- what the temporary of the left operand holds; `right`, `result`, `product`: those of the right operand, the result
-- and the product
abbrev pub left : Width → Expr
left w = Get (left_place w)

abbrev pub right : Width → Expr
right w = Get (right_place w)

abbrev pub result : Width → Expr
result w = Get (result_place w)

abbrev pub product : Width → Expr
product w = Get (product_place w)

-- Pieces.

-- a binary operator at a width
abbrev pub at_width : BinOp → Width → Expr → Expr → Expr
at_width operator w a b = Binary operator (bits_of w) a b

-- a constant of a width
abbrev pub number : Width → ℕ → Expr
number w n = Const (bits_of w) n

-- one bit
abbrev pub bit : ℕ → Expr
bit n = Const 1 n

abbrev pub flag : FlagName → Expr
flag f = Get (Flag f)

-- the negation of one bit
abbrev pub negated : Expr → Expr
negated e = Unary Not 1 e

abbrev pub is_zero : Width → Expr → Expr
is_zero w e = Unary IsZero (bits_of w) e

-- the sign bit; `below_sign`: the bit below it
abbrev pub sign : Width → Expr → Expr
sign w e = Part 1 (bits_of w - 1) e

abbrev pub below_sign : Width → Expr → Expr
below_sign w e = Part 1 (bits_of w - 2) e

-- the lowest bit
abbrev pub lowest : Expr → Expr
lowest e = Part 1 0 e

-- CF as it came in, as a number of a width
abbrev pub carry_at : Width → Expr
carry_at w = Widen false (bits_of w) (Get carry_place)

-- the one comparison where CF came in set, the other where it did not
abbrev pub by_carry : Width → BinOp → BinOp → Expr → Expr → Expr
by_carry w set clear a b = Choose (Get carry_place) (at_width set w a b) (at_width clear w a b)

-- Sums and differences.

abbrev pub sum : Width → Expr
sum w = at_width Add w (left w) (right w)

abbrev pub sum_and_carry : Width → Expr
sum_and_carry w = at_width Add w (sum w) (carry_at w)

-- the sum is below one of its parts, or equal to it where a carry came in
abbrev pub carry_out : Width → Expr
carry_out w = at_width LtU w (result w) (left w)

abbrev pub carry_out_of_both : Width → Expr
carry_out_of_both w = by_carry w LeU LtU (result w) (left w)

-- both operands have another sign than the sum
abbrev pub sum_overflow : Width → Expr
sum_overflow w =
    Binary And 1
    (Binary Xor 1 (sign w (left w)) (sign w (result w)))
    (Binary Xor 1 (sign w (right w)) (sign w (result w)))

abbrev pub difference : Width → Expr
difference w = at_width Sub w (left w) (right w)

abbrev pub difference_and_borrow : Width → Expr
difference_and_borrow w = at_width Sub w (difference w) (carry_at w)

-- the left operand is below the right one, or equal to it where a borrow came in
abbrev pub borrow_out : Width → Expr
borrow_out w = at_width LtU w (left w) (right w)

abbrev pub borrow_out_of_both : Width → Expr
borrow_out_of_both w = by_carry w LeU LtU (left w) (right w)

-- the signed comparison of the operands is not what the sign of the difference says
abbrev pub difference_overflow : Width → Expr
difference_overflow w = Binary Xor 1 (at_width LtS w (left w) (right w)) (sign w (result w))

abbrev pub difference_overflow_of_both : Width → Expr
difference_overflow_of_both w = Binary Xor 1 (by_carry w LeS LtS (left w) (right w)) (sign w (result w))

-- Shifts and rotates. The right operand is the count.

-- CL as a number of a width
abbrev pub cl_at : Width → Expr
cl_at byte_width = Get (Half Cx Low)
cl_at word_width = Widen false 16 (Get (Half Cx Low))

-- CL as the processor takes it: the 80186 by its five lowest bits
abbrev pub taken_cl : Cpu → Width → Expr
taken_cl I8086 w = cl_at w
taken_cl I186 w = at_width And w (cl_at w) (number w 31)

abbrev pub count_expr : Cpu → Width → Count → Expr
count_expr cpu w One = number w 1
count_expr cpu w Cl = taken_cl cpu w
count_expr cpu w (ConstCount n) = number w (n % 32)

-- the new value of a flag: where the count is in CL and 0, the flag stays
abbrev pub unless_zero : Width → Count → FlagName → Expr → Expr
unless_zero w Cl f e = Choose (is_zero w (right w)) (flag f) e
unless_zero w count f e = e

-- a bit that counts for a count of 1 alone; for other counts it is 0. By a constant nothing is read to tell which.
abbrev pub if_one : Width → Count → Expr → Expr
if_one w One e = e
if_one w Cl e = Binary And 1 (at_width Eq w (right w) (number w 1)) e
if_one w (ConstCount n) e = if n % 32 == 1 then e else bit 0

abbrev pub shifted : BinOp → Width → Expr
shifted operator w = at_width operator w (left w) (right w)

-- the operand but for the last place of the shift
abbrev pub nearly_shifted : BinOp → Width → Expr
nearly_shifted operator w = at_width operator w (left w) (at_width Sub w (right w) (number w 1))

-- how many places a rotate moves the bits; `rest_of_rotation`: what is missing to a whole rotation
abbrev pub rotation : Width → Expr
rotation w = at_width And w (right w) (number w (bits_of w - 1))

abbrev pub rest_of_rotation : Width → Expr
rest_of_rotation w = at_width Sub w (number w (bits_of w)) (rotation w)

abbrev pub rol_value : Width → Expr
rol_value w = at_width Or w (at_width Shl w (left w) (rotation w)) (at_width Shr w (left w) (rest_of_rotation w))

abbrev pub ror_value : Width → Expr
ror_value w = at_width Or w (at_width Shr w (left w) (rotation w)) (at_width Shl w (left w) (rest_of_rotation w))

-- the operand rotated to the left by one place, with CF as the bit that comes in; `rcr_value`: to the right
abbrev pub rcl_value : Width → Expr
rcl_value w = at_width Or w (at_width Shl w (left w) (number w 1)) (carry_at w)

abbrev pub rcr_value : Width → Expr
rcr_value w =
    at_width Or w (at_width Shr w (left w) (number w 1)) (at_width Shl w (carry_at w) (number w (bits_of w - 1)))

-- Products.

-- the number of bits of a product: twice the width
abbrev pub double : Width → ℕ
double w = bits_of w + bits_of w

abbrev pub multiplied : Width → Bool → Expr
multiplied w signed = Binary Mul (double w) (Widen signed (double w) (left w)) (Widen signed (double w) (right w))

-- the product needs its upper half: without a sign where that half is not 0, else where it is not the sign of the
-- lower one
abbrev pub needs_upper_half : Width → Bool → Expr
needs_upper_half w signed =
    if signed then negated (Binary Eq (double w) (Widen true (double w) (Part (bits_of w) 0 (product w))) (product w))
    else at_width LtU w (number w 0) (Part (bits_of w) (bits_of w) (product w))

-- Conditions.

abbrev pub less : Expr
less = Binary Xor 1 (flag Sf) (flag Of)

abbrev pub condition : Cond → Expr
condition O = flag Of
condition No = negated (flag Of)
condition B = flag Cf
condition Ae = negated (flag Cf)
condition Z = flag Zf
condition Nz = negated (flag Zf)
condition Be = Binary Or 1 (flag Cf) (flag Zf)
condition A = negated (Binary Or 1 (flag Cf) (flag Zf))
condition S = flag Sf
condition Ns = negated (flag Sf)
condition L = less
condition Ge = negated less
condition Le = Binary Or 1 (flag Zf) less
condition G = negated (Binary Or 1 (flag Zf) less)

-- CX is not 0 after it was lowered
abbrev pub goes_round : Expr
goes_round = negated (is_zero word_width (result word_width))
