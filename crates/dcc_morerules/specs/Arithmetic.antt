-- Operators on expressions and numbers that are one operator, and that operator.
use Rattle.std.specs.Prelude.{◌≡◌, ℕ, ◌+◌, ◌-◌, ◌*◌, ◌/◌, ◌%◌, ◌^◌, ◌==◌, nat_lt, Bool, true, false, ◌&&◌, ◌||◌, not, if◌then◌else◌, Option, Some, None}
use Rattle.std.specs.Option.{option_or}
use Rattle.dcc_ir.specs.declared.syntax.UnOp.TheVariants.{Neg}
use Rattle.dcc_ir.specs.declared.syntax.BinOp.TheVariants.{Add, Sub, Mul, And, Or, Xor, Shl, Shr}
use Rattle.dcc_ir.specs.Tree.{Expr, Const, Unary, Binary}
use Rattle.dcc_ir.specs.WellFormed.{is_width}
use Rattle.dcc_ir.specs.Forms.{ones, same_unary, same_binary, same_expr, is_shift}

-- 0 to the left of an operator on bits: 0, or the right operand
abbrev pub zero_beside : Expr → Option Expr
zero_beside (Binary f w (Const v n) y) =
    if n == 0 then
    (if same_binary f And then Some (Const v n)
    else if same_binary f Or || same_binary f Xor then Some y else None)
    else None
zero_beside e = None

-- 0 less an expression: its negative
abbrev pub zero_less : Expr → Option Expr
zero_less (Binary f w (Const v n) x) = if same_binary f Sub && n == 0 then Some (Unary Neg w x) else None
zero_less e = None

-- a sum with a negative: a difference
abbrev pub plus_negative : Expr → Option Expr
plus_negative (Binary f w x (Unary h v y)) = if same_binary f Add && same_unary h Neg then Some (Binary Sub w x y) else None
plus_negative e = None

-- an expression is moved up and down again by one count: what stays of it
abbrev pub shifted_back : Expr → Option Expr
shifted_back (Binary f w (Binary g v x (Const u c)) (Const t d)) =
    if same_binary f Shr && same_binary g Shl && c == d && nat_lt c w && is_width w then
    Some (Binary And w x (Const w (ones w / 2 ^ c)))
    else None
shifted_back e = None

-- an expression is moved twice in one way: it is moved by the sum, which is below its width
abbrev pub shifted_twice : Expr → Option Expr
shifted_twice (Binary f w (Binary g v x (Const u c)) (Const t d)) =
    if is_shift f && same_binary g f && nat_lt (c + d) w then Some (Binary f w x (Const w (c + d))) else None
shifted_twice e = None

-- the expression is another moved up by a count below its width
abbrev pub moves_up : Expr → Bool
moves_up (Binary f w x (Const v c)) = same_binary f Shl && nat_lt c w && is_width w
moves_up e = false

-- of what the expression is a multiple
abbrev pub base_of : Expr → Expr
base_of (Binary f w x (Const v c)) =
    if same_binary f Mul || moves_up (Binary f w x (Const v c)) then x else Binary f w x (Const v c)
base_of e = e

-- the multiple of it that the expression is
abbrev pub times_of : Expr → ℕ
times_of (Binary f w x (Const v c)) =
    if same_binary f Mul then c else if moves_up (Binary f w x (Const v c)) then 2 ^ c else 1
times_of e = 1

-- a sum of two multiples of an expression: one multiple
abbrev pub sum_of_multiples : Expr → Option Expr
sum_of_multiples (Binary f w a b) =
    if same_binary f Add && is_width w && same_expr (base_of a) (base_of b) && not (times_of a == 1 && times_of b == 1)
    then Some (Binary Mul w (base_of a) (Const w ((times_of a + times_of b) % 2 ^ w)))
    else None
sum_of_multiples e = None

-- a multiple that is moved up: a greater multiple
abbrev pub multiple_moved : Expr → Option Expr
multiple_moved (Binary f w (Binary g v x (Const u c)) (Const t d)) =
    if same_binary f Shl && same_binary g Mul && nat_lt 0 d && nat_lt d w && is_width w then
    Some (Binary Mul w x (Const w (c * 2 ^ d % 2 ^ w)))
    else None
multiple_moved e = None
