-- Parts of expressions, and shorter expressions for them.
use Rattle.std.specs.Prelude.{ℕ, ◌+◌, ◌-◌, ◌%◌, ◌^◌, ◌==◌, nat_lt, nat_le, Bool, true, false, ◌&&◌, not, if◌then◌else◌, List, Option, Some, None}
use Rattle.dcc_ir.specs.declared.syntax.BinOp.{BinOp}
use Rattle.dcc_ir.specs.declared.syntax.BinOp.TheVariants.{Add, Sub, Mul, And, Or, Xor}
use Rattle.dcc_ir.specs.Tree.{Expr, Const, Binary, Widen, Part, Join}
use Rattle.dcc_ir.specs.Value.{width_of}
use Rattle.dcc_ir.specs.WellFormed.{is_width}
use Rattle.dcc_ir.specs.Forms.{ones, same_binary}

-- a part of a part: one part
abbrev pub part_of_part : Expr → Option Expr
part_of_part (Part w n (Part v m x)) = if nat_lt (n + m) 32 then Some (Part w (n + m) x) else None
part_of_part e = None

-- a part that lies in one half of a Join: a part of that half
abbrev pub part_of_half : List ℕ → Expr → Option Expr
part_of_half bits (Part w n (Join a b)) =
    if nat_le (width_of bits b) n then Some (Part w (n - width_of bits b) a)
    else if nat_le (n + w) (width_of bits b) then Some (Part w n b) else None
part_of_half bits e = None

-- the low bits of a widened expression: low bits of the expression, or the expression widened
abbrev pub low_of_widened : List ℕ → ℕ → Bool → Expr → Option Expr
low_of_widened bits w signed x =
    if nat_lt w (width_of bits x) then Some (Part w 0 x)
    else if nat_lt (width_of bits x) w then Some (Widen signed w x) else None

-- a part of a widened expression: its low bits, or 0
abbrev pub part_of_widened : List ℕ → Expr → Option Expr
part_of_widened bits (Part w n (Widen signed v x)) =
    if n == 0 then low_of_widened bits w signed x
    else if not signed && nat_le (width_of bits x) n then Some (Const w 0) else None
part_of_widened bits e = None

-- the low bits of an expression under a mask that has them all
abbrev pub part_of_masked : Expr → Option Expr
part_of_masked (Part w n (Binary f v x (Const u c))) =
    if n == 0 && same_binary f And && is_width w && c % 2 ^ w == ones w then Some (Part w 0 x) else None
part_of_masked e = None

-- the low bits of the operator's value are its value on the low bits of the operands
abbrev pub is_narrow : BinOp → Bool
is_narrow Add = true
is_narrow Sub = true
is_narrow Mul = true
is_narrow And = true
is_narrow Or = true
is_narrow Xor = true
is_narrow f = false

-- an expression of so many bits, no larger, for the low bits of an expression
abbrev pub low_of : List ℕ → ℕ → Expr → Option Expr
low_of bits w (Const v n) = if is_width w then Some (Const w (n % 2 ^ w)) else None
low_of bits w (Widen signed v x) = if width_of bits x == w then Some x else None
low_of bits w (Join a b) = if width_of bits b == w then Some b else None
low_of bits w e = None

-- the operator on two operands, where there are both
abbrev pub operator_on : BinOp → ℕ → Option Expr → Option Expr → Option Expr
operator_on f w (Some a) (Some b) = Some (Binary f w a b)
operator_on f w _ _ = None

-- the low bits of an operator's value: the operator on low bits
abbrev pub narrowed : List ℕ → Expr → Option Expr
narrowed bits (Part w n (Binary f v x y)) =
    if n == 0 && is_narrow f then operator_on f w (low_of bits w x) (low_of bits w y) else None
narrowed bits e = None
