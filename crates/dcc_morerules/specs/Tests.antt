-- Tests that are one comparison, and that comparison.
use Rattle.std.specs.Prelude.{◌≡◌, ℕ, ◌==◌, nat_lt, Bool, true, false, ◌&&◌, ◌||◌, if◌then◌else◌, Option, Some, None, option_map}
use Rattle.std.specs.Option.{option_or}
use Rattle.dcc_ir.specs.declared.syntax.UnOp.TheVariants.{Neg, IsZero}
use Rattle.dcc_ir.specs.declared.syntax.BinOp.{BinOp}
use Rattle.dcc_ir.specs.declared.syntax.BinOp.TheVariants.{Add, Sub, Or, Xor, Eq, LtS, LtU, LeS, LeU}
use Rattle.dcc_ir.specs.Tree.{Expr, Const, Unary, Binary}
use Rattle.dcc_ir.specs.Value.{unary_value, binary_value}
use Rattle.dcc_ir.specs.WellFormed.{is_width}
use Rattle.dcc_ir.specs.Forms.{same_unary, same_binary, same_expr}

-- the first two expressions are the other two, in one order or the other
abbrev pub are_same_two : Expr → Expr → Expr → Expr → Bool
are_same_two x y a b = (same_expr x a && same_expr y b) || (same_expr x b && same_expr y a)

-- two expressions are equal, or one is less than the other: it is at most the other
abbrev pub equal_or_less : BinOp → BinOp → Expr → Expr → Option Expr
equal_or_less strict at_most (Binary f w x y) (Binary g v a b) =
    if same_binary f Eq && same_binary g strict && w == v && are_same_two x y a b then Some (Binary at_most v a b)
    else None
equal_or_less strict at_most e e' = None

-- an expression is 0, or it is negative: it is at most 0
abbrev pub zero_or_negative : Expr → Expr → Option Expr
zero_or_negative (Unary f w x) (Binary g v y (Const u n)) =
    if same_unary f IsZero && same_binary g LtS && same_expr x y && n == 0 then Some (Binary LeS v y (Const u n))
    else None
zero_or_negative e e' = None

-- what two tests make of which one holds, in one order or the other
abbrev pub either_test : (Expr → Expr → Option Expr) → Expr → Option Expr
either_test joined (Binary k v a b) = if same_binary k Or && v == 1 then option_or (joined a b) (joined b a) else None
either_test joined e = None

-- the operator that undoes a sum or a difference
abbrev pub undoing : BinOp → Option BinOp
undoing Add = Some Sub
undoing Sub = Some Add
undoing f = None

-- an expression changed by a number equals a number: the expression equals one number
abbrev pub equal_after_sum : Expr → Option Expr
equal_after_sum (Binary k w (Binary f v x (Const u c)) (Const t d)) =
    if same_binary k Eq && is_width w then option_map (λ g. Binary Eq w x (Const w (binary_value g w d c))) (undoing f)
    else None
equal_after_sum e = None

-- two expressions of so many bits are equal
abbrev pub equality : ℕ → Expr → Expr → Expr
equality w x y = Binary Eq w x y

-- an expression equals the negative of a number
abbrev pub equal_to_negative : ℕ → Expr → Expr → Option Expr
equal_to_negative w x (Const u c) = if is_width w then Some (equality w x (Const w (unary_value Neg w c))) else None
equal_to_negative w x e = None

-- a difference, an exclusive or, or a sum with a number is 0: an expression equals another
abbrev pub zero_difference : Expr → Option Expr
zero_difference (Unary h v (Binary f w x y)) =
    if same_unary h IsZero && nat_lt 1 v then
    (if same_binary f Sub || same_binary f Xor then Some (equality w x y)
    else if same_binary f Add then equal_to_negative w x y else None)
    else None
zero_difference e = None

-- the opposite of a comparison, its operands turned
abbrev pub opposite_of : BinOp → Option BinOp
opposite_of LtS = Some LeS
opposite_of LtU = Some LeU
opposite_of LeS = Some LtS
opposite_of LeU = Some LtU
opposite_of f = None

-- a comparison is 0: its opposite
abbrev pub zero_truth : Expr → Option Expr
zero_truth (Unary h v (Binary f w x y)) =
    if same_unary h IsZero && v == 1 then option_map (λ g. Binary g w y x) (opposite_of f) else None
zero_truth e = None
