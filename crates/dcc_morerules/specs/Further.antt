-- Forms of rules above 40, and what takes their place.
use Rattle.std.specs.Prelude.{◌≡◌, ℕ, ◌+◌, ◌==◌, Bool, true, false, ◌&&◌, ◌||◌, if◌then◌else◌, Option, Some, None, is_some, unwrap_or, option_map, Result, IfOk}
use Rattle.std.specs.declared.alloc.AllocError.{AllocError}
use Rattle.std.specs.Option.{option_or}
use denote.Ref.{Bor}
use Rattle.dcc_ir.specs.declared.syntax.Expr.{Expr as Expression}
use Rattle.dcc_ir.specs.declared.syntax.UnOp.TheVariants.{Not}
use Rattle.dcc_ir.specs.declared.syntax.BinOp.{BinOp}
use Rattle.dcc_ir.specs.declared.syntax.BinOp.TheVariants.{Xor}
use Rattle.dcc_ir.specs.Views.{expr_of}
use Rattle.dcc_ir.specs.Tree.{Expr, Const, Unary, Binary, Widen, Join}
use Rattle.dcc_ir.specs.Forms.{same_unary, same_binary, same_expr}

-- the tree of an expression that is lent
abbrev pub shared : Bor Expression → Expr
shared e = expr_of e.now

-- a call answers this
abbrev pub Gives : Result (Option Expression) AllocError → Option Expr → Type 0
Gives result expected = IfOk result (λ answer. option_map expr_of answer ≡ expected)

-- the opposite of a comparison by this operator
abbrev pub is_opposite : BinOp → Expr → Bool
is_opposite f (Unary h v (Binary k w x y)) = same_unary h Not && v == 1 && same_binary k f
is_opposite f e = false

-- the compared expressions, turned, under another operator
abbrev pub turned : BinOp → Expr → Expr
turned g (Unary h v (Binary k w x y)) = Binary g w y x
turned g e = e

-- what is left of an exclusive or without one of its operands
abbrev pub without : Expr → Expr → Option Expr
without x (Binary k w a b) =
    if same_binary k Xor then (if same_expr a x then Some b else if same_expr b x then Some a else None) else None
without x e = None

-- what is left of an exclusive or of an expression and an exclusive or with it
abbrev pub xor_twice : Expr → Option Expr
xor_twice (Binary k w a b) = if same_binary k Xor then option_or (without a b) (without b a) else None
xor_twice e = None

-- 0 beside an expression of a byte or a word
abbrev pub is_below_zero : Expr → Bool
is_below_zero (Join (Const w n) x) = n == 0 && (w == 8 || w == 16)
is_below_zero e = false

-- the expression at its greater width
abbrev pub at_double_width : Expr → Expr
at_double_width (Join (Const w n) x) = Widen false (w + w) x
at_double_width e = e
