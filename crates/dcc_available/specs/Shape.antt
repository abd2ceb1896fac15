-- Bounds of the depth of expressions. No public contract rests on them.
use Rattle.std.specs.Prelude.{ℕ, ◌-◌, ◌==◌, Bool, ◌&&◌, not}
use Rattle.dcc_ir.specs.Tree.{Expr, Const, Get, Load, Unary, Binary, Widen, Part, Join, Choose, Address}

-- the expression is at most so deep
abbrev pub is_within : Expr → ℕ → Bool
is_within (Const width n) depth = not (depth == 0)
is_within (Get location) depth = not (depth == 0)
is_within (Load width a) depth = not (depth == 0) && is_within a (depth - 1)
is_within (Unary operator width a) depth = not (depth == 0) && is_within a (depth - 1)
is_within (Binary operator width a b) depth = not (depth == 0) && is_within a (depth - 1) && is_within b (depth - 1)
is_within (Widen signed width a) depth = not (depth == 0) && is_within a (depth - 1)
is_within (Part width first a) depth = not (depth == 0) && is_within a (depth - 1)
is_within (Join high low) depth = not (depth == 0) && is_within high (depth - 1) && is_within low (depth - 1)
is_within (Choose test a b) depth =
    not (depth == 0) && is_within test (depth - 1) && is_within a (depth - 1) && is_within b (depth - 1)
is_within (Address distance) depth = not (depth == 0)
