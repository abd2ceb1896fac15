-- The sizes of expressions.
use Rattle.std.specs.Prelude.{ℕ, suc, max, Bool, true, false, List, [], ◌∷◌, length, count_by}
use Rattle.dcc_ir.specs.Tree.{Expr, Const, Get, Load, Unary, Binary, Widen, Part, Join, Choose, Address}
use Rattle.dcc_ir.specs.Value.{is_comparison, is_test}
use Rattle.dcc_ir.specs.Use.{parts_of}

-- the number of an expression's nodes
abbrev pub nodes_of : Expr → ℕ
nodes_of e = length (parts_of e)

-- how deep an expression is; one without operands is 1 deep
abbrev pub depth_of : Expr → ℕ
depth_of (Const width n) = 1
depth_of (Get location) = 1
depth_of (Load width address) = suc (depth_of address)
depth_of (Unary operator width a) = suc (depth_of a)
depth_of (Binary operator width a b) = suc (max (depth_of a) (depth_of b))
depth_of (Widen signed width a) = suc (depth_of a)
depth_of (Part width first a) = suc (depth_of a)
depth_of (Join high low) = suc (max (depth_of high) (depth_of low))
depth_of (Choose test a b) = suc (max (depth_of test) (max (depth_of a) (depth_of b)))
depth_of (Address distance) = 1

-- the greatest depth of some expressions
abbrev pub deepest : List Expr → ℕ
deepest [] = 0
deepest (e ∷ es) = max (depth_of e) (deepest es)

-- a truth node: a comparison, a test for zero or a choice
abbrev pub is_truth : Expr → Bool
is_truth (Unary operator width a) = is_test operator
is_truth (Binary operator width a b) = is_comparison operator
is_truth (Choose test a b) = true
is_truth _ = false

-- the number of an expression's truth nodes
abbrev pub truths_of : Expr → ℕ
truths_of e = count_by is_truth (parts_of e)
