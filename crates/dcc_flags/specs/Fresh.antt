-- Expressions over temporaries that a pass has made. No public contract rests on it.
use Rattle.std.specs.Prelude.{ℕ, Bool, true, false, ◌&&◌, nat_le, nat_lt}
use Rattle.dcc_ir.specs.declared.syntax.Loc.{Loc}
use Rattle.dcc_ir.specs.declared.syntax.Loc.TheVariants.{Temp}
use Rattle.dcc_ir.specs.Tree.{Expr, Const, Get, Load, Unary, Binary, Widen, Part, Join, Choose, Address}

abbrev pub is_between : ℕ → ℕ → Loc → Bool
is_between low high (Temp n) = nat_le low n && nat_lt n high
is_between low high location = false

-- the expression reads temporaries from one number to below another alone, and neither memory nor the frame's base
abbrev pub is_over : ℕ → ℕ → Expr → Bool
is_over low high (Const width n) = true
is_over low high (Get location) = is_between low high location
is_over low high (Load width address) = false
is_over low high (Unary operator width a) = is_over low high a
is_over low high (Binary operator width a b) = is_over low high a && is_over low high b
is_over low high (Widen signed width a) = is_over low high a
is_over low high (Part width first a) = is_over low high a
is_over low high (Join a b) = is_over low high a && is_over low high b
is_over low high (Choose test a b) = is_over low high test && is_over low high a && is_over low high b
is_over low high (Address distance) = false
