-- The values of expressions of constants.
use Rattle.std.specs.Prelude.{◌≡◌, ℕ, ◌+◌, ◌*◌, ◌/◌, ◌%◌, ◌^◌, ◌==◌, nat_lt, Bool, true, false, ◌&&◌, ◌||◌, not, if◌then◌else◌, Option, Some, None}
use Rattle.dcc_ir.specs.declared.syntax.BinOp.{BinOp}
use Rattle.dcc_ir.specs.Tree.{Expr, Const, Unary, Binary, Widen, Part, Join}
use Rattle.dcc_ir.specs.Value.{is_comparison, is_test, signed_at, pattern_at, unary_value, binary_value}
use Rattle.dcc_ir.specs.WellFormed.{is_width, is_division}
use Rattle.dcc_ir.specs.Forms.{same_binary, is_shift, are_constants}
use Rattle.dcc_stdrules.specs.declared.constants.Operators.{Operators}
use Rattle.dcc_stdrules.specs.declared.constants.Operators.TheVariants.{Only, Shifts, Comparisons}
use Rattle.dcc_stdrules.specs.Rewriting.{answer_where}

-- the operator is one of them
abbrev pub has_operator : Operators → BinOp → Bool
has_operator (Only one) f = same_binary f one
has_operator Shifts f = is_shift f
has_operator Comparisons f = is_comparison f

-- the expression has one of the operators on two constants of its width
abbrev pub is_computed : Operators → Expr → Bool
is_computed operators (Binary f w a b) = has_operator operators f && are_constants w a b
is_computed operators _ = false

-- the value of an expression of constants, as a constant
abbrev pub value_in : Expr → Expr
value_in (Binary f w (Const v m) (Const u n)) = Const (if is_comparison f then 1 else w) (binary_value f w m n)
value_in (Unary f w (Const v n)) = Const (if is_test f then 1 else w) (unary_value f w n)
value_in (Part w first (Const v n)) = Const w (n / 2 ^ first % 2 ^ w)
value_in (Widen signed w (Const v n)) = Const w (if signed then pattern_at w (signed_at v n) else n)
value_in (Join (Const v m) (Const u n)) = Const (v + u) (m * 2 ^ u + n)
value_in e = e

-- the widths are widths, there is no division, and halves have their widths
abbrev pub is_plain : Expr → Bool
is_plain (Binary f w a b) = is_width w && not (is_division f)
is_plain (Unary f w a) = is_width w
is_plain (Part w first a) = is_width w
is_plain (Widen signed w (Const v n)) = is_width v && is_width w
is_plain (Join (Const v m) (Const u n)) = v == u && (u == 8 || u == 16) && nat_lt m (2 ^ v) && nat_lt n (2 ^ u)
is_plain e = false

abbrev pub width_told : Option Expr → ℕ
width_told (Some (Const w n)) = w
width_told _ = 0

abbrev pub number_told : Option Expr → ℕ
number_told (Some (Const w n)) = n
number_told _ = 0

-- The answer is a constant where the test passes, and none elsewhere; where the given expression is plain, the constant
-- is its value.
pub record IsComputed (test : Bool) (given : Expr) (answer : Option Expr) : Type 0 where
  pub form : answer ≡ answer_where test (Const (width_told answer) (number_told answer))
  pub value : test ≡ true → is_plain given ≡ true → answer ≡ Some (value_in given)
