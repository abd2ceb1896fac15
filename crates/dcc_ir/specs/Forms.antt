-- The forms of the rewritings that are known by a number, read from the expression alone. A constant has the width of
-- its operator; one expression at two places is the same tree.
use Rattle.std.specs.Prelude.{ℕ, ◌+◌, ◌-◌, ◌^◌, ◌==◌, Bool, true, false, ◌&&◌, ◌||◌, if◌then◌else◌, List, [], ◌∷◌}
use Rattle.std.specs.Prelude.{slice_get, Option, Some, None, option_map}
use Rattle.std.specs.Option.{option_or}
use Rattle.dcc_ir.specs.declared.syntax.Loc.{Loc}
use Rattle.dcc_ir.specs.declared.syntax.Loc.TheVariants.{Temp}
use Rattle.dcc_ir.specs.declared.syntax.UnOp.{UnOp}
use Rattle.dcc_ir.specs.declared.syntax.UnOp.TheVariants.{Neg, Not, IsZero}
use Rattle.dcc_ir.specs.declared.syntax.BinOp.{BinOp}
use Rattle.dcc_ir.specs.declared.syntax.BinOp.TheVariants.{Add, Sub, Mul, DivS, DivU, RemS, RemU, And, Or, Xor, Shl}
use Rattle.dcc_ir.specs.declared.syntax.BinOp.TheVariants.{Shr, Sar, Eq, LtS, LtU, LeS, LeU}
use Rattle.dcc_ir.specs.Tree.{Expr, Const, Get, Load, Unary, Binary, Widen, Part, Join, Choose, Address}
use Rattle.dcc_ir.specs.Location.{same_location, location_width}
use Rattle.dcc_ir.specs.Value.{is_comparison, is_test}

-- Which trees are the same.

abbrev pub unary_number : UnOp → ℕ
unary_number Neg = 0
unary_number Not = 1
unary_number IsZero = 2

abbrev pub binary_number : BinOp → ℕ
binary_number Add = 0
binary_number Sub = 1
binary_number Mul = 2
binary_number DivS = 3
binary_number DivU = 4
binary_number RemS = 5
binary_number RemU = 6
binary_number And = 7
binary_number Or = 8
binary_number Xor = 9
binary_number Shl = 10
binary_number Shr = 11
binary_number Sar = 12
binary_number Eq = 13
binary_number LtS = 14
binary_number LtU = 15
binary_number LeS = 16
binary_number LeU = 17

abbrev pub same_unary : UnOp → UnOp → Bool
same_unary a b = unary_number a == unary_number b

abbrev pub same_binary : BinOp → BinOp → Bool
same_binary a b = binary_number a == binary_number b

abbrev pub same_flag : Bool → Bool → Bool
same_flag true b = b
same_flag false true = false
same_flag false false = true

-- the two expressions are one tree
abbrev pub same_expr : Expr → Expr → Bool
same_expr (Const w n) (Const w' n') = w == w' && n == n'
same_expr (Get location) (Get location') = same_location location location'
same_expr (Load w a) (Load w' a') = w == w' && same_expr a a'
same_expr (Unary op w a) (Unary op' w' a') = same_unary op op' && w == w' && same_expr a a'
same_expr (Binary op w a b) (Binary op' w' a' b') = same_binary op op' && w == w' && same_expr a a' && same_expr b b'
same_expr (Widen signed w a) (Widen signed' w' a') = same_flag signed signed' && w == w' && same_expr a a'
same_expr (Part w first a) (Part w' first' a') = w == w' && first == first' && same_expr a a'
same_expr (Join high low) (Join high' low') = same_expr high high' && same_expr low low'
same_expr (Choose test a b) (Choose test' a' b') = same_expr test test' && same_expr a a' && same_expr b b'
same_expr (Address distance) (Address distance') = distance == distance'
same_expr _ _ = false

-- The width that an expression tells.

abbrev pub told_by_location : Loc → Option ℕ
told_by_location (Temp n) = None
told_by_location location = Some (location_width [] location)

-- the width that an expression tells, if any: a read of a temporary tells none; a Join and a Choose tell it by their
-- parts
abbrev pub told_by : Expr → Option ℕ
told_by (Const width n) = Some width
told_by (Get location) = told_by_location location
told_by (Load width address) = Some width
told_by (Unary operator width a) = Some (if is_test operator then 1 else width)
told_by (Binary operator width a b) = Some (if is_comparison operator then 1 else width)
told_by (Widen signed width a) = Some width
told_by (Part width first a) = Some width
told_by (Join high low) = option_map (λ width. width + width) (option_or (told_by high) (told_by low))
told_by (Choose test a b) = option_or (told_by a) (told_by b)
told_by (Address distance) = Some 16

-- the expression tells that width
abbrev pub tells : Expr → ℕ → Bool
tells e width = elim (told_by e) [ Some w ↦ w == width | None ↦ false ]

-- Parts of forms.

abbrev pub is_constant : Expr → Bool
is_constant (Const width n) = true
is_constant _ = false

-- a constant of that width
abbrev pub is_constant_of : ℕ → Expr → Bool
is_constant_of width (Const w n) = w == width
is_constant_of width _ = false

-- the expression is the constant of this width and number
abbrev pub is_number : ℕ → ℕ → Expr → Bool
is_number width n (Const w m) = w == width && m == n
is_number width n _ = false

-- the greatest constant of a width
abbrev pub ones : ℕ → ℕ
ones width = 2 ^ width - 1

-- a test of the operands of a binary operator, with its width
abbrev pub Operands : Type 0
Operands = ℕ → Expr → Expr → Bool

-- the expression has this operator, and its operands pass the test
abbrev pub is_binary : BinOp → Operands → Expr → Bool
is_binary operator test (Binary op width a b) = same_binary op operator && test width a b
is_binary operator test _ = false

abbrev pub right_is : (ℕ → ℕ) → Operands
right_is number width a b = is_number width (number width) b

abbrev pub left_is : (ℕ → ℕ) → Operands
left_is number width a b = is_number width (number width) a

abbrev pub are_same : Operands
are_same width a b = same_expr a b

abbrev pub are_constants : Operands
are_constants width a b = is_constant_of width a && is_constant_of width b

abbrev pub zero_of : ℕ → ℕ
zero_of width = 0

abbrev pub one_of : ℕ → ℕ
one_of width = 1

-- the expression has a unary operator twice in a row, at one width
abbrev pub is_twice : UnOp → Expr → Bool
is_twice operator (Unary op width (Unary op' width' a)) = same_unary op operator && same_unary op' operator
    && width == width'
is_twice operator _ = false

-- a constant added to, or subtracted from, what another one was added to or subtracted from, at one width
abbrev pub is_sum_of_sum : BinOp → BinOp → Expr → Bool
is_sum_of_sum outer inner (Binary op width (Binary op' width' x c) d) =
    same_binary op outer && same_binary op' inner && width == width' && is_constant_of width c && is_constant_of width d
is_sum_of_sum outer inner _ = false

abbrev pub is_shift : BinOp → Bool
is_shift operator = same_binary operator Shl || same_binary operator Shr || same_binary operator Sar

-- the expression is a shift of constants; `is_comparison_of_constants`: a comparison of constants;
-- `is_unary_of_constant`: a unary operator on one
abbrev pub is_shift_of_constants : Expr → Bool
is_shift_of_constants (Binary operator width a b) = is_shift operator && are_constants width a b
is_shift_of_constants _ = false

abbrev pub is_comparison_of_constants : Expr → Bool
is_comparison_of_constants (Binary operator width a b) = is_comparison operator && are_constants width a b
is_comparison_of_constants _ = false

abbrev pub is_unary_of_constant : Expr → Bool
is_unary_of_constant (Unary operator width a) = is_constant_of width a
is_unary_of_constant _ = false

-- the expression is a Part or Widen of a constant
abbrev pub is_cut_constant : Expr → Bool
is_cut_constant (Part width first a) = is_constant a
is_cut_constant (Widen signed width a) = is_constant a
is_cut_constant _ = false

abbrev pub is_joined_constant : Expr → Bool
is_joined_constant (Join high low) = is_constant high && is_constant low
is_joined_constant _ = false

-- the expression is the lower half of a Join; `is_high_of_join`: the upper half
abbrev pub is_low_of_join : Expr → Bool
is_low_of_join (Part width first (Join high low)) = first == 0 && tells (Join high low) (width + width)
is_low_of_join _ = false

abbrev pub is_high_of_join : Expr → Bool
is_high_of_join (Part width first (Join high low)) = first == width && tells (Join high low) (width + width)
is_high_of_join _ = false

-- the expression joins the two halves of one expression
abbrev pub is_join_of_halves : Expr → Bool
is_join_of_halves (Join (Part width first x) (Part width' first' x')) =
    width == width' && first == width && first' == 0 && same_expr x x' && tells x (width + width)
is_join_of_halves _ = false

-- the expression is a Part that takes all bits of its operand
abbrev pub is_whole_part : Expr → Bool
is_whole_part (Part width first x) = first == 0 && tells x width
is_whole_part _ = false

-- the expression is a Part of an expression that was widened
abbrev pub is_part_of_widen : Expr → Bool
is_part_of_widen (Part width first (Widen signed width' x)) = first == 0 && tells x width
is_part_of_widen _ = false

abbrev pub is_choice_by_constant : Expr → Bool
is_choice_by_constant (Choose test a b) = is_constant test
is_choice_by_constant _ = false

-- The forms.

-- the forms 1 to 40, in their order
abbrev pub forms : List (Expr → Bool)
forms =
    is_binary Add (right_is zero_of) ∷ is_binary Add (left_is zero_of) ∷ is_binary Sub (right_is zero_of)
    ∷ is_binary Sub are_same
    ∷ is_binary Mul (right_is zero_of) ∷ is_binary Mul (right_is one_of) ∷ is_binary Mul (left_is one_of)
    ∷ is_binary And (right_is zero_of) ∷ is_binary And (right_is ones) ∷ is_binary And are_same
    ∷ is_binary Or (right_is zero_of) ∷ is_binary Or are_same ∷ is_binary Or (right_is ones)
    ∷ is_binary Xor (right_is zero_of) ∷ is_binary Xor are_same
    ∷ is_binary Shl (right_is zero_of) ∷ is_binary Shr (right_is zero_of) ∷ is_binary Sar (right_is zero_of)
    ∷ is_twice Neg ∷ is_twice Not
    ∷ is_binary Add are_constants ∷ is_binary Sub are_constants ∷ is_binary Mul are_constants
    ∷ is_binary And are_constants ∷ is_binary Or are_constants ∷ is_binary Xor are_constants
    ∷ is_shift_of_constants ∷ is_comparison_of_constants ∷ is_unary_of_constant
    ∷ is_sum_of_sum Add Add ∷ is_sum_of_sum Sub Sub ∷ is_sum_of_sum Sub Add
    ∷ is_cut_constant ∷ is_joined_constant ∷ is_low_of_join ∷ is_high_of_join ∷ is_join_of_halves
    ∷ is_whole_part ∷ is_part_of_widen ∷ is_choice_by_constant ∷ []

abbrev pub passes : Option (Expr → Bool) → Expr → Bool
passes (Some test) e = test e
passes None e = false

-- the expression has the form of that number
abbrev pub has_form : ℕ → Expr → Bool
has_form id e = passes (slice_get ((λ _. false) ∷ forms) id) e
