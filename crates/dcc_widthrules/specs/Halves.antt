-- Widened and joined expressions, and shorter expressions for them.
use Rattle.std.specs.Prelude.{ℕ, ◌+◌, ◌-◌, ◌*◌, ◌^◌, ◌==◌, nat_lt, Bool, true, false, ◌&&◌, ◌||◌, not, if◌then◌else◌, List, Option, Some, None}
use Rattle.std.specs.Option.{option_or}
use Rattle.dcc_ir.specs.declared.syntax.BinOp.{BinOp}
use Rattle.dcc_ir.specs.declared.syntax.BinOp.TheVariants.{And, Or, Xor}
use Rattle.dcc_ir.specs.Tree.{Expr, Const, Binary, Widen, Part, Join}
use Rattle.dcc_ir.specs.Value.{width_of}
use Rattle.dcc_ir.specs.Forms.{same_binary, same_expr}

-- an expression that is widened twice: widened once
abbrev pub widened_once : Expr → Option Expr
widened_once (Widen signed w (Widen signed' v x)) = if not signed' || signed then Some (Widen signed' w x) else None
widened_once e = None

-- the upper half of a widened expression beside the expression: the widened expression
abbrev pub joined_widened : List ℕ → Expr → Option Expr
joined_widened bits (Join (Part w n (Widen signed v x)) y) =
    if same_expr x y && width_of bits y == w && n == w && v == w + w then Some (Widen signed v x) else None
joined_widened bits e = None

-- two neighbouring bytes of an expression of more than 16 bits: a word of it
abbrev pub joined_neighbours : List ℕ → Expr → Option Expr
joined_neighbours bits (Join (Part w n x) (Part v m y)) =
    if same_expr x y && w == 8 && v == 8 && n == m + 8 && nat_lt 16 (width_of bits x) then Some (Part 16 m x) else None
joined_neighbours bits e = None

-- the operator works on each bit by itself
abbrev pub is_bitwise : BinOp → Bool
is_bitwise And = true
is_bitwise Or = true
is_bitwise Xor = true
is_bitwise f = false

-- the bits of a byte from that place on, and beside them those by which the operator leaves the other byte as it is
abbrev pub word_of : BinOp → ℕ → ℕ → ℕ
word_of f first c = c * 2 ^ first + (if same_binary f And then 0xFF * 2 ^ (8 - first) else 0)

-- the byte of a word from that bit on, changed by a number, beside the other byte: the word changed by a number
abbrev pub changed_half : List ℕ → ℕ → Expr → Expr → Option Expr
changed_half bits first (Binary f u (Part v m x) (Const t c)) (Part w n y) =
    if is_bitwise f && v == 8 && w == 8 && m == first && n == 8 - first && same_expr x y && width_of bits x == 16
    && nat_lt c 256 then Some (Binary f 16 x (Const 16 (word_of f first c)))
    else None
changed_half bits first e e' = None

-- one byte of a word changed by a number, beside the other byte
abbrev pub changed_word : List ℕ → Expr → Option Expr
changed_word bits (Join a b) = option_or (changed_half bits 0 b a) (changed_half bits 8 a b)
changed_word bits e = None
