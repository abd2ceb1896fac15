-- The values of expressions: numbers below 2 to the power of a width, in two's complement where they are signed.
use Rattle.std.specs.Prelude.{◌≡◌, ℕ, zero, suc, ◌+◌, ◌-◌, ◌*◌, ◌/◌, ◌%◌, ◌^◌, ◌<◌, ◌==◌, nat_lt, nat_le, Bool, true}
use Rattle.std.specs.Prelude.{false, ◌||◌, ◌&&◌, ℤ, pos, ◌-ℤ◌, int_lt, int_le, int_div, int_rem, if◌then◌else◌, bit_and}
use Rattle.std.specs.Prelude.{bit_or, bit_xor, List, length, slice_index, slice_set, Option, Some, None, unwrap_or}
use Rattle.std.specs.Int.{from_bool}
use Rattle.dcc_num.specs.Numbers.{residue_of, halved_of}
use Rattle.dcc_ir.specs.declared.syntax.Loc.{Loc}
use Rattle.dcc_ir.specs.declared.syntax.UnOp.{UnOp}
use Rattle.dcc_ir.specs.declared.syntax.UnOp.TheVariants.{Neg, Not, IsZero}
use Rattle.dcc_ir.specs.declared.syntax.BinOp.{BinOp}
use Rattle.dcc_ir.specs.declared.syntax.BinOp.TheVariants.{Add, Sub, Mul, DivS, DivU, RemS, RemU, And, Or, Xor, Shl}
use Rattle.dcc_ir.specs.declared.syntax.BinOp.TheVariants.{Shr, Sar, Eq, LtS, LtU, LeS, LeU}
use Rattle.dcc_ir.specs.Tree.{Expr, Const, Get, Load, Unary, Binary, Widen, Part, Join, Choose, Address}
use Rattle.dcc_ir.specs.Location.{location_width, Values}

-- Widths.

-- the operator gives one bit
abbrev pub is_comparison : BinOp → Bool
is_comparison Eq = true
is_comparison LtS = true
is_comparison LtU = true
is_comparison LeS = true
is_comparison LeU = true
is_comparison _ = false

abbrev pub is_test : UnOp → Bool
is_test IsZero = true
is_test _ = false

-- how many bits an expression has, by the widths of the temporaries
abbrev pub width_of : List ℕ → Expr → ℕ
width_of bits (Const width n) = width
width_of bits (Get location) = location_width bits location
width_of bits (Load width address) = width
width_of bits (Unary operator width a) = if is_test operator then 1 else width
width_of bits (Binary operator width a b) = if is_comparison operator then 1 else width
width_of bits (Widen signed width a) = width
width_of bits (Part width first a) = width
width_of bits (Join high low) = width_of bits high + width_of bits low
width_of bits (Choose test a b) = width_of bits a
width_of bits (Address distance) = 16

-- Numbers.

-- the number that the bits stand for in two's complement
abbrev pub signed_at : ℕ → ℕ → ℤ
signed_at width a = if nat_le (2 ^ (width - 1)) a then pos a -ℤ pos (2 ^ width) else pos a

-- the bits of a signed number
abbrev pub pattern_at : ℕ → ℤ → ℕ
pattern_at width z = residue_of (2 ^ width) z

-- the divisor is 0, or the quotient of the signed numbers is above the greatest
abbrev pub faults_signed : ℕ → ℕ → ℕ → Bool
faults_signed width a b = b == 0 || ((a == 2 ^ (width - 1)) && (b == 2 ^ width - 1))

-- a division without a sign, where the divisor is not 0
abbrev pub divided : (ℕ → ℕ → ℕ) → ℕ → ℕ → Option ℕ
divided operation a b = if b == 0 then None else Some (operation a b)

-- a division of signed numbers, where it does not fault
abbrev pub divided_signed : (ℤ → ℤ → ℤ) → ℕ → ℕ → ℕ → Option ℕ
divided_signed operation width a b =
    if faults_signed width a b then None
    else Some (pattern_at width (operation (signed_at width a) (signed_at width b)))

-- the quotient, rounded towards 0, or the remainder, which has the dividend's sign; none at a divide fault
abbrev pub division_at : BinOp → ℕ → ℕ → ℕ → Option ℕ
division_at DivS width a b = divided_signed int_div width a b
division_at DivU width a b = divided ◌/◌ a b
division_at RemS width a b = divided_signed int_rem width a b
division_at RemU width a b = divided ◌%◌ a b
division_at _ width a b = None

-- Operators.

abbrev pub unary_value : UnOp → ℕ → ℕ → ℕ
unary_value Neg width a = (2 ^ width - a) % 2 ^ width
unary_value Not width a = 2 ^ width - 1 - a
unary_value IsZero width a = from_bool (a == 0)

-- a division that faults gives 0; a shift goes by its right operand as a number, past the width too
abbrev pub binary_value : BinOp → ℕ → ℕ → ℕ → ℕ
binary_value Add width a b = (a + b) % 2 ^ width
binary_value Sub width a b = (a + 2 ^ width - b) % 2 ^ width
binary_value Mul width a b = a * b % 2 ^ width
binary_value And width a b = bit_and a b
binary_value Or width a b = bit_or a b
binary_value Xor width a b = bit_xor a b
binary_value Shl width a b = a * 2 ^ b % 2 ^ width
binary_value Shr width a b = a / 2 ^ b
binary_value Sar width a b = pattern_at width (halved_of (signed_at width a) b)
binary_value Eq width a b = from_bool (a == b)
binary_value LtS width a b = from_bool (int_lt (signed_at width a) (signed_at width b))
binary_value LtU width a b = from_bool (nat_lt a b)
binary_value LeS width a b = from_bool (int_le (signed_at width a) (signed_at width b))
binary_value LeU width a b = from_bool (nat_le a b)
binary_value operator width a b = unwrap_or (division_at operator width a b) 0

-- Memory: 65,536 bytes, whose addresses wrap.

abbrev pub byte_at : List ℕ → ℕ → ℕ
byte_at memory address = slice_index memory (address % 65536)

-- the number in `count` bytes from an address on, low byte first
abbrev pub bytes_at : List ℕ → ℕ → ℕ → ℕ
bytes_at memory zero address = 0
bytes_at memory (suc count) address = byte_at memory address + 256 * bytes_at memory count (address + 1)

-- the memory after a number has been stored in `count` bytes
abbrev pub with_bytes_at : List ℕ → ℕ → ℕ → ℕ → List ℕ
with_bytes_at memory zero address n = memory
with_bytes_at memory (suc count) address n =
    with_bytes_at (slice_set memory (address % 65536) (n % 256)) count (address + 1) (n / 256)

-- Expressions.

-- what an expression reads: the widths of the temporaries, the values of the call's locations, the base of its frame
-- and the memory
pub record Environment : Type 0 where
  pub bits : List ℕ
  pub values : Values
  pub base : ℕ
  pub memory : List ℕ

-- the value of an expression
abbrev pub value_of : Environment → Expr → ℕ
value_of scene (Const width n) = n
value_of scene (Get location) = scene.values location
value_of scene (Load width address) = bytes_at scene.memory (width / 8) (value_of scene address)
value_of scene (Unary operator width a) = unary_value operator width (value_of scene a)
value_of scene (Binary operator width a b) = binary_value operator width (value_of scene a) (value_of scene b)
value_of scene (Widen signed width a) =
    if signed then pattern_at width (signed_at (width_of scene.bits a) (value_of scene a)) else value_of scene a
value_of scene (Part width first a) = value_of scene a / 2 ^ first % 2 ^ width
value_of scene (Join high low) = value_of scene high * 2 ^ width_of scene.bits low + value_of scene low
value_of scene (Choose test a b) = if value_of scene test == 1 then value_of scene a else value_of scene b
value_of scene (Address distance) = (scene.base + distance) % 65536

-- the value of a division; none where it faults
abbrev pub division_of : Environment → Expr → Option ℕ
division_of scene (Binary operator width a b) = division_at operator width (value_of scene a) (value_of scene b)
division_of scene e = None

-- each location holds a number of its width, and the memory has 65,536 bytes
pub record Fits (scene : Environment) : Type 0 where
  pub values : (location : Loc) → scene.values location < 2 ^ location_width scene.bits location
  pub len : length scene.memory ≡ 65536
  pub bytes : (address : ℕ) → slice_index scene.memory address < 256
