-- The value of a well-formed expression fits its width.
use Rattle.std.proofs.Common.{◌≡◌, ℕ, zero, suc, ◌+◌, ◌-◌, ◌*◌, ◌/◌, ◌%◌, ◌^◌, ◌<◌, ◌≤◌, Bool, true, false, ◌&&◌, ◌||◌, not, ◌⊎◌, inl, inr, List, Some, None, refl, sym, ap, ◌∙◌, subst, ℤ, pos, negsuc, true≢false, eqb-true, ltb-true, lit<, arith}
use Rattle.std.specs.Prelude.{if◌then◌else◌, ◌==◌, nat_lt, unwrap_or, slice_index, int_div, int_rem}
use Rattle.std.specs.Int.{from_bool}
use Rattle.std.proofs.lemmas.Nat.{pow_pos, pow-add, mod_below, and_le_l, or_lt, xor_lt}
use Rattle.std.proofs.Math.Nat.{div-le_self, pow-le-pow_right}
use Rattle.dcc_num.specs.Numbers.{residue_of}
use Rattle.dcc_ir.specs.declared.syntax.UnOp.{UnOp}
use Rattle.dcc_ir.specs.declared.syntax.UnOp.TheVariants.{Neg, Not, IsZero}
use Rattle.dcc_ir.specs.declared.syntax.BinOp.{BinOp}
use Rattle.dcc_ir.specs.declared.syntax.BinOp.TheVariants.{Add, Sub, Mul, DivS, DivU, RemS, RemU, And, Or, Xor, Shl, Shr, Sar, Eq, LtS, LtU, LeS, LeU}
use Rattle.dcc_ir.specs.Tree.{Expr, Const, Get, Load, Unary, Binary, Widen, Part, Join, Choose, Address}
use Rattle.dcc_ir.specs.Value.{is_comparison, is_test, width_of, signed_at, pattern_at, faults_signed, unary_value, binary_value, bytes_at, Environment, value_of, Fits}
use Rattle.dcc_ir.specs.WellFormed.{is_width, is_stored_width, is_expr, is_division, divides_safely}

pub both : (a b : Bool) → (a && b) ≡ true → (a ≡ true) × (b ≡ true)
both true b e = (refl, e)
both false b e = absurd (true≢false (sym e))

pub either : (a b : Bool) → (a || b) ≡ true → (a ≡ true) ⊎ (b ≡ true)
either true b e = inl refl
either false b e = inr e

-- 0 or 1 is one bit
bool_below : (b : Bool) → from_bool b < 2 ^ 1
bool_below true = lit< tt
bool_below false = lit< tt

residue_below : (width : ℕ) (z : ℤ) → residue_of (2 ^ width) z < 2 ^ width
residue_below width (pos n) = mod_below n (2 ^ width) (pow_pos width)
residue_below width (negsuc n) = let some : 0 < 2 ^ width = pow_pos width in omega arith

-- so many bytes have 8 bits each
pub bytes_below : (memory : List ℕ) → ((address : ℕ) → slice_index memory address < 256) → (count address : ℕ) → bytes_at memory count address < 2 ^ (8 * count)
bytes_below memory small zero address = pow_pos 0
bytes_below memory small (suc count) address =
    let e : 8 * suc count ≡ 8 + 8 * count = omega arith in
    let p : 2 ^ (8 * suc count) ≡ 256 * 2 ^ (8 * count) = ap (λ n. 2 ^ n) e ∙ pow-add 2 8 (8 * count) in
    let here = small (address % 65536) in
    let rest = bytes_below memory small count (address + 1) in
    subst (λ n. bytes_at memory (suc count) address < n) (sym p) (omega (arith, here, rest))

pub stored : (width : ℕ) → is_stored_width width ≡ true → 8 * (width / 8) ≡ width
stored width e = elim (either (width == 8 || width == 16) (width == 32) e) [
  | inl f ↦ elim (either (width == 8) (width == 16) f) [
    | inl g ↦ let w : width ≡ 8 = eqb-true width 8 g in subst (λ n. 8 * (n / 8) ≡ n) (sym w) refl
    | inr g ↦ let w : width ≡ 16 = eqb-true width 16 g in subst (λ n. 8 * (n / 8) ≡ n) (sym w) refl
  ]
  | inr g ↦ let w : width ≡ 32 = eqb-true width 32 g in subst (λ n. 8 * (n / 8) ≡ n) (sym w) refl
]

unary_fits : (operator : UnOp) (width a : ℕ) → unary_value operator width a < 2 ^ (if is_test operator then 1 else width)
unary_fits Neg width a = mod_below (2 ^ width - a) (2 ^ width) (pow_pos width)
unary_fits Not width a = let some : 0 < 2 ^ width = pow_pos width in omega arith
unary_fits IsZero width a = bool_below (a == 0)

-- a quotient or a remainder is no greater than the dividend or the width
divided_fits : (operation : ℕ → ℕ → ℕ) (width a b : ℕ) → operation a b ≤ a → a < 2 ^ width → (zero_divisor : Bool) → unwrap_or (if zero_divisor then None else Some (operation a b)) 0 < 2 ^ width
divided_fits operation width a b less small true = pow_pos width
divided_fits operation width a b less small false = omega (arith, less, small)

signed_fits : (operation : ℤ → ℤ → ℤ) (width a b : ℕ) (faults : Bool) → unwrap_or (if faults then None else Some (pattern_at width (operation (signed_at width a) (signed_at width b)))) 0 < 2 ^ width
signed_fits operation width a b true = pow_pos width
signed_fits operation width a b false = residue_below width (operation (signed_at width a) (signed_at width b))

pub binary_fits : (operator : BinOp) (width a b : ℕ) → a < 2 ^ width → b < 2 ^ width → binary_value operator width a b < 2 ^ (if is_comparison operator then 1 else width)
binary_fits Add width a b x y = mod_below (a + b) (2 ^ width) (pow_pos width)
binary_fits Sub width a b x y = mod_below (a + 2 ^ width - b) (2 ^ width) (pow_pos width)
binary_fits Mul width a b x y = mod_below (a * b) (2 ^ width) (pow_pos width)
binary_fits DivS width a b x y = signed_fits int_div width a b (faults_signed width a b)
binary_fits DivU width a b x y = divided_fits ◌/◌ width a b (div-le_self a b) x (b == 0)
binary_fits RemS width a b x y = signed_fits int_rem width a b (faults_signed width a b)
binary_fits RemU width a b x y = let less : a % b ≤ a = omega arith in divided_fits ◌%◌ width a b less x (b == 0)
binary_fits And width a b x y = let less = and_le_l a b in omega (arith, less, x)
binary_fits Or width a b x y = or_lt width a b x y
binary_fits Xor width a b x y = xor_lt width a b x y
binary_fits Shl width a b x y = mod_below (a * 2 ^ b) (2 ^ width) (pow_pos width)
binary_fits Shr width a b x y = let less = div-le_self a (2 ^ b) in omega (arith, less, x)
binary_fits Sar width a b x y = residue_below width _
binary_fits Eq width a b x y = bool_below _
binary_fits LtS width a b x y = bool_below _
binary_fits LtU width a b x y = bool_below _
binary_fits LeS width a b x y = bool_below _
binary_fits LeU width a b x y = bool_below _

-- where the second number is the width that is meant
pub at_width : (n w width : ℕ) → (w == width) ≡ true → n < 2 ^ w → n < 2 ^ width
at_width n w width e h = subst (λ k. n < 2 ^ k) (eqb-true w width e) h

joined_fits : (h l a b : ℕ) → a < 2 ^ h → b < 2 ^ l → a * 2 ^ l + b < 2 ^ (h + l)
joined_fits h l a b x y =
    let p = pow-add 2 h l in
    subst (λ n. a * 2 ^ l + b < n) (sym p) (below (2 ^ h) (2 ^ l) a b x y)
  where
    below : (m n a b : ℕ) → a < m → b < n → a * n + b < m * n
    below m n a b x y = grind arith

pub value_fits : (scene : Environment) → Fits scene → (e : Expr) → is_expr scene.bits e ≡ true → value_of scene e < 2 ^ width_of scene.bits e
value_fits scene fits (Const width n) ok = ltb-true n (2 ^ width) (both (is_width width) (nat_lt n (2 ^ width)) ok).1
value_fits scene fits (Get location) ok = fits.values location
value_fits scene fits (Load width address) ok =
    let one = both (is_stored_width width && is_expr scene.bits address) (width_of scene.bits address == 16) ok in
    let two = both (is_stored_width width) (is_expr scene.bits address) one.0 in
    subst (λ n. bytes_at scene.memory (width / 8) (value_of scene address) < 2 ^ n) (stored width two.0) (bytes_below scene.memory fits.bytes (width / 8) (value_of scene address))
value_fits scene fits (Unary operator width a) ok = unary_fits operator width (value_of scene a)
value_fits scene fits (Binary operator width a b) ok =
    let five = both (is_width width && is_expr scene.bits a && is_expr scene.bits b && (width_of scene.bits a == width) && (width_of scene.bits b == width)) (not (is_division operator) || divides_safely operator width b) ok in
    let four = both (is_width width && is_expr scene.bits a && is_expr scene.bits b && (width_of scene.bits a == width)) (width_of scene.bits b == width) five.0 in
    let three = both (is_width width && is_expr scene.bits a && is_expr scene.bits b) (width_of scene.bits a == width) four.0 in
    let two = both (is_width width && is_expr scene.bits a) (is_expr scene.bits b) three.0 in
    let one = both (is_width width) (is_expr scene.bits a) two.0 in
    binary_fits operator width (value_of scene a) (value_of scene b) (at_width _ (width_of scene.bits a) width three.1 (value_fits scene fits a one.1)) (at_width _ (width_of scene.bits b) width four.1 (value_fits scene fits b two.1))
value_fits scene fits (Widen true width a) ok = residue_below width _
value_fits scene fits (Widen false width a) ok =
    let two = both (is_width width && is_expr scene.bits a) (nat_lt (width_of scene.bits a) width) ok in
    let one = both (is_width width) (is_expr scene.bits a) two.0 in
    let less : width_of scene.bits a < width = ltb-true (width_of scene.bits a) width two.1 in
    let small = value_fits scene fits a one.1 in
    let wider : 2 ^ width_of scene.bits a ≤ 2 ^ width = pow-le-pow_right (lit< tt) {i = width_of scene.bits a} {j = width} (omega arith) in
    omega (arith, small, wider)
value_fits scene fits (Part width first a) ok = mod_below (value_of scene a / 2 ^ first) (2 ^ width) (pow_pos width)
value_fits scene fits (Join high low) ok =
    let three = both (is_expr scene.bits high && is_expr scene.bits low && (width_of scene.bits high == width_of scene.bits low)) (width_of scene.bits low == 8 || width_of scene.bits low == 16) ok in
    let two = both (is_expr scene.bits high && is_expr scene.bits low) (width_of scene.bits high == width_of scene.bits low) three.0 in
    let one = both (is_expr scene.bits high) (is_expr scene.bits low) two.0 in
    joined_fits (width_of scene.bits high) (width_of scene.bits low) (value_of scene high) (value_of scene low) (value_fits scene fits high one.0) (value_fits scene fits low one.1)
value_fits scene fits (Choose test a b) ok =
    let four = both (is_expr scene.bits test && is_expr scene.bits a && is_expr scene.bits b && (width_of scene.bits test == 1)) (width_of scene.bits a == width_of scene.bits b) ok in
    let three = both (is_expr scene.bits test && is_expr scene.bits a && is_expr scene.bits b) (width_of scene.bits test == 1) four.0 in
    let two = both (is_expr scene.bits test && is_expr scene.bits a) (is_expr scene.bits b) three.0 in
    let one = both (is_expr scene.bits test) (is_expr scene.bits a) two.0 in
    let x = value_fits scene fits a one.1 in
    let y = subst (λ n. value_of scene b < 2 ^ n) (sym (eqb-true (width_of scene.bits a) (width_of scene.bits b) four.1)) (value_fits scene fits b two.1) in
    elim (value_of scene test == 1) as (λ t. (if t then value_of scene a else value_of scene b) < 2 ^ width_of scene.bits a) [ true ↦ x | false ↦ y ]
value_fits scene fits (Address distance) ok = mod_below (scene.base + distance) 65536 (lit< tt)
