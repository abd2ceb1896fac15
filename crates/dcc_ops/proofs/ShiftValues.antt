-- The arithmetic of shifts and rotates: the numbers that the operators of the inner language give are those of the
-- machine.
use Rattle.std.proofs.Common.{arith, ◌≡◌, ◌∙◌, refl, sym, ap, subst, ℕ, ◌+◌, ◌-◌, ◌*◌, ◌/◌, ◌%◌, ◌^◌, ◌<◌, ◌≤◌, Bool, true, false, ◌&&◌, ℤ, pos, negsuc, nat_eq}
use Rattle.std.specs.Prelude.{bit_and, bit_or, bit_xor}
use Rattle.std.specs.Int.{from_bool}
use Rattle.std.proofs.lemmas.Bool.Decides.{nat_tests}
use Rattle.std.proofs.lemmas.Nat.{pow_pos, pow-add, and_mask, or_shifted, or_comm, div_below, div-add-mod'}
use Rattle.std.proofs.Math.Nat.{mul-div-mul_right, mul_comm}
use Rattle.dcc_num.specs.declared.Width.{Width}
use Rattle.dcc_num.specs.declared.Width.TheVariants.{Byte, Word}
use Rattle.dcc_num.specs.Numbers.{bits_of, limit_of, half_of, has_sign, is_set, differ, residue_of, signed_of, wrapped_of}
use Rattle.dcc_num.specs.Shift.{rotated_of}
use Rattle.dcc_ir.specs.Value.{signed_at}

-- Bits.

-- the sign bit
pub sign_value : (w : Width) (x : ℕ) → x < limit_of w → x / 2 ^ (bits_of w - 1) % 2 ^ 1 ≡ from_bool (has_sign w x)
sign_value Byte x small = grind (arith, nat_tests)
sign_value Word x small = grind (arith, nat_tests)

-- any bit
pub bit_value : (x k : ℕ) → x / 2 ^ k % 2 ^ 1 ≡ from_bool (is_set x k)
bit_value x k = grind (arith, nat_tests)

pub differ_value : (p q : Bool) → bit_xor (from_bool p) (from_bool q) ≡ from_bool (differ p q)
differ_value true true = refl
differ_value true false = refl
differ_value false true = refl
differ_value false false = refl

pub both_value : (p q : Bool) → bit_and (from_bool p) (from_bool q) ≡ from_bool (p && q)
both_value true true = refl
both_value true false = refl
both_value false true = refl
both_value false false = refl

-- Shifts.

-- a count above 0, less 1
pub one_less : (w : Width) (n : ℕ) → 0 < n → n < limit_of w → (n + limit_of w - 1) % limit_of w ≡ n - 1
one_less Byte n some small = omega arith
one_less Word n some small = omega arith

doubled : (a n : ℕ) → 0 < n → a * 2 ^ n ≡ a * 2 ^ (n - 1) * 2
doubled a n some =
    let e : n ≡ (n - 1) + 1 = omega arith in
    let p : 2 ^ n ≡ 2 ^ (n - 1) * 2 ^ 1 = ap (λ k. 2 ^ k) e ∙ pow-add 2 (n - 1) 1 in
    rw p (omega arith)

-- the last bit that a shift to the left moves out stands at the top one place before
pub last_out : (w : Width) (a n : ℕ) → 0 < n
    → has_sign w (a * 2 ^ (n - 1) % limit_of w) ≡ is_set (a * 2 ^ n) (bits_of w)
last_out w a n some = top w (a * 2 ^ (n - 1)) (a * 2 ^ n) (doubled a n some)
  where
    top : (w : Width) (x y : ℕ) → y ≡ x * 2 → has_sign w (x % limit_of w) ≡ is_set y (bits_of w)
    top Byte x y e = grind (arith, nat_tests)
    top Word x y e = grind (arith, nat_tests)

-- the last bit that a shift to the right moves out stands at the bottom one place before
pub lowest_out : (a n : ℕ) → is_set (a / 2 ^ (n - 1)) 0 ≡ is_set a (n - 1)
lowest_out a n = grind (arith, nat_tests)

-- signed numbers are those of the machine
pub signed_is : (w : Width) (a : ℕ) → signed_at (bits_of w) a ≡ signed_of w a
unfolding signed_of
signed_is w a = refl

-- the lowest bit of a signed number
pub lowest_of_signed : (w : Width) (z : ℤ) → is_set (wrapped_of w z) 0 ≡ nat_eq (residue_of 2 z) 1
lowest_of_signed Byte (pos m) = grind (arith, nat_tests)
lowest_of_signed Byte (negsuc m) = grind (arith, nat_tests)
lowest_of_signed Word (pos m) = grind (arith, nat_tests)
lowest_of_signed Word (negsuc m) = grind (arith, nat_tests)

-- a shift by no place leaves the operand
pub unmoved : (w : Width) (a : ℕ) → a < limit_of w → a * 2 ^ 0 % limit_of w ≡ a
unmoved Byte a small = omega arith
unmoved Word a small = omega arith

-- Rotates.

-- a rotate by no place, and by a whole rotation
pub unturned : (w : Width) (a : ℕ) → a < limit_of w → a ≡ rotated_of w a (0 % bits_of w)
unturned Byte a small = omega arith
unturned Word a small = omega arith

pub unturned_back : (w : Width) (a : ℕ) → a < limit_of w → a ≡ rotated_of w a (bits_of w - 0 % bits_of w)
unturned_back Byte a small = omega arith
unturned_back Word a small = omega arith

-- places that are turned
pub rotation_is : (w : Width) (n : ℕ) → bit_and n (bits_of w - 1) ≡ n % bits_of w
rotation_is Byte n = and_mask n 3
rotation_is Word n = and_mask n 4

pub rotation_below : (w : Width) (n : ℕ) → n % bits_of w < bits_of w
rotation_below Byte n = omega arith
rotation_below Word n = omega arith

-- what is missing to a whole rotation
pub rest_is : (w : Width) (t : ℕ) → t < bits_of w → (bits_of w + limit_of w - t) % limit_of w ≡ bits_of w - t
rest_is Byte t less = omega arith
rest_is Word t less = omega arith

-- what stays, and what comes round, share no bit
parts_apart : (a c p k : ℕ) → 0 < c → p ≡ 2 ^ k → a < p * c
    → bit_or (a * p % (c * p)) (a / c) ≡ a * p % (c * p) + a * p / (c * p)
parts_apart a c p k some e small =
    let more : 0 < p = rw e (pow_pos k) in
    let high : a * p / (c * p) ≡ a / c = mul-div-mul_right a c more in
    let below : a / c < p = div_below a c p some small in
    let parts : a * p / (c * p) * (c * p) + a * p % (c * p) ≡ a * p = div-add-mod' (a * p) (c * p) in
    let split : (a / c * c + a % c) * p ≡ a * p = ap (λ n. n * p) (div-add-mod' a c) in
    let whole : a / c * (c * p) + a * p % (c * p) ≡ a * p = rw high at parts in
    let rest : a * p % (c * p) ≡ a % c * p = omega arith in
    let last : a / c < 2 ^ k = subst (λ n. a / c < n) e below in
    let apart : bit_or (a % c * p) (a / c) ≡ a % c * p + a / c = rw e (or_shifted (a % c) k (a / c) last) in
    rw (high, rest) apart

pub or_turned : (a b k : ℕ) → a < 2 ^ b → k ≤ b
    → bit_or (a * 2 ^ k % 2 ^ b) (a / 2 ^ (b - k)) ≡ a * 2 ^ k % 2 ^ b + a * 2 ^ k / 2 ^ b
or_turned a b k small within =
    let e : b ≡ (b - k) + k = omega arith in
    let p : 2 ^ b ≡ 2 ^ (b - k) * 2 ^ k = ap (λ n. 2 ^ n) e ∙ pow-add 2 (b - k) k in
    let q : a < 2 ^ k * 2 ^ (b - k) = subst (λ (n : ℕ). a < n) (p ∙ mul_comm (2 ^ (b - k)) (2 ^ k)) small in
    rw p (parts_apart a (2 ^ (b - k)) (2 ^ k) k (pow_pos (b - k)) refl q)

pub or_turned_back : (w : Width) (a t : ℕ) → a < limit_of w → t < bits_of w
    → bit_or (a / 2 ^ t) (a * 2 ^ (bits_of w - t) % limit_of w) ≡ rotated_of w a (bits_of w - t)
or_turned_back w a t small less =
    let e : bits_of w - (bits_of w - t) ≡ t = omega arith in
    or_comm (a / 2 ^ t) (a * 2 ^ (bits_of w - t) % limit_of w)
    ∙ ap (λ (k : ℕ). bit_or (a * 2 ^ (bits_of w - t) % limit_of w) (a / 2 ^ k)) (sym e)
    ∙ or_turned a (bits_of w) (bits_of w - t) small (omega arith)

-- CF comes in at the bottom, and at the top
pub carry_below : (w : Width) (a : ℕ) (c : Bool)
    → bit_or (a * 2 ^ 1 % limit_of w) (from_bool c) ≡ (2 * a + from_bool c) % limit_of w
carry_below w a c = ap (λ (n : ℕ). bit_or n (from_bool c)) (even w a)
    ∙ or_shifted (a % half_of w) 1 (from_bool c) (one c) ∙ sum w a c
  where
    one : (c : Bool) → from_bool c < 2 ^ 1
    one true = omega arith
    one false = omega arith

    even : (w : Width) (a : ℕ) → a * 2 ^ 1 % limit_of w ≡ a % half_of w * 2 ^ 1
    even Byte a = omega arith
    even Word a = omega arith

    sum : (w : Width) (a : ℕ) (c : Bool) → a % half_of w * 2 ^ 1 + from_bool c ≡ (2 * a + from_bool c) % limit_of w
    sum Byte a true = omega arith
    sum Byte a false = omega arith
    sum Word a true = omega arith
    sum Word a false = omega arith

pub carry_above : (w : Width) (a : ℕ) (c : Bool) → a < limit_of w
    → bit_or (a / 2 ^ 1) (from_bool c * 2 ^ (bits_of w - 1) % limit_of w) ≡ a / 2 + from_bool c * half_of w
carry_above w a c small =
    ap (λ (n : ℕ). bit_or (a / 2) n) (whole w c) ∙ or_comm (a / 2) (from_bool c * half_of w)
    ∙ or_shifted (from_bool c) (bits_of w - 1) (a / 2) (less w a small) ∙ omega arith
  where
    whole : (w : Width) (c : Bool) → from_bool c * 2 ^ (bits_of w - 1) % limit_of w ≡ from_bool c * half_of w
    whole Byte true = refl
    whole Byte false = refl
    whole Word true = refl
    whole Word false = refl

    less : (w : Width) (a : ℕ) → a < limit_of w → a / 2 < half_of w
    less Byte a small = omega arith
    less Word a small = omega arith

pub carry_above_small : (w : Width) (a : ℕ) (c : Bool) → a < limit_of w → a / 2 + from_bool c * half_of w < limit_of w
carry_above_small Byte a true small = omega arith
carry_above_small Byte a false small = omega arith
carry_above_small Word a true small = omega arith
carry_above_small Word a false small = omega arith
