-- RCL and RCR turn the operand and CF, which are one number of a bit more.
use Rattle.std.proofs.Common.{arith, ◌≡◌, ◌∙◌, sym, ap, refl, ℕ, zero, suc, ◌+◌, ◌-◌, ◌*◌, ◌/◌, ◌%◌, ◌^◌, ◌<◌, ◌≤◌, Bool, true, false, nat_eq}
use Rattle.std.specs.Int.{from_bool}
use Rattle.std.proofs.Math.Nat.{pow-suc}
use Rattle.std.proofs.lemmas.Bool.Decides.{nat_tests}
use Rattle.dcc_num.specs.declared.Width.{Width}
use Rattle.dcc_num.specs.declared.Width.TheVariants.{Byte, Word}
use Rattle.dcc_num.specs.Numbers.{bits_of, limit_of, half_of, has_sign, is_set}
use Rattle.dcc_num.specs.Shift.{rcl_of, rcr_of}
use Rattle.dcc_num.specs.Laws.{after_steps, rcl_step, rcr_step, ComesRound, Undoes}
use Rattle.dcc_num.proofs.Shifts.{rotated_below}

-- the operand and CF as one number
abbrev whole_of : Width → ℕ × Bool → ℕ
whole_of w x = from_bool x.1 * limit_of w + x.0

-- the number rotated left by so many places, in one bit more than the width
abbrev rotated_in : Width → ℕ → ℕ → ℕ
rotated_in w v k = v * 2 ^ k % 2 ^ (bits_of w + 1) + v * 2 ^ k / 2 ^ (bits_of w + 1)

two : {a x : ℕ} {c y : Bool} → a ≡ x → c ≡ y → ◌≡◌ {A = ℕ × Bool} (a, c) (x, y)
two p q = cc

left_fits : (w : Width) (a : ℕ) (c : Bool) → (rcl_step w (a, c)).0 < limit_of w
unfolding rcl_of
left_fits Byte a c = omega arith
left_fits Word a c = omega arith

right_fits : (w : Width) (a : ℕ) (c : Bool) → a < limit_of w → (rcr_step w (a, c)).0 < limit_of w
unfolding rcr_of
right_fits Byte a true small = omega arith
right_fits Byte a false small = omega arith
right_fits Word a true small = omega arith
right_fits Word a false small = omega arith

-- one step doubles the number, and the bit that leaves at the top comes in at the bottom
doubled : (w : Width) (a : ℕ) (c : Bool) → a < limit_of w → whole_of w (rcl_step w (a, c)) ≡ 2 * a + from_bool c
unfolding rcl_of
doubled Byte a true small = grind (arith, nat_tests)
doubled Byte a false small = grind (arith, nat_tests)
doubled Word a true small = grind (arith, nat_tests)
doubled Word a false small = grind (arith, nat_tests)

-- one step turns the number by one place more; c stands for the carry
rotated_more : (w : Width) (x y a c : ℕ) → a < limit_of w → y ≡ x * 2 → y % 2 ^ (bits_of w + 1) + y / 2 ^ (bits_of w + 1) < 2 ^ (bits_of w + 1)
    → c * limit_of w + a ≡ x % 2 ^ (bits_of w + 1) + x / 2 ^ (bits_of w + 1) → c < 2
    → 2 * a + c ≡ y % 2 ^ (bits_of w + 1) + y / 2 ^ (bits_of w + 1)
rotated_more Byte x y a c small e fits is bit = omega arith
rotated_more Word x y a c small e fits is bit = omega arith

bit_below : (c : Bool) → from_bool c < 2
bit_below true = omega arith
bit_below false = omega arith

-- what holds of a state after k steps
record IsRotated (w : Width) (v k : ℕ) (x : ℕ × Bool) : Type 0 where
  fits : x.0 < limit_of w
  value : whole_of w x ≡ rotated_in w v k

rotate_once : (w : Width) (v k : ℕ) (x : ℕ × Bool) → v < 2 ^ (bits_of w + 1) → suc k ≤ bits_of w + 1 → IsRotated w v k x → IsRotated w v (suc k) (rcl_step w x)
rotate_once w v k (a, c) small within p = record {
  fits = left_fits w a c;
  value = doubled w a c p.fits
      ∙ rotated_more w (v * 2 ^ k) (v * 2 ^ suc k) a (from_bool c) p.fits (ap (λ (n : ℕ). v * n) (pow-suc 2 k) ∙ omega arith)
      (rotated_below v (bits_of w + 1) (suc k) small within) p.value (bit_below c);
}

rotate_all : (w : Width) (v : ℕ) (x : ℕ × Bool) (k : ℕ) → v < 2 ^ (bits_of w + 1) → k ≤ bits_of w + 1 → IsRotated w v 0 x → IsRotated w v k (after_steps (rcl_step w) k x)
unfolding after_steps
rotate_all w v x zero small within p = p
rotate_all w v x (suc k) small within p = rotate_once w v k (after_steps (rcl_step w) k x) small within (rotate_all w v x k small (omega arith) p)

rotated_none : (w : Width) (v : ℕ) → v < 2 ^ (bits_of w + 1) → v ≡ rotated_in w v 0
rotated_none Byte v small = omega arith
rotated_none Word v small = omega arith

rotated_round : (w : Width) (v : ℕ) → rotated_in w v (bits_of w + 1) ≡ v
rotated_round Byte v = omega arith
rotated_round Word v = omega arith

whole_below : (w : Width) (a : ℕ) (c : Bool) → a < limit_of w → whole_of w (a, c) < 2 ^ (bits_of w + 1)
whole_below Byte a true small = omega arith
whole_below Byte a false small = omega arith
whole_below Word a true small = omega arith
whole_below Word a false small = omega arith

-- the number tells the operand and CF
same_whole : (w : Width) (x y : ℕ × Bool) → x.0 < limit_of w → y.0 < limit_of w → whole_of w x ≡ whole_of w y → x ≡ y
same_whole Byte (a, true) (b, true) p q e = two (omega arith) refl
same_whole Byte (a, false) (b, false) p q e = two (omega arith) refl
same_whole Byte (a, true) (b, false) p q e = absurd (omega arith)
same_whole Byte (a, false) (b, true) p q e = absurd (omega arith)
same_whole Word (a, true) (b, true) p q e = two (omega arith) refl
same_whole Word (a, false) (b, false) p q e = two (omega arith) refl
same_whole Word (a, true) (b, false) p q e = absurd (omega arith)
same_whole Word (a, false) (b, true) p q e = absurd (omega arith)

pub left_round : ComesRound rcl_step
left_round w a carry small =
    let v = whole_of w (a, carry) in
    let below = whole_below w a carry small in
    let all = rotate_all w v (a, carry) (bits_of w + 1) below (omega arith) (record { fits = small; value = rotated_none w v below }) in
    same_whole w (after_steps (rcl_step w) (bits_of w + 1) (a, carry)) (a, carry) all.fits small (all.value ∙ rotated_round w v)

-- ---- each undoes the other

pub left_undone : Undoes rcl_step rcr_step
unfolding rcl_of rcr_of
left_undone Byte a true small = two (grind (arith, nat_tests)) (grind (arith, nat_tests))
left_undone Byte a false small = two (grind (arith, nat_tests)) (grind (arith, nat_tests))
left_undone Word a true small = two (grind (arith, nat_tests)) (grind (arith, nat_tests))
left_undone Word a false small = two (grind (arith, nat_tests)) (grind (arith, nat_tests))

pub right_undone : Undoes rcr_step rcl_step
unfolding rcl_of rcr_of
right_undone Byte a true small = two (grind (arith, nat_tests)) (grind (arith, nat_tests))
right_undone Byte a false small = two (grind (arith, nat_tests)) (grind (arith, nat_tests))
right_undone Word a true small = two (grind (arith, nat_tests)) (grind (arith, nat_tests))
right_undone Word a false small = two (grind (arith, nat_tests)) (grind (arith, nat_tests))

-- a step first or last
first_step : (step : ℕ × Bool → ℕ × Bool) (n : ℕ) (x : ℕ × Bool) → after_steps step (suc n) x ≡ after_steps step n (step x)
unfolding after_steps
first_step step zero x = refl
first_step step (suc n) x = ap step (first_step step n x)

left_all_fit : (w : Width) (n a : ℕ) (c : Bool) → a < limit_of w → (after_steps (rcl_step w) n (a, c)).0 < limit_of w
unfolding after_steps
left_all_fit w zero a c small = small
left_all_fit w (suc n) a c small = left_fits w (after_steps (rcl_step w) n (a, c)).0 (after_steps (rcl_step w) n (a, c)).1

-- as many steps back as were made
all_undone : (w : Width) (n a : ℕ) (c : Bool) → a < limit_of w → after_steps (rcr_step w) n (after_steps (rcl_step w) n (a, c)) ≡ (a, c)
unfolding after_steps
all_undone w zero a c small = refl
all_undone w (suc n) a c small =
    let x = after_steps (rcl_step w) n (a, c) in
    first_step (rcr_step w) n (rcl_step w x)
    ∙ ap (after_steps (rcr_step w) n) (left_undone w x.0 x.1 (left_all_fit w n a c small))
    ∙ all_undone w n a c small

pub right_round : ComesRound rcr_step
right_round w a carry small =
    sym (ap (after_steps (rcr_step w) (bits_of w + 1)) (left_round w a carry small)) ∙ all_undone w (bits_of w + 1) a carry small
