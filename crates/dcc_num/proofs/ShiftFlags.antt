-- What the flags of shifts and rotations tell.
use Rattle.std.proofs.Common.{arith, ◌≡◌, ◌∙◌, sym, ap, refl, ℕ, zero, suc, ◌+◌, ◌-◌, ◌*◌, ◌/◌, ◌%◌, ◌^◌, ◌<◌, ◌≤◌, Bool, true, false, nat_eq, nat_le, inl, inr, pos, negsuc}
use Rattle.std.specs.Prelude.{◌&&◌, if◌then◌else◌}
use Rattle.std.specs.Int.{from_bool}
use Rattle.std.proofs.Math.Nat.{mul-div-mul_right, div-le_self}
use Rattle.std.proofs.lemmas.Nat.{pow_pos, pow-add}
use Rattle.std.proofs.lemmas.Bool.{cases_lt}
use Rattle.std.proofs.lemmas.Bool.Decides.{nat_tests}
use Rattle.dcc_num.specs.declared.Width.{Width}
use Rattle.dcc_num.specs.declared.Width.TheVariants.{Byte, Word}
use Rattle.dcc_num.specs.declared.Flags.{Flags}
use Rattle.dcc_num.specs.Numbers.{bits_of, limit_of, half_of, has_sign, is_set, differ, result_flags, signed_of, halved_of, wrapped_of, residue_of}
use Rattle.dcc_num.specs.Shift.{shl_of, shr_of, sar_of, rol_of, ror_of, rcl_of, rcr_of, rotated_of, top_bits_differ, unless_zero}
use Rattle.dcc_num.specs.Laws.{TellsSign, TellsResult, ShiftsTellResults, RotationsKeepFlags, CarryRotationsKeepFlags, LeftShiftsCarry, RightShiftsCarry}
use Rattle.dcc_num.proofs.Differences.{tells_result, below, wrapped_below}
use Rattle.dcc_num.proofs.Shifts.{nothing_left, rotated_below}
use Rattle.dcc_num.proofs.Steps.{signed_cases}

not_zero : (n : ℕ) → nat_eq (suc n) 0 ≡ false
not_zero n = grind (arith, nat_tests)

not_one : (n : ℕ) → nat_eq (suc (suc n)) 1 ≡ false
not_one n = grind (arith, nat_tests)

-- an operation that sets OF only for a count of 1
signs : (w : Width) (a count : ℕ) (was : Flags) (r : ℕ) (f : Flags) (b : Bool) → f.of ≡ (nat_eq count 1 && b)
    → (count ≡ 1 → b ≡ differ (has_sign w a) (has_sign w r))
    → TellsSign w a count was (unless_zero count (a, was) (r, f)).0 (unless_zero count (a, was) (r, f)).1
signs w a zero was r f b e once = record { once = λ p. absurd (omega arith); more = λ p. absurd (omega arith); none = λ p. (refl, refl) }
signs w a (suc zero) was r f b e once = record { once = λ p. e ∙ once refl; more = λ p. absurd (omega arith); none = λ p. absurd (omega arith) }
signs w a (suc (suc n)) was r f b e once =
    let past = ap (λ (c : Bool). c && b) (not_one n) in
    rw (not_zero (suc n)) (record { once = λ p. absurd (omega arith); more = λ p. e ∙ past; none = λ p. absurd (omega arith) })

moved_is : (count : ℕ) (x y : ℕ × Flags) → 0 < count → unless_zero count x y ≡ y
moved_is zero x y some = absurd (omega arith)
moved_is (suc n) x y some = rw (not_zero n) refl

-- where the count is not 0, ZF and SF tell the result
results : (w : Width) (count : ℕ) (x : ℕ × Flags) (r : ℕ) (c o : Bool) → r < limit_of w → 0 < count
    → TellsResult w (unless_zero count x (r, result_flags w r c o)).0 (unless_zero count x (r, result_flags w r c o)).1
results w count x r c o small some = rw (moved_is count x (r, result_flags w r c o) some) (tells_result w r c o small)

-- ZF and SF stay, whatever the count
kept : (count : ℕ) (x y : ℕ × Flags) (was : Flags) → x.1 ≡ was → (y.1.zf ≡ was.zf) × (y.1.sf ≡ was.sf)
    → ((unless_zero count x y).1.zf ≡ was.zf) × ((unless_zero count x y).1.sf ≡ was.sf)
kept zero x y was same moved = (ap (λ (f : Flags). f.zf) same, ap (λ (f : Flags). f.sf) same)
kept (suc n) x y was same moved = rw (not_zero n) moved

never : (b : Bool) → false ≡ (b && false)
never true = refl
never false = refl

-- ---- shifts

pub left_tells : ShiftsTellResults shl_of
unfolding shl_of result_flags
left_tells w a count was small =
    let r = a * 2 ^ count % limit_of w in
    let out = is_set (a * 2 ^ count) (bits_of w) in (
      signs w a count was r (result_flags w r out (nat_eq count 1 && differ out (has_sign w r))) (differ out (has_sign w r)) refl
          (λ one. ap (λ (c : Bool). differ c (has_sign w r)) (ap (λ (n : ℕ). is_set (a * 2 ^ n) (bits_of w)) one ∙ top w a small)),
      results w count (a, was) r out (nat_eq count 1 && differ out (has_sign w r)) (below w (a * 2 ^ count)),
    )
  where
    top : (w : Width) (a : ℕ) → a < limit_of w → is_set (a * 2 ^ 1) (bits_of w) ≡ has_sign w a
    top Byte a small = grind (arith, nat_tests)
    top Word a small = grind (arith, nat_tests)

pub right_tells : ShiftsTellResults shr_of
unfolding shr_of result_flags
right_tells w a count was small =
    let r = a / 2 ^ count in
    let out = is_set a (count - 1) in (
      signs w a count was r (result_flags w r out (nat_eq count 1 && has_sign w a)) (has_sign w a) refl
          (λ one. sym (ap (λ (n : ℕ). differ (has_sign w a) (has_sign w (a / 2 ^ n))) one ∙ no_sign w a small)),
      results w count (a, was) r out (nat_eq count 1 && has_sign w a) (fits a count small),
    )
  where
    no_sign : (w : Width) (a : ℕ) → a < limit_of w → differ (has_sign w a) (has_sign w (a / 2 ^ 1)) ≡ has_sign w a
    no_sign Byte a small = grind (arith, nat_tests)
    no_sign Word a small = grind (arith, nat_tests)

    fits : (a n : ℕ) → a < limit_of w → a / 2 ^ n < limit_of w
    fits a n small = let h : a / 2 ^ n ≤ a = div-le_self a (2 ^ n) in omega arith

pub signed_tells : ShiftsTellResults sar_of
unfolding sar_of result_flags
signed_tells w a count was small =
    let r = wrapped_of w (halved_of (signed_of w a) count) in
    let out = nat_eq (residue_of 2 (halved_of (signed_of w a) (count - 1))) 1 in (
      signs w a count was r (result_flags w r out false) false (never (nat_eq count 1))
          (λ one. sym (ap (λ (n : ℕ). differ (has_sign w a) (has_sign w (wrapped_of w (halved_of (signed_of w a) n)))) one ∙ stays w a small)),
      results w count (a, was) r out false (wrapped_below w (halved_of (signed_of w a) count)),
    )
  where
    up : (w : Width) (a : ℕ) → a < half_of w → differ (has_sign w a) (has_sign w (wrapped_of w (halved_of (pos a) 1))) ≡ false
    up Byte a small = grind (arith, nat_tests)
    up Word a small = grind (arith, nat_tests)

    down : (w : Width) (a : ℕ) → a < limit_of w → half_of w ≤ a
        → differ (has_sign w a) (has_sign w (wrapped_of w (halved_of (negsuc (limit_of w - 1 - a)) 1))) ≡ false
    down Byte a small high = grind (arith, nat_tests)
    down Word a small high = grind (arith, nat_tests)

    stays : (w : Width) (a : ℕ) → a < limit_of w → differ (has_sign w a) (has_sign w (wrapped_of w (halved_of (signed_of w a) 1))) ≡ false
    stays w a small = elim (signed_cases w a small) [
      | inl low ↦ rw low.1 (up w a low.0)
      | inr high ↦ rw high.1 (down w a small high.0)
    ]

-- a number moved up by some places of b, divided by 2 ^ b
moved_within : (a b n : ℕ) → n ≤ b → a * 2 ^ n / 2 ^ b ≡ a / 2 ^ (b - n)
moved_within a b n within =
    let e : b ≡ (b - n) + n = omega arith in
    let p : 2 ^ b ≡ 2 ^ (b - n) * 2 ^ n = ap (λ k. 2 ^ k) e ∙ pow-add 2 (b - n) n in
    rw p (mul-div-mul_right a (2 ^ (b - n)) (pow_pos n))

pub left_carries : LeftShiftsCarry
unfolding shl_of result_flags
left_carries w a count was small some =
    rw (moved_is count (a, was) _ some) (elim (cases_lt (bits_of w) count) [
      | inl past ↦
          let no : nat_le count (bits_of w) ≡ false = grind (arith, nat_tests) in
          let none = (nothing_left a (bits_of w) count past).1 in
          rw (no, none) refl
      | inr within ↦
          let yes : nat_le count (bits_of w) ≡ true = grind (arith, nat_tests) in
          let moved = moved_within a (bits_of w) count within in
          rw (yes, moved) refl
    ])

pub right_carries : RightShiftsCarry
unfolding shr_of result_flags
right_carries w a count was small some = rw (moved_is count (a, was) _ some) refl

-- ---- rotations

pub rol_keeps : RotationsKeepFlags rol_of
unfolding rol_of
rol_keeps w a count was small =
    let r = rotated_of w a (count % bits_of w) in
    let f : Flags = record was { cf = is_set r 0; of = nat_eq count 1 && differ (is_set r 0) (has_sign w r) } in (
      signs w a count was r f (differ (is_set r 0) (has_sign w r)) refl
          (λ one. ap (λ (c : Bool). differ c (has_sign w r)) (ap (λ (n : ℕ). is_set (rotated_of w a (n % bits_of w)) 0) one ∙ round w a small)),
      (kept count (a, was) (r, f) was refl (refl, refl)).0,
      (kept count (a, was) (r, f) was refl (refl, refl)).1,
    )
  where
    round : (w : Width) (a : ℕ) → a < limit_of w → is_set (rotated_of w a (1 % bits_of w)) 0 ≡ has_sign w a
    round Byte a small = grind (arith, nat_tests)
    round Word a small = grind (arith, nat_tests)

pub ror_keeps : RotationsKeepFlags ror_of
unfolding ror_of
ror_keeps w a count was small =
    let r = rotated_of w a (bits_of w - count % bits_of w) in
    let f : Flags = record was { cf = has_sign w r; of = nat_eq count 1 && top_bits_differ w r } in (
      signs w a count was r f (top_bits_differ w r) refl
          (λ one. ap (λ (n : ℕ). top_bits_differ w (rotated_of w a (bits_of w - n % bits_of w))) one
          ∙ round w a small
          ∙ sym (ap (λ (n : ℕ). differ (has_sign w a) (has_sign w (rotated_of w a (bits_of w - n % bits_of w)))) one)),
      (kept count (a, was) (r, f) was refl (refl, refl)).0,
      (kept count (a, was) (r, f) was refl (refl, refl)).1,
    )
  where
    round : (w : Width) (a : ℕ) → a < limit_of w
        → top_bits_differ w (rotated_of w a (bits_of w - 1 % bits_of w)) ≡ differ (has_sign w a) (has_sign w (rotated_of w a (bits_of w - 1 % bits_of w)))
    round Byte a small = grind (arith, nat_tests)
    round Word a small = grind (arith, nat_tests)

pub rcl_keeps : CarryRotationsKeepFlags rcl_of
unfolding rcl_of
rcl_keeps w a was small = (refl, refl, refl)

pub rcr_keeps : CarryRotationsKeepFlags rcr_of
unfolding rcr_of
rcr_keeps w a was small = (changed w a was.cf small, refl, refl)
  where
    changed : (w : Width) (a : ℕ) (c : Bool) → a < limit_of w
        → top_bits_differ w (a / 2 + from_bool c * half_of w) ≡ differ (has_sign w a) (has_sign w (a / 2 + from_bool c * half_of w))
    changed Byte a true small = grind (arith, nat_tests)
    changed Byte a false small = grind (arith, nat_tests)
    changed Word a true small = grind (arith, nat_tests)
    changed Word a false small = grind (arith, nat_tests)
