-- Shifts and rotations by a count are one step, made count times.
use Rattle.std.proofs.Common.{arith, ◌≡◌, ◌∙◌, sym, ap, refl, ℕ, zero, suc, ◌+◌, ◌-◌, ◌*◌, ◌/◌, ◌%◌, ◌^◌, ◌<◌, ◌≤◌, Bool, false, nat_eq, inl, inr, pos, negsuc, ◌⊎◌}
use Rattle.std.proofs.Math.Nat.{mod-eq_of_lt, pow-suc}
use Rattle.std.proofs.lemmas.Nat.{shr-shr, shr_le}
use Rattle.std.proofs.lemmas.Bool.{cases_lt}
use Rattle.std.proofs.lemmas.Bool.Decides.{nat_tests}
use Rattle.dcc_num.specs.declared.Width.{Width}
use Rattle.dcc_num.specs.declared.Width.TheVariants.{Byte, Word}
use Rattle.dcc_num.specs.declared.Flags.{Flags}
use Rattle.dcc_num.specs.Numbers.{bits_of, limit_of, half_of, has_sign, is_set, result_flags, signed_of, halved_of, wrapped_of, residue_of}
use Rattle.dcc_num.specs.Shift.{shl_of, shr_of, sar_of, rol_of, ror_of, rotated_of}
use Rattle.dcc_num.specs.Laws.{after_steps, left_step, right_step, signed_step, rol_step, ror_step, value_and_carry, IsRepeated}
use Rattle.dcc_num.proofs.Shifts.{rotated_below}

-- states with the values and the carries that the step gives are the step, repeated
repeats : (step : ℕ × Bool → ℕ × Bool) (at : ℕ → ℕ × Bool) (value : ℕ → ℕ) (carry : ℕ → Bool)
    → ((n : ℕ) → (at n).0 ≡ value n) → ((n : ℕ) → at (suc n) ≡ (value (suc n), carry n))
    → ((n : ℕ) (c : Bool) → step (value n, c) ≡ (value (suc n), carry n)) → (n : ℕ) → at n ≡ after_steps step n (at 0)
unfolding after_steps
repeats step at value carry has gives next zero = refl
repeats step at value carry has gives next (suc n) =
    gives n ∙ sym (next n (at n).1) ∙ sym (ap (λ (v : ℕ). step (v, (at n).1)) (has n)) ∙ ap step (repeats step at value carry has gives next n)

not_zero : (n : ℕ) → nat_eq (suc n) 0 ≡ false
not_zero n = grind (arith, nat_tests)

two : {a x : ℕ} {c y : Bool} → a ≡ x → c ≡ y → ◌≡◌ {A = ℕ × Bool} (a, c) (x, y)
two p q = cc

-- ---- SHL

left_has : (w : Width) (a : ℕ) (was : Flags) → a < limit_of w → (n : ℕ) → (shl_of w a n was).0 ≡ a * 2 ^ n % limit_of w
unfolding shl_of
left_has w a was small zero = sym (mod-eq_of_lt small) ∙ ap (λ (k : ℕ). k % limit_of w) (omega arith)
left_has w a was small (suc n) = rw (not_zero n)

left_gives : (w : Width) (a : ℕ) (was : Flags) (n : ℕ)
    → value_and_carry (shl_of w a (suc n) was) ≡ (a * 2 ^ suc n % limit_of w, is_set (a * 2 ^ suc n) (bits_of w))
unfolding shl_of result_flags
left_gives w a was n = rw (not_zero n)

left_once : (w : Width) (x y : ℕ) (c : Bool) → y ≡ x * 2 → left_step w (x % limit_of w, c) ≡ (y % limit_of w, is_set y (bits_of w))
left_once Byte x y c e = two (omega arith) (grind (arith, nat_tests))
left_once Word x y c e = two (omega arith) (grind (arith, nat_tests))

doubled : (a n : ℕ) → a * 2 ^ suc n ≡ a * 2 ^ n * 2
doubled a n = ap (λ (k : ℕ). a * k) (pow-suc 2 n) ∙ omega arith

pub left_repeated : IsRepeated left_step shl_of
unfolding shl_of
left_repeated w a count was small =
    repeats (left_step w) (λ n. value_and_carry (shl_of w a n was)) (λ n. a * 2 ^ n % limit_of w) (λ n. is_set (a * 2 ^ suc n) (bits_of w))
    (left_has w a was small) (left_gives w a was) (λ n c. left_once w (a * 2 ^ n) (a * 2 ^ suc n) c (doubled a n)) count

-- ---- SHR

right_has : (w : Width) (a : ℕ) (was : Flags) (n : ℕ) → (shr_of w a n was).0 ≡ a / 2 ^ n
unfolding shr_of
right_has w a was zero = omega arith
right_has w a was (suc n) = rw (not_zero n)

right_gives : (w : Width) (a : ℕ) (was : Flags) (n : ℕ) → value_and_carry (shr_of w a (suc n) was) ≡ (a / 2 ^ suc n, is_set a n)
unfolding shr_of result_flags
right_gives w a was n = let e : suc n - 1 ≡ n = omega arith in rw (not_zero n, e)

right_once : (w : Width) (a n : ℕ) (c : Bool) → right_step w (a / 2 ^ n, c) ≡ (a / 2 ^ suc n, is_set a n)
right_once w a n c = two (shr-shr a n 1 ∙ ap (λ (k : ℕ). a / 2 ^ k) (omega arith)) (ap (λ (k : ℕ). nat_eq (k % 2) 1) (omega arith))

pub right_repeated : IsRepeated right_step shr_of
unfolding shr_of
right_repeated w a count was small =
    repeats (right_step w) (λ n. value_and_carry (shr_of w a n was)) (λ n. a / 2 ^ n) (λ n. is_set a n)
    (right_has w a was) (right_gives w a was) (right_once w a) count

-- ---- SAR

-- a signed operand by its sign
pub signed_cases : (w : Width) (a : ℕ) → a < limit_of w
    → ((a < half_of w) × (signed_of w a ≡ pos a)) ⊎ ((half_of w ≤ a) × (signed_of w a ≡ negsuc (limit_of w - 1 - a)))
unfolding signed_of
signed_cases Byte a small = elim (cases_lt a 128) [
  | inl low ↦ inl (low, grind (arith, nat_tests))
  | inr high ↦ inr (high, grind (arith, nat_tests))
]
signed_cases Word a small = elim (cases_lt a 32768) [
  | inl low ↦ inl (low, grind (arith, nat_tests))
  | inr high ↦ inr (high, grind (arith, nat_tests))
]

-- the bits of a signed operand are the operand
pub wrapped_signed : (w : Width) (a : ℕ) → a < limit_of w → a ≡ wrapped_of w (halved_of (signed_of w a) 0)
wrapped_signed w a small = elim (signed_cases w a small) [
  | inl low ↦ rw low.1 (up w a small)
  | inr high ↦ rw high.1 (down w a small high.0)
]
  where
    up : (w : Width) (a : ℕ) → a < limit_of w → a ≡ wrapped_of w (halved_of (pos a) 0)
    up Byte a small = omega arith
    up Word a small = omega arith

    down : (w : Width) (a : ℕ) → a < limit_of w → half_of w ≤ a → a ≡ wrapped_of w (halved_of (negsuc (limit_of w - 1 - a)) 0)
    down Byte a small high = omega arith
    down Word a small high = omega arith

signed_has : (w : Width) (a : ℕ) (was : Flags) → a < limit_of w → (n : ℕ) → (sar_of w a n was).0 ≡ wrapped_of w (halved_of (signed_of w a) n)
unfolding sar_of
signed_has w a was small zero = wrapped_signed w a small
signed_has w a was small (suc n) = rw (not_zero n)

signed_gives : (w : Width) (a : ℕ) (was : Flags) (n : ℕ)
    → value_and_carry (sar_of w a (suc n) was) ≡ (wrapped_of w (halved_of (signed_of w a) (suc n)), nat_eq (residue_of 2 (halved_of (signed_of w a) n)) 1)
unfolding sar_of result_flags
signed_gives w a was n = let e : suc n - 1 ≡ n = omega arith in rw (not_zero n, e)

-- the step on the bits of y and of -(y + 1), where they are signed numbers of the width
step_up : (w : Width) (y z : ℕ) (c : Bool) → y < half_of w → z ≡ y / 2 → signed_step w (wrapped_of w (pos y), c) ≡ (wrapped_of w (pos z), nat_eq (residue_of 2 (pos y)) 1)
step_up Byte y z c small e = two (grind (arith, nat_tests)) (grind (arith, nat_tests))
step_up Word y z c small e = two (grind (arith, nat_tests)) (grind (arith, nat_tests))

step_down : (w : Width) (y z : ℕ) (c : Bool) → y < half_of w → z ≡ y / 2 → signed_step w (wrapped_of w (negsuc y), c) ≡ (wrapped_of w (negsuc z), nat_eq (residue_of 2 (negsuc y)) 1)
step_down Byte y z c small e = two (grind (arith, nat_tests)) (grind (arith, nat_tests))
step_down Word y z c small e = two (grind (arith, nat_tests)) (grind (arith, nat_tests))

signed_next : (w : Width) (a : ℕ) → a < limit_of w → (n : ℕ) (c : Bool)
    → signed_step w (wrapped_of w (halved_of (signed_of w a) n), c)
    ≡ (wrapped_of w (halved_of (signed_of w a) (suc n)), nat_eq (residue_of 2 (halved_of (signed_of w a) n)) 1)
signed_next w a small n c = elim (signed_cases w a small) [
  | inl low ↦ rw low.1 (step_up w (a / 2 ^ n) (a / 2 ^ suc n) c (below a low.0) (half a))
  | inr high ↦ rw high.1 (step_down w ((limit_of w - 1 - a) / 2 ^ n) ((limit_of w - 1 - a) / 2 ^ suc n) c (below (limit_of w - 1 - a) (rest w a high.0)) (half (limit_of w - 1 - a)))
]
  where
    half : (m : ℕ) → m / 2 ^ suc n ≡ m / 2 ^ n / 2
    half m = sym (shr-shr m n 1 ∙ ap (λ (k : ℕ). m / 2 ^ k) (omega arith))

    below : (m : ℕ) → m < half_of w → m / 2 ^ n < half_of w
    below m small = let h : m / 2 ^ n ≤ m = shr_le m n in omega arith

    rest : (w : Width) (a : ℕ) → half_of w ≤ a → limit_of w - 1 - a < half_of w
    rest Byte a high = omega arith
    rest Word a high = omega arith

pub signed_repeated : IsRepeated signed_step sar_of
unfolding sar_of
signed_repeated w a count was small =
    repeats (signed_step w) (λ n. value_and_carry (sar_of w a n was)) (λ n. wrapped_of w (halved_of (signed_of w a) n))
    (λ n. nat_eq (residue_of 2 (halved_of (signed_of w a) n)) 1)
    (signed_has w a was small) (signed_gives w a was) (signed_next w a small) count

-- ---- ROL and ROR

rotated_none : (w : Width) (a : ℕ) → a < limit_of w → rotated_of w a 0 ≡ a
rotated_none Byte a small = omega arith
rotated_none Word a small = omega arith

rotated_whole : (w : Width) (a : ℕ) → a < limit_of w → rotated_of w a (bits_of w) ≡ a
rotated_whole Byte a small = omega arith
rotated_whole Word a small = omega arith

-- the place after a place
next_place : (w : Width) (n : ℕ)
    → ((n % bits_of w < bits_of w - 1) × (suc n % bits_of w ≡ suc (n % bits_of w))) ⊎ ((n % bits_of w ≡ bits_of w - 1) × (suc n % bits_of w ≡ 0))
next_place Byte n = elim (cases_lt (n % 8) 7) [ inl more ↦ inl (more, omega arith) | inr last ↦ inr (omega arith, omega arith) ]
next_place Word n = elim (cases_lt (n % 16) 15) [ inl more ↦ inl (more, omega arith) | inr last ↦ inr (omega arith, omega arith) ]

-- one place more, by the halves of what was moved up
rotated_more : (w : Width) (x y : ℕ) (c : Bool) → y ≡ x * 2 → y % limit_of w + y / limit_of w < limit_of w
    → rol_step w (x % limit_of w + x / limit_of w, c) ≡ (y % limit_of w + y / limit_of w, is_set (y % limit_of w + y / limit_of w) 0)
rotated_more Byte x y c e small = two (grind (arith, nat_tests)) (grind (arith, nat_tests))
rotated_more Word x y c e small = two (grind (arith, nat_tests)) (grind (arith, nat_tests))

-- one place less of a turn to the right, by the halves of what was moved up
rotated_less : (w : Width) (x y : ℕ) (c : Bool) → y ≡ x * 2 → y % limit_of w + y / limit_of w < limit_of w
    → ror_step w (y % limit_of w + y / limit_of w, c) ≡ (x % limit_of w + x / limit_of w, has_sign w (x % limit_of w + x / limit_of w))
rotated_less Byte x y c e small = two (grind (arith, nat_tests)) (grind (arith, nat_tests))
rotated_less Word x y c e small = two (grind (arith, nat_tests)) (grind (arith, nat_tests))

rol_has : (w : Width) (a : ℕ) (was : Flags) → a < limit_of w → (n : ℕ) → (rol_of w a n was).0 ≡ rotated_of w a (n % bits_of w)
unfolding rol_of
rol_has w a was small zero = sym (ap (rotated_of w a) (zero_place w) ∙ rotated_none w a small)
  where
    zero_place : (w : Width) → 0 % bits_of w ≡ 0
    zero_place Byte = refl
    zero_place Word = refl
rol_has w a was small (suc n) = rw (not_zero n)

rol_gives : (w : Width) (a : ℕ) (was : Flags) (n : ℕ)
    → value_and_carry (rol_of w a (suc n) was) ≡ (rotated_of w a (suc n % bits_of w), is_set (rotated_of w a (suc n % bits_of w)) 0)
unfolding rol_of
rol_gives w a was n = rw (not_zero n)

-- a turn by k places, and by one more
rotate_once : (w : Width) (a k : ℕ) (c : Bool) → a < limit_of w → suc k ≤ bits_of w
    → rol_step w (rotated_of w a k, c) ≡ (rotated_of w a (suc k), is_set (rotated_of w a (suc k)) 0)
rotate_once w a k c small within = rotated_more w (a * 2 ^ k) (a * 2 ^ suc k) c (doubled a k) (rotated_below a (bits_of w) (suc k) small within)

rol_next : (w : Width) (a : ℕ) → a < limit_of w → (n : ℕ) (c : Bool)
    → rol_step w (rotated_of w a (n % bits_of w), c) ≡ (rotated_of w a (suc n % bits_of w), is_set (rotated_of w a (suc n % bits_of w)) 0)
rol_next w a small n c = elim (next_place w n) [
  | inl more ↦ rw more.1 (rotate_once w a (n % bits_of w) c small (omega arith))
  | inr last ↦
      let whole : rotated_of w a (suc (bits_of w - 1)) ≡ rotated_of w a 0 = ap (rotated_of w a) (one_more w) ∙ rotated_whole w a small ∙ sym (rotated_none w a small) in
      rw (last.1, last.0) (rotate_once w a (bits_of w - 1) c small (omega (arith, one_more w)) ∙ ap (λ (v : ℕ). (v, is_set v 0)) whole)
]
  where
    one_more : (w : Width) → suc (bits_of w - 1) ≡ bits_of w
    one_more Byte = refl
    one_more Word = refl

pub rol_repeated : IsRepeated rol_step rol_of
unfolding rol_of
rol_repeated w a count was small =
    repeats (rol_step w) (λ n. value_and_carry (rol_of w a n was)) (λ n. rotated_of w a (n % bits_of w))
    (λ n. is_set (rotated_of w a (suc n % bits_of w)) 0)
    (rol_has w a was small) (rol_gives w a was) (rol_next w a small) count

ror_has : (w : Width) (a : ℕ) (was : Flags) → a < limit_of w → (n : ℕ) → (ror_of w a n was).0 ≡ rotated_of w a (bits_of w - n % bits_of w)
unfolding ror_of
ror_has w a was small zero = sym (ap (rotated_of w a) (all_places w) ∙ rotated_whole w a small)
  where
    all_places : (w : Width) → bits_of w - 0 % bits_of w ≡ bits_of w
    all_places Byte = refl
    all_places Word = refl
ror_has w a was small (suc n) = rw (not_zero n)

ror_gives : (w : Width) (a : ℕ) (was : Flags) (n : ℕ)
    → value_and_carry (ror_of w a (suc n) was)
    ≡ (rotated_of w a (bits_of w - suc n % bits_of w), has_sign w (rotated_of w a (bits_of w - suc n % bits_of w)))
unfolding ror_of
ror_gives w a was n = rw (not_zero n)

-- a turn by one place more than k, and by k
rotate_back : (w : Width) (a k : ℕ) (c : Bool) → a < limit_of w → suc k ≤ bits_of w
    → ror_step w (rotated_of w a (suc k), c) ≡ (rotated_of w a k, has_sign w (rotated_of w a k))
rotate_back w a k c small within = rotated_less w (a * 2 ^ k) (a * 2 ^ suc k) c (doubled a k) (rotated_below a (bits_of w) (suc k) small within)

ror_next : (w : Width) (a : ℕ) → a < limit_of w → (n : ℕ) (c : Bool)
    → ror_step w (rotated_of w a (bits_of w - n % bits_of w), c)
    ≡ (rotated_of w a (bits_of w - suc n % bits_of w), has_sign w (rotated_of w a (bits_of w - suc n % bits_of w)))
ror_next w a small n c = elim (next_place w n) [
  | inl more ↦
      let before : bits_of w - n % bits_of w ≡ suc (bits_of w - suc (n % bits_of w)) = omega arith in
      rw (more.1, before) (rotate_back w a (bits_of w - suc (n % bits_of w)) c small (omega arith))
  | inr last ↦
      let all : bits_of w ≡ bits_of w - 0 = omega arith in
      let whole : rotated_of w a 0 ≡ rotated_of w a (bits_of w - 0) = rotated_none w a small ∙ sym (rotated_whole w a small) ∙ ap (rotated_of w a) all in
      rw (last.1, last.0) (ap (λ (k : ℕ). ror_step w (rotated_of w a k, c)) (one_left w) ∙ rotate_back w a 0 c small (one_fits w) ∙ ap (λ (v : ℕ). (v, has_sign w v)) whole)
]
  where
    one_left : (w : Width) → bits_of w - (bits_of w - 1) ≡ 1
    one_left Byte = refl
    one_left Word = refl

    one_fits : (w : Width) → 1 ≤ bits_of w
    one_fits Byte = omega arith
    one_fits Word = omega arith

pub ror_repeated : IsRepeated ror_step ror_of
unfolding ror_of
ror_repeated w a count was small =
    repeats (ror_step w) (λ n. value_and_carry (ror_of w a n was)) (λ n. rotated_of w a (bits_of w - n % bits_of w))
    (λ n. has_sign w (rotated_of w a (bits_of w - suc n % bits_of w)))
    (ror_has w a was small) (ror_gives w a was) (ror_next w a small) count
