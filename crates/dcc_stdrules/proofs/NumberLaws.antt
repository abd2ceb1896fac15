-- Numbers that an operator leaves, or makes 0.
use Rattle.std.proofs.Common.{◌≡◌, ℕ, zero, suc, ◌+◌, ◌-◌, ◌*◌, ◌/◌, ◌%◌, ◌^◌, ◌<◌, ◌≤◌, Bool, true, false, ◌⊎◌, inl, inr, refl, sym, ap, ◌∙◌, subst, arith, ℤ, pos, negsuc}
use Rattle.std.specs.Prelude.{if◌then◌else◌, nat_le, bit_and, bit_or, bit_xor, ◌-ℤ◌}
use Rattle.std.proofs.Math.Nat.{mod-eq_of_lt, mod_self, add-mod_right}
use Rattle.std.proofs.lemmas.Int.{ints}
use Rattle.std.proofs.lemmas.Nat.{pow_pos, and_mask, le_or_r, or_lt}
use Rattle.std.specs.Int.Bits.{and_self, or_self, xor_self, and_zero_r, or_zero_r, xor_zero_r}
use Rattle.dcc_num.specs.Numbers.{residue_of, halved_of}
use Rattle.dcc_ir.specs.Value.{signed_at, pattern_at}

-- a number below the modulus, in another form
stays : (n v m : ℕ) → n ≡ v → v < m → n % m ≡ v
stays n v m e s = ap (λ k. k % m) e ∙ mod-eq_of_lt s

pub add_nothing : (w v : ℕ) → v < 2 ^ w → (v + 0) % 2 ^ w ≡ v
add_nothing w v s = stays (v + 0) v (2 ^ w) (omega arith) s

pub nothing_added : (w v : ℕ) → v < 2 ^ w → (0 + v) % 2 ^ w ≡ v
nothing_added w v s = stays (0 + v) v (2 ^ w) (omega arith) s

pub sub_nothing : (w v : ℕ) → v < 2 ^ w → (v + 2 ^ w - 0) % 2 ^ w ≡ v
sub_nothing w v s =
    let e : v + 2 ^ w - 0 ≡ v + 2 ^ w = omega arith in
    ap (λ k. k % 2 ^ w) e ∙ add-mod_right v (2 ^ w) ∙ mod-eq_of_lt s

pub sub_itself : (w v : ℕ) → (v + 2 ^ w - v) % 2 ^ w ≡ 0
sub_itself w v =
    let e : v + 2 ^ w - v ≡ 2 ^ w = omega arith in
    ap (λ k. k % 2 ^ w) e ∙ mod_self (2 ^ w)

pub times_nothing : (w v : ℕ) → v * 0 % 2 ^ w ≡ 0
times_nothing w v = stays (v * 0) 0 (2 ^ w) (omega arith) (pow_pos w)

pub times_one : (w v : ℕ) → v < 2 ^ w → v * 1 % 2 ^ w ≡ v
times_one w v s = stays (v * 1) v (2 ^ w) (omega arith) s

pub one_times : (w v : ℕ) → v < 2 ^ w → 1 * v % 2 ^ w ≡ v
one_times w v s = stays (1 * v) v (2 ^ w) (omega arith) s

pub and_ones : (w v : ℕ) → v < 2 ^ w → bit_and v (2 ^ w - 1) ≡ v
and_ones w v s = and_mask v w ∙ mod-eq_of_lt s

pub or_ones : (w v : ℕ) → v < 2 ^ w → bit_or v (2 ^ w - 1) ≡ 2 ^ w - 1
or_ones w v s =
    let some = pow_pos w in
    let few : 2 ^ w - 1 < 2 ^ w = omega (arith, some) in
    omega (arith, some, le_or_r v (2 ^ w - 1), or_lt w v (2 ^ w - 1) s few)

pub up_by_nothing : (w v : ℕ) → v < 2 ^ w → v * 2 ^ 0 % 2 ^ w ≡ v
up_by_nothing w v s = stays (v * 2 ^ 0) v (2 ^ w) (omega arith) s

pub down_by_nothing : (v : ℕ) → v / 2 ^ 0 ≡ v
down_by_nothing v = omega arith

not_halved : (z : ℤ) → halved_of z 0 ≡ z
not_halved (pos n) = ap pos (down_by_nothing n)
not_halved (negsuc n) = ap negsuc (down_by_nothing n)

pub below : (v m : ℕ) → v < m → pos v -ℤ pos m ≡ negsuc (m - suc v)
below v m s = omega (arith, ints, s)

-- a signed number has the bits that it was read from
pub signed_back : (w v : ℕ) → v < 2 ^ w → pattern_at w (signed_at w v) ≡ v
signed_back w v s = elim (nat_le (2 ^ (w - 1)) v) as (λ b. pattern_at w (if b then pos v -ℤ pos (2 ^ w) else pos v) ≡ v) [
  | true ↦
      let few : 2 ^ w - suc v < 2 ^ w = omega (arith, s) in
      ap (pattern_at w) (below v (2 ^ w) s) ∙ ap (λ k. 2 ^ w - 1 - k) (mod-eq_of_lt few) ∙ back (2 ^ w) v s
  | false ↦ mod-eq_of_lt s
]
  where
    back : (m v : ℕ) → v < m → m - 1 - (m - suc v) ≡ v
    back m v s = omega (arith, s)

pub down_by_nothing_signed : (w v : ℕ) → v < 2 ^ w → pattern_at w (halved_of (signed_at w v) 0) ≡ v
down_by_nothing_signed w v s = ap (pattern_at w) (not_halved (signed_at w v)) ∙ signed_back w v s

pub not_twice : (m v : ℕ) → v < m → m - 1 - (m - 1 - v) ≡ v
not_twice m v s = omega (arith, s)

pub neg_twice : (m v : ℕ) → v < m → (m - (m - v) % m) % m ≡ v
neg_twice m zero s =
    let e : (m - 0) % m ≡ 0 = ap (λ k. k % m) (omega arith) ∙ mod_self m in
    ap (λ k. (m - k) % m) e ∙ e
neg_twice m (suc v) s =
    let few : m - suc v < m = omega (arith, s) in
    stays (m - (m - suc v) % m) (suc v) m (ap (λ k. m - k) (mod-eq_of_lt few) ∙ not_less m (suc v) s) s
  where
    not_less : (m v : ℕ) → v < m → m - (m - v) ≡ v
    not_less m v s = omega (arith, s)
