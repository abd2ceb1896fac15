-- Signed numbers of a width: their bits stand for them, and numbers that are moved down stay among them.
use Rattle.std.proofs.Common.{◌≡◌, ℕ, zero, suc, ◌+◌, ◌-◌, ◌*◌, ◌/◌, ◌%◌, ◌^◌, ◌<◌, ◌≤◌, Bool, true, false, inl, inr, refl, sym, ap, ◌∙◌, subst, arith, ltb-true, lit<, ℤ, pos, negsuc}
use Rattle.std.specs.Prelude.{if◌then◌else◌, nat_le, ◌-ℤ◌}
use Rattle.std.proofs.lemmas.Bool.{cases_lt, le-leb, lt-leb}
use Rattle.std.proofs.lemmas.Nat.{pow_pos, shr-shr, shr_le}
use Rattle.std.proofs.Math.Nat.{mod-eq_of_lt, pow-le-pow_right}
use Rattle.dcc_num.specs.Numbers.{halved_of}
use Rattle.dcc_ir.specs.Value.{signed_at, pattern_at}
use Rattle.dcc_stdrules.proofs.NumberLaws.{below}

-- a signed number is among those of h values with a sign and h without
pub data IsAmong (h : ℕ) : ℤ → Type 0 where
  above : (n : ℕ) → n < h → IsAmong h (pos n)
  below_zero : (n : ℕ) → n < h → IsAmong h (negsuc n)

-- a width of at least one bit has twice as many numbers as one of a bit less
pub twice : (w : ℕ) → 0 < w → 2 ^ w ≡ 2 ^ (w - 1) + 2 ^ (w - 1)
twice zero some = elim some [ ]
twice (suc w) some = let e : suc w - 1 ≡ w = omega arith in subst (λ k. 2 ^ suc w ≡ 2 ^ k + 2 ^ k) (sym e) (omega arith)

at_most_twice : (w : ℕ) → 2 ^ w ≤ 2 ^ (w - 1) + 2 ^ (w - 1)
at_most_twice zero = omega arith
at_most_twice (suc w) = let e : suc w - 1 ≡ w = omega arith in subst (λ k. 2 ^ suc w ≤ 2 ^ k + 2 ^ k) (sym e) (omega arith)

pub among_signed : (w a : ℕ) → a < 2 ^ w → IsAmong (2 ^ (w - 1)) (signed_at w a)
among_signed w a s = elim (cases_lt a (2 ^ (w - 1))) [
  | inl low ↦ subst (λ b. IsAmong (2 ^ (w - 1)) (if b then pos a -ℤ pos (2 ^ w) else pos a)) (sym (lt-leb (2 ^ (w - 1)) a low)) (above a low)
  | inr high ↦
      let few : 2 ^ w - suc a < 2 ^ (w - 1) = omega (arith, high, s, at_most_twice w) in
      subst (λ b. IsAmong (2 ^ (w - 1)) (if b then pos a -ℤ pos (2 ^ w) else pos a)) (sym (le-leb (2 ^ (w - 1)) a high))
      (subst (λ z. IsAmong (2 ^ (w - 1)) z) (sym (below a (2 ^ w) s)) (below_zero (2 ^ w - suc a) few))
]

pub among_more : (h k : ℕ) (z : ℤ) → h ≤ k → IsAmong h z → IsAmong k z
among_more h k z more (above n s) = above n (omega (arith, more, s))
among_more h k z more (below_zero n s) = below_zero n (omega (arith, more, s))

-- the bits of a signed number stand for it
pub stands_for : (w : ℕ) (z : ℤ) → 0 < w → IsAmong (2 ^ (w - 1)) z → signed_at w (pattern_at w z) ≡ z
stands_for w z some (above n s) =
    let whole : n < 2 ^ w = omega (arith, s, twice w some) in
    ap (signed_at w) (mod-eq_of_lt whole) ∙ ap (λ b. if b then pos n -ℤ pos (2 ^ w) else pos n) (lt-leb (2 ^ (w - 1)) n s)
stands_for w z some (below_zero n s) =
    let whole : n < 2 ^ w = omega (arith, s, twice w some) in
    let k : ℕ = 2 ^ w - 1 - n in
    let high : 2 ^ (w - 1) ≤ k = omega (arith, s, twice w some) in
    let few : k < 2 ^ w = omega (arith, whole) in
    let rest : 2 ^ w - suc k ≡ n = omega (arith, whole) in
    ap (λ m. signed_at w (2 ^ w - 1 - m)) (mod-eq_of_lt whole) ∙ ap (λ b. if b then pos k -ℤ pos (2 ^ w) else pos k) (le-leb (2 ^ (w - 1)) k high)
    ∙ below k (2 ^ w) few ∙ ap negsuc rest

-- a signed number that is moved down
pub among_halved : (h : ℕ) (z : ℤ) (c : ℕ) → IsAmong h z → IsAmong h (halved_of z c)
among_halved h z c (above n s) = above (n / 2 ^ c) (omega (arith, s, shr_le n c))
among_halved h z c (below_zero n s) = below_zero (n / 2 ^ c) (omega (arith, s, shr_le n c))

-- twice moved down is once by the sum
pub halved_twice : (z : ℤ) (c d : ℕ) → halved_of (halved_of z c) d ≡ halved_of z (c + d)
halved_twice (pos n) c d = ap pos (shr-shr n c d)
halved_twice (negsuc n) c d = ap negsuc (shr-shr n c d)

-- on bits: moved down twice with the sign
pub moved_down_twice : (w a c d : ℕ) → 0 < w → a < 2 ^ w
    → pattern_at w (halved_of (signed_at w (pattern_at w (halved_of (signed_at w a) c))) d) ≡ pattern_at w (halved_of (signed_at w a) (c + d))
moved_down_twice w a c d some s =
    ap (λ z. pattern_at w (halved_of z d)) (stands_for w (halved_of (signed_at w a) c) some (among_halved (2 ^ (w - 1)) (signed_at w a) c (among_signed w a s)))
    ∙ ap (pattern_at w) (halved_twice (signed_at w a) c d)
