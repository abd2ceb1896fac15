-- Parts of numbers: of parts, of widened and joined numbers, and of what operators make.
use Rattle.std.proofs.Common.{◌≡◌, ℕ, ◌+◌, ◌-◌, ◌*◌, ◌/◌, ◌%◌, ◌^◌, ◌<◌, ◌≤◌, Bool, true, false, ◌||◌, not, refl, sym, ap, ◌∙◌, subst, arith, true≢false, lit<, ℤ, pos, negsuc}
use Rattle.std.specs.Prelude.{if◌then◌else◌, ◌-ℤ◌}
use Rattle.std.proofs.lemmas.Bool.{lt-leb}
use Rattle.std.proofs.lemmas.Nat.{pow_pos, pow-add, mod_below, mod-mul-add, shr-shr, shr_high, shr_split, mod-pow-add, mul-mod, and_mod, or_mod, xor_mod, and_block, or_block, xor_block}
use Rattle.std.proofs.Math.Nat.{add-mod_right, add-mul-mod_self_right, mod-eq_of_lt, div-eq_of_lt, mod-add-mod, add-mod-mod, pow-le-pow_right}
use Rattle.std.proofs.Math.Pow.{mod-mod-pow, shr_lt}
use Rattle.dcc_num.specs.Numbers.{residue_of}
use Rattle.dcc_ir.specs.declared.syntax.BinOp.{BinOp}
use Rattle.dcc_ir.specs.declared.syntax.BinOp.TheVariants.{Add, Sub, Mul, And, Or, Xor}
use Rattle.dcc_ir.specs.Value.{signed_at, pattern_at, binary_value}
use Rattle.dcc_stdrules.proofs.HalfLaws.{narrowed_value}
use Rattle.dcc_morerules.proofs.SignedLaws.{among_signed, among_more, stands_for}
use Rattle.dcc_widthrules.specs.Parts.{is_narrow}
use Rattle.dcc_widthrules.specs.Halves.{is_bitwise}

-- Parts of parts.

pub more_powers : (v w : ℕ) → v ≤ w → 2 ^ v ≤ 2 ^ w
more_powers v w less = pow-le-pow_right (lit< tt) {i = v} {j = w} less

-- the low bits of low bits
pub low_again : (a v w : ℕ) → w ≤ v → a % 2 ^ v % 2 ^ w ≡ a % 2 ^ w
low_again a v w less =
    let e : v ≡ (v - w) + w = omega (arith, less) in
    ap (λ k. a % 2 ^ k % 2 ^ w) e ∙ mod-mod-pow a (v - w) w

-- a part of low bits
pub part_again : (a v n w : ℕ) → n + w ≤ v → a % 2 ^ v / 2 ^ n % 2 ^ w ≡ a / 2 ^ n % 2 ^ w
part_again a v n w within =
    let j : ℕ = v - n in
    let e : v ≡ j + n = omega (arith, within) in
    ap (λ k. a % 2 ^ k / 2 ^ n % 2 ^ w) e ∙ ap (λ k. k / 2 ^ n % 2 ^ w) (mod-pow-add a j n)
    ∙ ap (λ k. k % 2 ^ w) (shr_high (a / 2 ^ n % 2 ^ j) n (a % 2 ^ n) (mod_below a (2 ^ n) (pow_pos n))) ∙ low_again (a / 2 ^ n) j w (omega (arith, within))

-- a part of a part
pub part_of_parts : (a v n m w : ℕ) → n + w ≤ v → a / 2 ^ (n + m) % 2 ^ w ≡ a / 2 ^ m % 2 ^ v / 2 ^ n % 2 ^ w
part_of_parts a v n m w within =
    ap (λ k. a / 2 ^ k % 2 ^ w) (omega arith) ∙ ap (λ k. k % 2 ^ w) (sym (shr-shr a m n)) ∙ sym (part_again (a / 2 ^ m) v n w within)

-- Parts of joined numbers.

pub part_of_high : (h l v n w : ℕ) → l < 2 ^ v → v ≤ n → h / 2 ^ (n - v) % 2 ^ w ≡ (h * 2 ^ v + l) / 2 ^ n % 2 ^ w
part_of_high h l v n w s more =
    let e : n ≡ v + (n - v) = omega (arith, more) in
    sym (ap (λ k. (h * 2 ^ v + l) / 2 ^ k % 2 ^ w) e ∙ ap (λ k. k % 2 ^ w) (sym (shr-shr (h * 2 ^ v + l) v (n - v)))
    ∙ ap (λ k. k / 2 ^ (n - v) % 2 ^ w) (shr_high h v l s))

pub part_of_low : (h l v n w : ℕ) → l < 2 ^ v → n + w ≤ v → l / 2 ^ n % 2 ^ w ≡ (h * 2 ^ v + l) / 2 ^ n % 2 ^ w
part_of_low h l v n w s within =
    ap (λ k. k / 2 ^ n % 2 ^ w) (sym (mod-mul-add h (2 ^ v) l s)) ∙ part_again (h * 2 ^ v + l) v n w within

-- two neighbouring parts are one
pub neighbours : (a m : ℕ) → a / 2 ^ m % 2 ^ 16 ≡ a / 2 ^ (m + 8) % 2 ^ 8 * 2 ^ 8 + a / 2 ^ m % 2 ^ 8
neighbours a m = mod-pow-add (a / 2 ^ m) 8 8 ∙ ap (λ k. k % 2 ^ 8 * 2 ^ 8 + a / 2 ^ m % 2 ^ 8) (shr-shr a m 8)

-- the upper half of a number beside the lower one
pub halves : (a w : ℕ) → a < 2 ^ (w + w) → a ≡ a / 2 ^ w % 2 ^ w * 2 ^ w + a % 2 ^ w
halves a w s = sym (mod-eq_of_lt s) ∙ mod-pow-add a w w

-- Widened numbers.

-- a number at a greater width, by its sign or by zeros
abbrev pub widened : Bool → ℕ → ℕ → ℕ → ℕ
widened signed w v a = if signed then pattern_at w (signed_at v a) else a

pub low_of_widened_narrow : (signed : Bool) (w v u a : ℕ) → u ≤ v → v ≤ w → a < 2 ^ v → a % 2 ^ u ≡ widened signed w v a % 2 ^ u
low_of_widened_narrow signed w v u a less more s =
    sym (sym (low_again (widened signed w v a) v u less) ∙ ap (λ k. k % 2 ^ u) (narrowed_value signed v w a more s))

-- what is left of a signed number in fewer bits
residue_low : (w u : ℕ) (z : ℤ) → u ≤ w → residue_of (2 ^ w) z % 2 ^ u ≡ residue_of (2 ^ u) z
residue_low w u (pos n) less = low_again n w u less
residue_low w u (negsuc n) less =
    let d : ℕ = w - u in
    let e : w ≡ d + u = omega (arith, less) in
    let m : ℕ = 2 ^ u in
    let r : ℕ = n % 2 ^ w in
    let q : ℕ = r / m in
    let s : ℕ = r % m in
    let few : s < m = mod_below r m (pow_pos u) in
    let small : r < 2 ^ w = mod_below n (2 ^ w) (pow_pos w) in
    let whole : 2 ^ w ≡ 2 ^ d * m = ap (λ k. 2 ^ k) e ∙ pow-add 2 d u in
    let split : q * m + s ≡ r = shr_split r u in
    let below : q < 2 ^ d = shr_lt d u (subst (λ k. r < 2 ^ k) e small) in
    ap (λ k. (k - 1 - r) % m) whole ∙ ap (λ k. (2 ^ d * m - 1 - k) % m) (sym split) ∙ ap (λ k. k % m) (less_all (2 ^ d) q m s below few)
    ∙ mod-mul-add (2 ^ d - 1 - q) m (m - 1 - s) (omega (arith, few)) ∙ ap (λ k. m - 1 - k) (low_again n w u less)
  where
    less_all : (d q m s : ℕ) → q < d → s < m → d * m - 1 - (q * m + s) ≡ (d - 1 - q) * m + (m - 1 - s)
    less_all d q m s below few =
        let is : d ≡ q + (d - 1 - q) + 1 = omega (arith, below) in
        subst (λ k. k * m - 1 - (q * m + s) ≡ (d - 1 - q) * m + (m - 1 - s)) (sym is) (plain q (d - 1 - q) m s few)
      where
        plain : (q r m s : ℕ) → s < m → (q + r + 1) * m - 1 - (q * m + s) ≡ r * m + (m - 1 - s)
        plain q r m s few = omega (arith, few)

pub low_of_widened_wide : (signed : Bool) (w v u a : ℕ) → v ≤ u → u ≤ w → a < 2 ^ v → widened signed u v a ≡ widened signed w v a % 2 ^ u
low_of_widened_wide true w v u a less more s = sym (residue_low w u (signed_at v a) more)
low_of_widened_wide false w v u a less more s = sym (mod-eq_of_lt (omega (arith, s, more_powers v u less)))

-- nothing stands above a number
pub nothing_above : (a v n w : ℕ) → a < 2 ^ v → v ≤ n → 0 ≡ a / 2 ^ n % 2 ^ w
nothing_above a v n w s more =
    sym (ap (λ k. k % 2 ^ w) (div-eq_of_lt (omega (arith, s, more_powers v n more))) ∙ mod-eq_of_lt (pow_pos w))

-- a number that is extended twice
pub widened_again : (signed signed' : Bool) (w u v a : ℕ) → (not signed' || signed) ≡ true → v < u → u < w → a < 2 ^ v
    → widened signed' w v a ≡ widened signed w u (widened signed' u v a)
widened_again false false w u v a t less more s = refl
widened_again false true w u v a t less more s = absurd (true≢false (sym t))
widened_again true true w u v a t less more s =
    ap (pattern_at w) (sym (stands_for u (signed_at v a) (omega (arith, less))
    (among_more (2 ^ (v - 1)) (2 ^ (u - 1)) (signed_at v a) (more_powers (v - 1) (u - 1) (omega (arith, less))) (among_signed v a s))))
widened_again true false w u v a t less more s =
    let low : a < 2 ^ (u - 1) = omega (arith, s, more_powers v (u - 1) (omega (arith, less))) in
    let few : a < 2 ^ w = omega (arith, s, more_powers v w (omega (arith, less, more))) in
    sym (ap (λ b. pattern_at w (if b then pos a -ℤ pos (2 ^ u) else pos a)) (lt-leb (2 ^ (u - 1)) a low) ∙ mod-eq_of_lt few)

-- The low bits of what an operator makes.

sum_low : (a b m : ℕ) → (a + b) % m ≡ (a % m + b % m) % m
sum_low a b m = sym (mod-add-mod a m (b % m) ∙ add-mod-mod a b m)

-- a difference is known by the sum that it undoes
difference_low : (a b m d : ℕ) → b ≤ d * m → 0 < m → (a + d * m - b) % m ≡ (a % m + m - b % m) % m
difference_low a b m d less some =
    let x : ℕ = a + d * m - b in
    let small : b % m < m = mod_below b m some in
    let back : (x + b % m) % m ≡ a % m =
    add-mod-mod x b m ∙ ap (λ k. k % m) (undone a (d * m) b less) ∙ multiple a d m in
    sym (ap (λ k. (k + m - b % m) % m) (sym back) ∙ ap (λ k. k % m) (minus ((x + b % m) % m) m (b % m) small) ∙ mod-add-mod (x + b % m) m (m - b % m)
    ∙ ap (λ k. k % m) (whole x (b % m) m small) ∙ once x m)
  where
    undone : (a n b : ℕ) → b ≤ n → a + n - b + b ≡ a + n
    undone a n b less = omega (arith, less)

    multiple : (a d m : ℕ) → (a + d * m) % m ≡ a % m
    multiple a d m = add-mul-mod_self_right a d m

    minus : (n m c : ℕ) → c < m → n + m - c ≡ n + (m - c)
    minus n m c t = omega (arith, t)

    whole : (x c m : ℕ) → c < m → x + c + (m - c) ≡ x + m
    whole x c m t = omega (arith, t)

    once : (x m : ℕ) → (x + m) % m ≡ x % m
    once x m = add-mod_right x m

pub narrow_law : (f : BinOp) → is_narrow f ≡ true → (v w a b : ℕ) → w ≤ v → b < 2 ^ v → binary_value f w (a % 2 ^ w) (b % 2 ^ w) ≡ binary_value f v a b % 2 ^ w
narrow_law Add t v w a b less s = sym (low_again (a + b) v w less ∙ sum_low a b (2 ^ w))
narrow_law Sub t v w a b less s =
    let e : v ≡ (v - w) + w = omega (arith, less) in
    let p : 2 ^ v ≡ 2 ^ (v - w) * 2 ^ w = ap (λ k. 2 ^ k) e ∙ pow-add 2 (v - w) w in
    sym (low_again (a + 2 ^ v - b) v w less ∙ ap (λ k. (a + k - b) % 2 ^ w) p
    ∙ difference_low a b (2 ^ w) (2 ^ (v - w)) (subst (λ k. b ≤ k) p (omega (arith, s))) (pow_pos w))
narrow_law Mul t v w a b less s = sym (low_again (a * b) v w less ∙ mul-mod a b (2 ^ w))
narrow_law And t v w a b less s = sym (and_mod a b w)
narrow_law Or t v w a b less s = sym (or_mod a b w)
narrow_law Xor t v w a b less s = sym (xor_mod a b w)
narrow_law f t v w a b less s = absurd (true≢false (sym t))

-- an operator on each bit, on numbers of two parts
pub block_law : (f : BinOp) → is_bitwise f ≡ true → (k w v u a b r s : ℕ) → r < 2 ^ k → s < 2 ^ k
    → binary_value f w (a * 2 ^ k + r) (b * 2 ^ k + s) ≡ binary_value f v a b * 2 ^ k + binary_value f u r s
block_law And t k w v u a b r s x y = and_block k a b r s x y
block_law Or t k w v u a b r s x y = or_block k a b r s x y
block_law Xor t k w v u a b r s x y = xor_block k a b r s x y
block_law f t k w v u a b r s x y = absurd (true≢false (sym t))
