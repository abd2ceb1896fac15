-- The rules on sums, multiples and shifts.
use Rattle.std.proofs.Common.{◌≡◌, ◌≢◌, ℕ, zero, suc, ◌+◌, ◌-◌, ◌*◌, ◌/◌, ◌%◌, ◌^◌, ◌<◌, ◌≤◌, max, Bool, true, false, ◌&&◌, ◌||◌, not, ◌⊎◌, inl, inr, List, Option, Some, None, refl, sym, ap, ◌∙◌, subst, arith, true≢false, eqb-true, ltb-true, lit<}
use Rattle.std.specs.Prelude.{if◌then◌else◌, ◌==◌, nat_lt, bit_and}
use Rattle.std.specs.Option.{option_or}
use Rattle.std.specs.Int.Bits.{and_zero_l, or_zero_l, xor_zero_l}
use Rattle.std.proofs.lemmas.Bool.{lt-ltb, eq-eqb}
use Rattle.std.proofs.lemmas.Nat.{pow_pos, pow-add, mod_below, and_mask, shr-shr, shl-shr, shr_high, shr_le, mod-pow-add, mul-mod_first, mul-mod_second}
use Rattle.std.proofs.Math.Nat.{mod-eq_of_lt, mod-add-mod, add-mod-mod, mul-mod_left, pow-le-pow_right}
use Rattle.dcc_ir.specs.declared.syntax.Expr.{Expr as Expression}
use Rattle.dcc_ir.specs.declared.syntax.UnOp.{UnOp}
use Rattle.dcc_ir.specs.declared.syntax.UnOp.TheVariants.{Neg}
use Rattle.dcc_ir.specs.declared.syntax.BinOp.{BinOp}
use Rattle.dcc_ir.specs.declared.syntax.BinOp.TheVariants.{Add, Sub, Mul, And, Or, Xor, Shl, Shr, Sar}
use Rattle.dcc_ir.specs.Views.{expr_of}
use Rattle.dcc_ir.specs.Tree.{Expr, Const, Get, Load, Unary, Binary, Widen, Part, Join, Choose, Address}
use Rattle.dcc_ir.specs.Value.{is_comparison, width_of, signed_at, binary_value, Environment, value_of, Fits}
use Rattle.dcc_ir.specs.WellFormed.{is_width, is_division, is_expr}
use Rattle.dcc_ir.specs.Measure.{nodes_of, depth_of, truths_of}
use Rattle.dcc_ir.specs.Forms.{ones, same_unary, same_binary, same_expr, is_shift}
use Rattle.dcc_ir.proofs.FitLaws.{both, either}
use Rattle.dcc_ir.proofs.PathLaws.{decided}
use Rattle.dcc_rules.specs.Simpler.{MeansSame, AddsNothing, IsSimplerUnder}
use Rattle.dcc_rules.specs.Rules.{MeetsRuleUnder}
use Rattle.dcc_rules.proofs.AmongLaws.{both_hold}
use Rattle.dcc_rules.proofs.ReducedLaws.{has_a_node, adds_through, adds_nothing_to_itself}
use Rattle.dcc_stdrules.proofs.SameLaws.{unary_same, binary_same, expr_same}
use Rattle.dcc_stdrules.proofs.WithinLaws.{IsWithin, within_left, within_right, within_unary, within_through, is_deep, beside_constant, beside_constant_nodes}
use Rattle.dcc_stdrules.proofs.OperandLaws.{Answer, Operated, operated, fits_in, left_stays, right_stays}
use Rattle.dcc_stdrules.proofs.HalfLaws.{UnaryParts, unary_parts}
use Rattle.dcc_morerules.specs.Further.{Gives}
use Rattle.dcc_morerules.specs.Arithmetic.{zero_beside, zero_less, plus_negative, shifted_back, shifted_twice, moves_up, base_of, times_of, sum_of_multiples, multiple_moved}
use Rattle.dcc_morerules.proofs.SizeLaws.{truths_of_one, truths_of_two, nodes_of_two, beside, formed_two}
use Rattle.dcc_morerules.proofs.GivenLaws.{meets_given, chosen, told}
use Rattle.dcc_morerules.proofs.SignedLaws.{moved_down_twice}
use Rattle.dcc_morerules.proofs.TestLaws.{formed_number, number_fits}

-- 0 to the left of an operator on bits.

zero_operator : (bits : List ℕ) (f : BinOp) (w v : ℕ) (y o : Expr)
    → (if same_binary f And then Some (Const v 0) else if same_binary f Or || same_binary f Xor then Some y else None) ≡ Some o
    → IsSimplerUnder bits (Binary f w (Const v 0) y) o
zero_operator bits And w v y o e =
    let is : Const v 0 ≡ o = cc in
    subst (λ (z : Expr). IsSimplerUnder bits (Binary And w (Const v 0) y) z) is (left_stays bits And w (Const v 0) y refl (λ scene s. and_zero_l (value_of scene y)))
zero_operator bits Or w v y o e =
    let is : y ≡ o = cc in
    subst (λ (z : Expr). IsSimplerUnder bits (Binary Or w (Const v 0) y) z) is (right_stays bits Or w (Const v 0) y refl (λ scene s t. or_zero_l (value_of scene y)))
zero_operator bits Xor w v y o e =
    let is : y ≡ o = cc in
    subst (λ (z : Expr). IsSimplerUnder bits (Binary Xor w (Const v 0) y) z) is (right_stays bits Xor w (Const v 0) y refl (λ scene s t. xor_zero_l (value_of scene y)))
zero_operator bits f w v y o e = cc

zero_beside_simpler : (bits : List ℕ) (e o : Expr) → zero_beside e ≡ Some o → IsSimplerUnder bits e o
zero_beside_simpler bits (Binary f w (Const v n) y) o e =
    let t = chosen (n == 0) (if same_binary f And then Some (Const v n) else if same_binary f Or || same_binary f Xor then Some y else None) o e in
    let zero : n ≡ 0 = eqb-true n 0 t.0 in
    subst (λ k. IsSimplerUnder bits (Binary f w (Const v k) y) o) (sym zero)
    (zero_operator bits f w v y o (subst (λ k. (if same_binary f And then Some (Const v k) else if same_binary f Or || same_binary f Xor then Some y else None) ≡ Some o) zero t.1))
zero_beside_simpler bits e o is = cc

pub meets_58 : (bits : List ℕ) (e : Expression) (r : Answer) → Gives r (zero_beside (expr_of e)) → MeetsRuleUnder 58 bits e r
meets_58 bits e r h = meets_given 58 bits e r (zero_beside (expr_of e)) (omega arith) (zero_beside_simpler bits (expr_of e)) h

-- Negatives.

negative_at : (bits : List ℕ) (w v : ℕ) (x : Expr) → IsSimplerUnder bits (Binary Sub w (Const v 0) x) (Unary Neg w x)
negative_at bits w v x = record {
  meaning = λ widths ok.
      let h = operated bits Sub w (Const v 0) x ok in
      record {
        formed = both_hold (is_width w && is_expr bits x) (width_of bits x == w) (both_hold (is_width w) (is_expr bits x) h.width h.right) (eq-eqb (width_of bits x) w h.right_width);
        width = refl;
        value = λ scene is fits. plain (2 ^ w) (value_of scene x);
      };
  nodes = omega arith;
  adds = record { depth = omega arith; truths = (adds_nothing_to_itself x).truths; reads = (adds_nothing_to_itself x).reads; addresses = (adds_nothing_to_itself x).addresses };
}
  where
    plain : (m v : ℕ) → (m - v) % m ≡ (0 + m - v) % m
    plain m v = ap (λ k. (k - v) % m) (omega arith)

zero_less_simpler : (bits : List ℕ) (e o : Expr) → zero_less e ≡ Some o → IsSimplerUnder bits e o
zero_less_simpler bits (Binary f w (Const v n) x) o e =
    let t = told (same_binary f Sub && n == 0) (Unary Neg w x) o e in
    let p = both (same_binary f Sub) (n == 0) t.0 in
    subst (λ (z : Expr). IsSimplerUnder bits (Binary f w (Const v n) x) z) t.1
    (subst (λ (g : BinOp). IsSimplerUnder bits (Binary g w (Const v n) x) (Unary Neg w x)) (sym (binary_same f Sub p.0))
    (subst (λ m. IsSimplerUnder bits (Binary Sub w (Const v m) x) (Unary Neg w x)) (sym (eqb-true n 0 p.1)) (negative_at bits w v x)))
zero_less_simpler bits e o is = cc

difference_at : (bits : List ℕ) (w v : ℕ) (x y : Expr) → IsSimplerUnder bits (Binary Add w x (Unary Neg v y)) (Binary Sub w x y)
difference_at bits w v x y =
    let given : Expr = Binary Add w x (Unary Neg v y) in
    let in_y : IsWithin given y = within_through given (Unary Neg v y) y (within_right Add w x (Unary Neg v y)) (within_unary Neg v y) in
    record {
      meaning = λ widths ok.
          let h = operated bits Add w x (Unary Neg v y) ok in
          let u = unary_parts bits Neg v y h.right in
          let right : width_of bits y ≡ w = u.operand_width ∙ h.right_width in
          record {
            formed = formed_two bits Sub w x y refl (record { width = h.width; left = h.left; right = u.operand; left_width = h.left_width; right_width = right });
            width = refl;
            value = λ scene is fits.
                let a = value_of scene x in
                let b = value_of scene y in
                sym (ap (λ k. (a + (2 ^ k - b) % 2 ^ k) % 2 ^ w) h.right_width ∙ add-mod-mod a (2 ^ w - b) (2 ^ w)
                ∙ ap (λ k. k % 2 ^ w) (together a (2 ^ w) b (fits_in bits w y u.operand right scene is fits)));
          };
      nodes = omega (arith, nodes_of_two Add w x (Unary Neg v y), nodes_of_two Sub w x y);
      adds = beside given x y Sub w (within_left Add w x (Unary Neg v y)) in_y (omega arith)
          (omega (arith, truths_of_two Add w x (Unary Neg v y), truths_of_two Sub w x y, truths_of_one Neg v y));
    }
  where
    together : (a m b : ℕ) → b < m → a + (m - b) ≡ a + m - b
    together a m b s = omega (arith, s)

plus_negative_simpler : (bits : List ℕ) (e o : Expr) → plus_negative e ≡ Some o → IsSimplerUnder bits e o
plus_negative_simpler bits (Binary f w x (Unary h v y)) o e =
    let t = told (same_binary f Add && same_unary h Neg) (Binary Sub w x y) o e in
    let p = both (same_binary f Add) (same_unary h Neg) t.0 in
    subst (λ (z : Expr). IsSimplerUnder bits (Binary f w x (Unary h v y)) z) t.1
    (subst (λ (g : BinOp). IsSimplerUnder bits (Binary g w x (Unary h v y)) (Binary Sub w x y)) (sym (binary_same f Add p.0))
    (subst (λ (k : UnOp). IsSimplerUnder bits (Binary Add w x (Unary k v y)) (Binary Sub w x y)) (sym (unary_same h Neg p.1)) (difference_at bits w v x y)))
plus_negative_simpler bits e o is = cc

-- the first of two answers that there is
first_of : (bits : List ℕ) (e o : Expr) (p q : Option Expr) → ((r : Expr) → p ≡ Some r → IsSimplerUnder bits e r) → ((r : Expr) → q ≡ Some r → IsSimplerUnder bits e r)
    → option_or p q ≡ Some o → IsSimplerUnder bits e o
first_of bits e o (Some x) q one other is = one o is
first_of bits e o None q one other is = other o is

pub meets_59 : (bits : List ℕ) (e : Expression) (r : Answer) → Gives r (option_or (zero_less (expr_of e)) (plus_negative (expr_of e))) → MeetsRuleUnder 59 bits e r
meets_59 bits e r h =
    meets_given 59 bits e r (option_or (zero_less (expr_of e)) (plus_negative (expr_of e))) (omega arith)
    (λ o is. first_of bits (expr_of e) o (zero_less (expr_of e)) (plus_negative (expr_of e)) (zero_less_simpler bits (expr_of e)) (plus_negative_simpler bits (expr_of e)) is) h

-- Shifts.

-- an operator on an expression and a number, for an operator on one on the same expression and two numbers
one_number : (bits : List ℕ) (f g h : BinOp) (w v u t c d n : ℕ) (x : Expr) → is_comparison f ≡ false → is_comparison g ≡ false → is_comparison h ≡ false → is_division h ≡ false
    → (is_width w ≡ true → n < 2 ^ w)
    → (is_width w ≡ true → (a : ℕ) → a < 2 ^ w → c < 2 ^ w → d < 2 ^ w → binary_value h w a n ≡ binary_value f w (binary_value g w a c) d)
    → IsSimplerUnder bits (Binary f w (Binary g v x (Const u c)) (Const t d)) (Binary h w x (Const w n))
one_number bits f g h w v u t c d n x plain_f plain_g plain_h whole few law =
    let given : Expr = Binary f w (Binary g v x (Const u c)) (Const t d) in
    let in_x : IsWithin given x = within_through given (Binary g v x (Const u c)) x (within_left f w (Binary g v x (Const u c)) (Const t d)) (within_left g v x (Const u c)) in
    record {
      meaning = λ widths ok.
          let outer = operated bits f w (Binary g v x (Const u c)) (Const t d) ok in
          let inner = operated bits g v x (Const u c) outer.left in
          let same : v ≡ w = sym (ap (λ b. if b then 1 else v) plain_g) ∙ outer.left_width in
          let left : width_of bits x ≡ w = inner.left_width ∙ same in
          let small_c : c < 2 ^ w = number_fits bits w u c inner.right (inner.right_width ∙ same) in
          let small_d : d < 2 ^ w = number_fits bits w t d outer.right outer.right_width in
          record {
            formed = formed_two bits h w x (Const w n) whole
                (record { width = outer.width; left = inner.left; right = formed_number bits w n outer.width (few outer.width); left_width = left; right_width = refl });
            width = ap (λ b. if b then 1 else w) plain_h ∙ sym (ap (λ b. if b then 1 else w) plain_f);
            value = λ scene is fits.
                law outer.width (value_of scene x) (fits_in bits w x inner.left left scene is fits) small_c small_d
                ∙ ap (λ k. binary_value f w (binary_value g k (value_of scene x) c) d) (sym same);
          };
      nodes = omega (arith, beside_constant_nodes h w w n x, beside_constant_nodes f w t d (Binary g v x (Const u c)), beside_constant_nodes g v u c x);
      adds = beside_constant given x h w w n in_x plain_h (omega arith);
    }

-- what stays of a number that is moved up and down again
up_and_down : (w c a : ℕ) → c < w → bit_and a ((2 ^ w - 1) / 2 ^ c) ≡ a * 2 ^ c % 2 ^ w / 2 ^ c
up_and_down w c a s =
    let k : ℕ = w - c in
    let e : w ≡ k + c = omega (arith, s) in
    let some : 0 < 2 ^ c = pow_pos c in
    let mask : (2 ^ w - 1) / 2 ^ c ≡ 2 ^ k - 1 =
    ap (λ n. (2 ^ n - 1) / 2 ^ c) e ∙ ap (λ n. (n - 1) / 2 ^ c) (pow-add 2 k c) ∙ ap (λ n. n / 2 ^ c) (less (2 ^ k) (2 ^ c) (pow_pos k) some)
    ∙ shr_high (2 ^ k - 1) c (2 ^ c - 1) (omega (arith, some)) in
    let up : a * 2 ^ c % 2 ^ w / 2 ^ c ≡ a % 2 ^ k =
    ap (λ n. a * 2 ^ c % 2 ^ n / 2 ^ c) e ∙ ap (λ n. n / 2 ^ c) (mod-pow-add (a * 2 ^ c) k c)
    ∙ ap (λ n. (n % 2 ^ k * 2 ^ c + a * 2 ^ c % 2 ^ c) / 2 ^ c) (shl-shr a c) ∙ ap (λ n. (a % 2 ^ k * 2 ^ c + n) / 2 ^ c) (mul-mod_left a (2 ^ c))
    ∙ shr_high (a % 2 ^ k) c 0 some in
    ap (λ n. bit_and a n) mask ∙ and_mask a k ∙ sym up
  where
    less : (n m : ℕ) → 0 < n → 0 < m → n * m - 1 ≡ (n - 1) * m + (m - 1)
    less n m some more =
        let is : n ≡ n - 1 + 1 = omega (arith, some) in
        subst (λ k. k * m - 1 ≡ (n - 1) * m + (m - 1)) (sym is) (plain (n - 1) m more)
      where
        plain : (k m : ℕ) → 0 < m → (k + 1) * m - 1 ≡ k * m + (m - 1)
        plain k m more = omega (arith, more)

shifted_back_simpler : (bits : List ℕ) (e o : Expr) → shifted_back e ≡ Some o → IsSimplerUnder bits e o
shifted_back_simpler bits (Binary f w (Binary g v x (Const u c)) (Const t d)) o e =
    let p = told (same_binary f Shr && same_binary g Shl && c == d && nat_lt c w && is_width w) (Binary And w x (Const w (ones w / 2 ^ c))) o e in
    let four = both (same_binary f Shr && same_binary g Shl && c == d && nat_lt c w) (is_width w) p.0 in
    let three = both (same_binary f Shr && same_binary g Shl && c == d) (nat_lt c w) four.0 in
    let two = both (same_binary f Shr && same_binary g Shl) (c == d) three.0 in
    let one = both (same_binary f Shr) (same_binary g Shl) two.0 in
    let few : c < w = ltb-true c w three.1 in
    let small : ones w / 2 ^ c < 2 ^ w = omega (arith, shr_le (2 ^ w - 1) c, pow_pos w) in
    subst (λ (z : Expr). IsSimplerUnder bits (Binary f w (Binary g v x (Const u c)) (Const t d)) z) p.1
    (subst (λ (k : BinOp). IsSimplerUnder bits (Binary k w (Binary g v x (Const u c)) (Const t d)) (Binary And w x (Const w (ones w / 2 ^ c)))) (sym (binary_same f Shr one.0))
    (subst (λ (k : BinOp). IsSimplerUnder bits (Binary Shr w (Binary k v x (Const u c)) (Const t d)) (Binary And w x (Const w (ones w / 2 ^ c)))) (sym (binary_same g Shl one.1))
    (subst (λ k. IsSimplerUnder bits (Binary Shr w (Binary Shl v x (Const u c)) (Const t k)) (Binary And w x (Const w (ones w / 2 ^ c)))) (eqb-true c d two.1)
    (one_number bits Shr Shl And w v u t c c (ones w / 2 ^ c) x refl refl refl refl (λ width. small) (λ width a s s' s''. up_and_down w c a few)))))
shifted_back_simpler bits e o is = cc

pub meets_65 : (bits : List ℕ) (e : Expression) (r : Answer) → Gives r (shifted_back (expr_of e)) → MeetsRuleUnder 65 bits e r
meets_65 bits e r h = meets_given 65 bits e r (shifted_back (expr_of e)) (omega arith) (shifted_back_simpler bits (expr_of e)) h

-- a number is moved up twice
up_twice : (m a c d : ℕ) → a * 2 ^ (c + d) % m ≡ a * 2 ^ c % m * 2 ^ d % m
up_twice m a c d = sym (mul-mod_first (a * 2 ^ c) (2 ^ d) m ∙ ap (λ k. k % m) (together a (2 ^ c) (2 ^ d) ∙ ap (λ k. a * k) (sym (pow-add 2 c d))))
  where
    together : (a m n : ℕ) → a * m * n ≡ a * (m * n)
    together a m n = omega arith

below_power : (n : ℕ) → n < 2 ^ n
below_power zero = omega arith
below_power (suc n) = omega (arith, below_power n)

twice_law : (f : BinOp) → is_shift f ≡ true → (w a c d : ℕ) → 0 < w → a < 2 ^ w → binary_value f w a (c + d) ≡ binary_value f w (binary_value f w a c) d
twice_law Shl t w a c d some s = up_twice (2 ^ w) a c d
twice_law Shr t w a c d some s = sym (shr-shr a c d)
twice_law Sar t w a c d some s = sym (moved_down_twice w a c d some s)
twice_law f t w a c d some s = absurd (true≢false (sym t))

shift_plain : (f : BinOp) → is_shift f ≡ true → (is_comparison f ≡ false) × (is_division f ≡ false)
shift_plain Shl t = (refl, refl)
shift_plain Shr t = (refl, refl)
shift_plain Sar t = (refl, refl)
shift_plain f t = absurd (true≢false (sym t))

shifted_twice_simpler : (bits : List ℕ) (e o : Expr) → shifted_twice e ≡ Some o → IsSimplerUnder bits e o
shifted_twice_simpler bits (Binary f w (Binary g v x (Const u c)) (Const t d)) o e =
    let p = told (is_shift f && same_binary g f && nat_lt (c + d) w) (Binary f w x (Const w (c + d))) o e in
    let two = both (is_shift f && same_binary g f) (nat_lt (c + d) w) p.0 in
    let one = both (is_shift f) (same_binary g f) two.0 in
    let few : c + d < w = ltb-true (c + d) w two.1 in
    let some : 0 < w = omega (arith, few) in
    let small : c + d < 2 ^ w = omega (arith, few, below_power w) in
    let plain = shift_plain f one.0 in
    subst (λ (z : Expr). IsSimplerUnder bits (Binary f w (Binary g v x (Const u c)) (Const t d)) z) p.1
    (subst (λ (k : BinOp). IsSimplerUnder bits (Binary f w (Binary k v x (Const u c)) (Const t d)) (Binary f w x (Const w (c + d)))) (sym (binary_same g f one.1))
    (one_number bits f f f w v u t c d (c + d) x plain.0 plain.0 plain.0 plain.1 (λ width. small) (λ width a s s' s''. twice_law f one.0 w a c d some s)))
shifted_twice_simpler bits e o is = cc

pub meets_67 : (bits : List ℕ) (e : Expression) (r : Answer) → Gives r (shifted_twice (expr_of e)) → MeetsRuleUnder 67 bits e r
meets_67 bits e r h = meets_given 67 bits e r (shifted_twice (expr_of e)) (omega arith) (shifted_twice_simpler bits (expr_of e)) h

-- Multiples.

-- a multiple that is moved up
moved_multiple : (m a c n : ℕ) → a * (c * n % m) % m ≡ a * c % m * n % m
moved_multiple m a c n = mul-mod_second a (c * n) m ∙ ap (λ k. k % m) (omega arith) ∙ sym (mul-mod_first (a * c) n m)

multiple_moved_simpler : (bits : List ℕ) (e o : Expr) → multiple_moved e ≡ Some o → IsSimplerUnder bits e o
multiple_moved_simpler bits (Binary f w (Binary g v x (Const u c)) (Const t d)) o e =
    let other : Expr = Binary Mul w x (Const w (c * 2 ^ d % 2 ^ w)) in
    let p = told (same_binary f Shl && same_binary g Mul && nat_lt 0 d && nat_lt d w && is_width w) other o e in
    let four = both (same_binary f Shl && same_binary g Mul && nat_lt 0 d && nat_lt d w) (is_width w) p.0 in
    let three = both (same_binary f Shl && same_binary g Mul && nat_lt 0 d) (nat_lt d w) four.0 in
    let two = both (same_binary f Shl && same_binary g Mul) (nat_lt 0 d) three.0 in
    let one = both (same_binary f Shl) (same_binary g Mul) two.0 in
    subst (λ (z : Expr). IsSimplerUnder bits (Binary f w (Binary g v x (Const u c)) (Const t d)) z) p.1
    (subst (λ (k : BinOp). IsSimplerUnder bits (Binary k w (Binary g v x (Const u c)) (Const t d)) other) (sym (binary_same f Shl one.0))
    (subst (λ (k : BinOp). IsSimplerUnder bits (Binary Shl w (Binary k v x (Const u c)) (Const t d)) other) (sym (binary_same g Mul one.1))
    (one_number bits Shl Mul Mul w v u t c d (c * 2 ^ d % 2 ^ w) x refl refl refl refl (λ width. mod_below (c * 2 ^ d) (2 ^ w) (pow_pos w))
    (λ width a s s' s''. moved_multiple (2 ^ w) a c (2 ^ d)))))
multiple_moved_simpler bits e o is = cc

-- What is known of an expression that is so many times another.
record IsTimes (bits : List ℕ) (e x : Expr) (c : ℕ) : Type 0 where
  adds : AddsNothing e x
  nodes : nodes_of x ≤ nodes_of e
  larger : (c ≡ 1) ⊎ (nodes_of x < nodes_of e)
  formed : is_expr bits e ≡ true → is_expr bits x ≡ true
  width : is_expr bits e ≡ true → width_of bits x ≡ width_of bits e
  value : is_expr bits e ≡ true → (scene : Environment) → scene.bits ≡ bits → Fits scene → value_of scene e ≡ value_of scene x * c % 2 ^ width_of bits e

-- each expression is once itself
itself : (bits : List ℕ) (e : Expr) → IsTimes bits e e 1
itself bits e = record {
  adds = adds_nothing_to_itself e;
  nodes = omega arith;
  larger = inl refl;
  formed = λ ok. ok;
  width = λ ok. refl;
  value = λ ok scene is fits. sym (ap (λ k. k % 2 ^ width_of bits e) (omega arith) ∙ mod-eq_of_lt (fits_in bits (width_of bits e) e ok refl scene is fits));
}

-- an operator on an expression and a number that gives so many times the expression
product_at : (bits : List ℕ) (f : BinOp) (w v n c : ℕ) (x : Expr) → is_comparison f ≡ false → ((a : ℕ) → binary_value f w a n ≡ a * c % 2 ^ w) → IsTimes bits (Binary f w x (Const v n)) x c
product_at bits f w v n c x plain law =
    let all : width_of bits (Binary f w x (Const v n)) ≡ w = ap (λ b. if b then 1 else w) plain in
    record {
      adds = (within_left f w x (Const v n)).adds;
      nodes = omega (arith, (within_left f w x (Const v n)).nodes);
      larger = inr (within_left f w x (Const v n)).nodes;
      formed = λ ok. (operated bits f w x (Const v n) ok).left;
      width = λ ok. (operated bits f w x (Const v n) ok).left_width ∙ sym all;
      value = λ ok scene is fits. law (value_of scene x) ∙ ap (λ k. value_of scene x * c % 2 ^ k) (sym all);
    }

either_times : (bits : List ℕ) (e x : Expr) (n p : ℕ) (product up : Bool) → (product ≡ true → IsTimes bits e x n) → (up ≡ true → IsTimes bits e x p)
    → IsTimes bits e (if product || up then x else e) (if product then n else if up then p else 1)
either_times bits e x n p true up one other = one refl
either_times bits e x n p false true one other = other refl
either_times bits e x n p false false one other = itself bits e

times_law : (bits : List ℕ) (e : Expr) → IsTimes bits e (base_of e) (times_of e)
times_law bits (Binary f w x (Const v n)) =
    let e : Expr = Binary f w x (Const v n) in
    either_times bits e x n (2 ^ n) (same_binary f Mul) (moves_up e)
    (λ t. subst (λ (k : BinOp). IsTimes bits (Binary k w x (Const v n)) x n) (sym (binary_same f Mul t)) (product_at bits Mul w v n n x refl (λ a. refl)))
    (λ t.
    let two = both (same_binary f Shl && nat_lt n w) (is_width w) t in
    let one = both (same_binary f Shl) (nat_lt n w) two.0 in
    subst (λ (k : BinOp). IsTimes bits (Binary k w x (Const v n)) x (2 ^ n)) (sym (binary_same f Shl one.0)) (product_at bits Shl w v n (2 ^ n) x refl (λ a. refl)))
times_law bits e = itself bits e

summed_value : (m a c d : ℕ) → a * ((c + d) % m) % m ≡ (a * c % m + a * d % m) % m
summed_value m a c d =
    mul-mod_second a (c + d) m ∙ ap (λ k. k % m) (omega arith) ∙ sym (mod-add-mod (a * c) m (a * d)) ∙ sym (add-mod-mod (a * c % m) (a * d) m)

multiples_at : (bits : List ℕ) (w c d : ℕ) (a b x : Expr) → IsTimes bits a x c → IsTimes bits b x d → (c ≡ 1 → d ≡ 1 → ⊥)
    → IsSimplerUnder bits (Binary Add w a b) (Binary Mul w x (Const w ((c + d) % 2 ^ w)))
multiples_at bits w c d a b x p q more =
    let given : Expr = Binary Add w a b in
    let n : ℕ = (c + d) % 2 ^ w in
    let in_a : IsWithin given a = within_left Add w a b in
    let in_x : IsWithin given x = record { nodes = omega (arith, p.nodes, in_a.nodes); adds = adds_through given a x in_a.adds p.adds } in
    record {
      meaning = λ widths ok.
          let o = operated bits Add w a b ok in
          let left : width_of bits x ≡ w = p.width o.left ∙ o.left_width in
          record {
            formed = formed_two bits Mul w x (Const w n) refl
                (record { width = o.width; left = p.formed o.left; right = formed_number bits w n o.width (mod_below (c + d) (2 ^ w) (pow_pos w)); left_width = left; right_width = refl });
            width = refl;
            value = λ scene is fits.
                let v = value_of scene x in
                let first : value_of scene a ≡ v * c % 2 ^ w = p.value o.left scene is fits ∙ ap (λ k. v * c % 2 ^ k) o.left_width in
                let second : value_of scene b ≡ v * d % 2 ^ w = q.value o.right scene is fits ∙ ap (λ k. v * d % 2 ^ k) o.right_width in
                summed_value (2 ^ w) v c d ∙ ap (λ k. (k + v * d % 2 ^ w) % 2 ^ w) (sym first) ∙ ap (λ k. (value_of scene a + k) % 2 ^ w) (sym second);
          };
      nodes = elim p.larger [
        | inr s ↦ omega (arith, s, q.nodes, has_a_node x, nodes_of_two Add w a b, beside_constant_nodes Mul w w n x)
        | inl e ↦ elim q.larger [
          | inr s ↦ omega (arith, s, p.nodes, has_a_node x, nodes_of_two Add w a b, beside_constant_nodes Mul w w n x)
          | inl f ↦ absurd (more e f)
        ]
      ];
      adds = beside_constant given x Mul w w n in_x refl (omega (arith, p.adds.depth, is_deep x));
    }

not_both : (c d : ℕ) → not (c == 1 && d == 1) ≡ true → c ≡ 1 → d ≡ 1 → ⊥
not_both c d t e f = true≢false (sym t ∙ ap not (both_hold (c == 1) (d == 1) (eq-eqb c 1 e) (eq-eqb d 1 f)))

sum_of_multiples_simpler : (bits : List ℕ) (e o : Expr) → sum_of_multiples e ≡ Some o → IsSimplerUnder bits e o
sum_of_multiples_simpler bits (Binary f w a b) o e =
    let other : Expr = Binary Mul w (base_of a) (Const w ((times_of a + times_of b) % 2 ^ w)) in
    let p = told (same_binary f Add && is_width w && same_expr (base_of a) (base_of b) && not (times_of a == 1 && times_of b == 1)) other o e in
    let three = both (same_binary f Add && is_width w && same_expr (base_of a) (base_of b)) (not (times_of a == 1 && times_of b == 1)) p.0 in
    let two = both (same_binary f Add && is_width w) (same_expr (base_of a) (base_of b)) three.0 in
    let one = both (same_binary f Add) (is_width w) two.0 in
    subst (λ (z : Expr). IsSimplerUnder bits (Binary f w a b) z) p.1
    (subst (λ (k : BinOp). IsSimplerUnder bits (Binary k w a b) other) (sym (binary_same f Add one.0))
    (multiples_at bits w (times_of a) (times_of b) a b (base_of a) (times_law bits a)
    (subst (λ (y : Expr). IsTimes bits b y (times_of b)) (sym (expr_same (base_of a) (base_of b) two.1)) (times_law bits b))
    (not_both (times_of a) (times_of b) three.1)))
sum_of_multiples_simpler bits e o is = cc

pub meets_68 : (bits : List ℕ) (e : Expression) (r : Answer) → Gives r (option_or (sum_of_multiples (expr_of e)) (multiple_moved (expr_of e))) → MeetsRuleUnder 68 bits e r
meets_68 bits e r h =
    meets_given 68 bits e r (option_or (sum_of_multiples (expr_of e)) (multiple_moved (expr_of e))) (omega arith)
    (λ o is. first_of bits (expr_of e) o (sum_of_multiples (expr_of e)) (multiple_moved (expr_of e)) (sum_of_multiples_simpler bits (expr_of e)) (multiple_moved_simpler bits (expr_of e)) is) h
