-- The rules on tests that are one comparison.
use Rattle.std.proofs.Common.{◌≡◌, ◌≢◌, ℕ, suc, ◌+◌, ◌-◌, ◌*◌, ◌/◌, ◌%◌, ◌^◌, ◌<◌, ◌≤◌, max, Bool, true, false, ◌&&◌, ◌||◌, not, ◌⊎◌, inl, inr, List, Option, Some, None, option_map, refl, sym, ap, ◌∙◌, subst, arith, true≢false, eqb-true, ltb-true, ℤ, pos, negsuc}
use Rattle.std.specs.Prelude.{if◌then◌else◌, ◌==◌, nat_lt, nat_le, int_lt, int_le, bit_or, bit_xor}
use Rattle.std.specs.Int.{from_bool}
use Rattle.std.specs.Option.{option_or}
use Rattle.std.specs.Int.Bits.{xor_self, xor_zero_l, xor_zero_r, xor_assoc}
use Rattle.std.proofs.lemmas.Bool.{cases_lt, lt-ltb, lt-leb, le-leb, eq-eqb, ne_eqb}
use Rattle.std.proofs.lemmas.Nat.{pow_pos, mod_below, or_comm}
use Rattle.std.proofs.Math.Nat.{mod-eq_of_lt, mod-add-mod, add-mod_right, mod_self}
use Rattle.dcc_ir.specs.declared.syntax.Expr.{Expr as Expression}
use Rattle.dcc_ir.specs.declared.syntax.UnOp.{UnOp}
use Rattle.dcc_ir.specs.declared.syntax.UnOp.TheVariants.{Neg, IsZero}
use Rattle.dcc_ir.specs.declared.syntax.BinOp.{BinOp}
use Rattle.dcc_ir.specs.declared.syntax.BinOp.TheVariants.{Add, Sub, Or, Xor, Eq, LtS, LtU, LeS, LeU}
use Rattle.dcc_ir.specs.Views.{expr_of}
use Rattle.dcc_ir.specs.Tree.{Expr, Const, Get, Load, Unary, Binary, Widen, Part, Join, Choose, Address}
use Rattle.dcc_ir.specs.Value.{is_comparison, is_test, width_of, signed_at, pattern_at, unary_value, binary_value, Environment, value_of, Fits}
use Rattle.dcc_ir.specs.WellFormed.{is_width, is_division, is_expr}
use Rattle.dcc_ir.specs.Measure.{nodes_of, depth_of, truths_of}
use Rattle.dcc_ir.specs.Forms.{same_unary, same_binary, same_expr}
use Rattle.dcc_ir.proofs.FitLaws.{both, either}
use Rattle.dcc_ir.proofs.PathLaws.{decided}
use Rattle.dcc_rules.specs.Simpler.{MeansSame, AddsNothing, IsSimplerUnder}
use Rattle.dcc_rules.specs.Rules.{MeetsRuleUnder}
use Rattle.dcc_rules.proofs.AmongLaws.{both_hold}
use Rattle.dcc_rules.proofs.ReducedLaws.{adds_through, adds_nothing_to_itself}
use Rattle.dcc_stdrules.proofs.SameLaws.{unary_same, binary_same, expr_same}
use Rattle.dcc_stdrules.proofs.NumberLaws.{signed_back}
use Rattle.dcc_stdrules.proofs.WithinLaws.{IsWithin, within_left, within_right, within_unary, within_through, constant_within, binary_nodes, unary_nodes, beside_constant_nodes}
use Rattle.dcc_stdrules.proofs.OperandLaws.{Answer, Operated, operated, fits_in}
use Rattle.dcc_stdrules.proofs.HalfLaws.{UnaryParts, unary_parts}
use Rattle.dcc_morerules.specs.Further.{Gives}
use Rattle.dcc_morerules.specs.Tests.{are_same_two, equal_or_less, zero_or_negative, either_test, undoing, equal_after_sum, equality, equal_to_negative, zero_difference, opposite_of, zero_truth}
use Rattle.dcc_morerules.proofs.SizeLaws.{counted, truths_of_one, truths_of_two, nodes_of_two, beside, formed_two, other_operator, turned_operands}
use Rattle.dcc_morerules.proofs.GivenLaws.{meets_given, chosen, told, mapped}
use Rattle.dcc_morerules.proofs.OppositeLaws.{AreOpposite, opposite_at, less_opposite, less_opposite_unsigned, at_most_opposite, at_most_opposite_unsigned}

-- Two tests on numbers are one where each follows from the other.

pub one_test : (p q r s : ℕ) → (p ≡ q → r ≡ s) → (r ≡ s → p ≡ q) → (p == q) ≡ (r == s)
one_test p q r s there back = elim (decided (p == q)) [
  | inl t ↦ t ∙ sym (eq-eqb r s (there (eqb-true p q t)))
  | inr n ↦ n ∙ sym (ne_eqb r s (λ e. true≢false (sym (eq-eqb p q (back e)) ∙ n)))
]

turned_test : (a b : ℕ) → (a == b) ≡ (b == a)
turned_test a b = one_test a b b a (λ e. sym e) (λ e. sym e)

-- Equal or less is at most.

or_bits : (s t : Bool) → bit_or (from_bool s) (from_bool t) ≡ from_bool (s || t)
or_bits true true = refl
or_bits true false = refl
or_bits false true = refl
or_bits false false = refl

-- different numbers are less where they are at most
less_or_same : (a b : ℕ) → a ≢ b → nat_lt a b ≡ nat_le a b
less_or_same a b other = elim (cases_lt a b) [
  | inl s ↦ lt-ltb a b s ∙ sym (le-leb a b (omega (arith, s)))
  | inr m ↦
      let more : b < a = omega (arith, m, other) in
      lt-leb (suc a) b (omega (arith, m)) ∙ sym (lt-leb a b more)
]

less_or_same_signed : (x y : ℤ) → x ≢ y → int_lt x y ≡ int_le x y
less_or_same_signed (pos a) (pos b) other = less_or_same a b (λ e. other (ap pos e))
less_or_same_signed (pos a) (negsuc b) other = refl
less_or_same_signed (negsuc a) (pos b) other = refl
less_or_same_signed (negsuc a) (negsuc b) other = less_or_same b a (λ e. other (ap negsuc (sym e)))

at_most_itself : (x : ℤ) → int_le x x ≡ true
at_most_itself (pos a) = le-leb a a (omega arith)
at_most_itself (negsuc a) = le-leb a a (omega arith)

-- two operators of which the second also holds of two that are equal
record IsOrder (less at_most : BinOp) : Type 0 where
  first : is_comparison less ≡ true
  second : is_comparison at_most ≡ true
  plain : is_division at_most ≡ false
  value : (w a b : ℕ) → a < 2 ^ w → b < 2 ^ w → bit_or (from_bool (a == b)) (binary_value less w a b) ≡ binary_value at_most w a b

unsigned : IsOrder LtU LeU
unsigned = record { first = refl; second = refl; plain = refl; value = λ w a b s t. or_bits (a == b) (nat_lt a b) ∙ ap from_bool (law a b) }
  where
    law : (a b : ℕ) → (a == b || nat_lt a b) ≡ nat_le a b
    law a b = elim (decided (a == b)) [
      | inl t ↦ ap (λ c. c || nat_lt a b) t ∙ sym (le-leb a b (omega (arith, eqb-true a b t)))
      | inr n ↦ ap (λ c. c || nat_lt a b) n ∙ less_or_same a b (λ e. true≢false (sym (eq-eqb a b e) ∙ n))
    ]

signed : IsOrder LtS LeS
signed = record { first = refl; second = refl; plain = refl; value = λ w a b s t. or_bits (a == b) (int_lt (signed_at w a) (signed_at w b)) ∙ ap from_bool (law w a b s t) }
  where
    law : (w a b : ℕ) → a < 2 ^ w → b < 2 ^ w → (a == b || int_lt (signed_at w a) (signed_at w b)) ≡ int_le (signed_at w a) (signed_at w b)
    law w a b s t = elim (decided (a == b)) [
      | inl e ↦
          ap (λ c. c || int_lt (signed_at w a) (signed_at w b)) e
          ∙ sym (ap (λ k. int_le (signed_at w a) (signed_at w k)) (sym (eqb-true a b e)) ∙ at_most_itself (signed_at w a))
      | inr n ↦
          ap (λ c. c || int_lt (signed_at w a) (signed_at w b)) n
          ∙ less_or_same_signed (signed_at w a) (signed_at w b)
          (λ e. true≢false (sym (eq-eqb a b (sym (signed_back w a s) ∙ ap (λ z. pattern_at w z) e ∙ signed_back w b t)) ∙ n))
    ]

-- a test that two numbers are equal, or one is less: it is at most the other
order_simpler : (bits : List ℕ) (less at_most : BinOp) (w : ℕ) (test a b : Expr) → IsOrder less at_most
    → ((scene : Environment) → value_of scene test ≡ from_bool (value_of scene a == value_of scene b))
    → IsSimplerUnder bits (Binary Or 1 test (Binary less w a b)) (Binary at_most w a b)
order_simpler bits less at_most w test a b order equal =
    let given : Expr = Binary Or 1 test (Binary less w a b) in
    let within : IsWithin given (Binary less w a b) = within_right Or 1 test (Binary less w a b) in
    let few : counted (is_comparison at_most) ≤ counted (is_comparison less) = omega (arith, ap counted order.first, ap counted order.second) in
    record {
      meaning = λ widths ok.
          let o = operated bits less w a b (operated bits Or 1 test (Binary less w a b) ok).right in
          record {
            formed = formed_two bits at_most w a b order.plain o;
            width = ap (λ c. if c then 1 else w) order.second;
            value = λ scene is fits.
                sym (ap (λ k. bit_or k (binary_value less w (value_of scene a) (value_of scene b))) (equal scene)
                ∙ order.value w (value_of scene a) (value_of scene b) (fits_in bits w a o.left o.left_width scene is fits) (fits_in bits w b o.right o.right_width scene is fits));
          };
      nodes = omega (arith, within.nodes, nodes_of_two less w a b, nodes_of_two at_most w a b);
      adds = adds_through given (Binary less w a b) (Binary at_most w a b) within.adds (other_operator less at_most w w a b few);
    }

-- an equality of the same two expressions tells that they are equal
equal_two : (x y a b : Expr) (scene : Environment) → are_same_two x y a b ≡ true → from_bool (value_of scene x == value_of scene y) ≡ from_bool (value_of scene a == value_of scene b)
equal_two x y a b scene t = elim (either (same_expr x a && same_expr y b) (same_expr x b && same_expr y a) t) [
  | inl e ↦
      let p = both (same_expr x a) (same_expr y b) e in
      ap (λ (z : Expr). from_bool (value_of scene z == value_of scene y)) (expr_same x a p.0) ∙ ap (λ (z : Expr). from_bool (value_of scene a == value_of scene z)) (expr_same y b p.1)
  | inr e ↦
      let p = both (same_expr x b) (same_expr y a) e in
      ap (λ (z : Expr). from_bool (value_of scene z == value_of scene y)) (expr_same x b p.0) ∙ ap (λ (z : Expr). from_bool (value_of scene b == value_of scene z)) (expr_same y a p.1)
      ∙ ap from_bool (turned_test (value_of scene b) (value_of scene a))
]

equal_or_less_simpler : (bits : List ℕ) (strict at_most : BinOp) → IsOrder strict at_most → (p q o : Expr) → equal_or_less strict at_most p q ≡ Some o
    → IsSimplerUnder bits (Binary Or 1 p q) o
equal_or_less_simpler bits strict at_most order (Binary f w x y) (Binary g v a b) o e =
    let t = told (same_binary f Eq && same_binary g strict && w == v && are_same_two x y a b) (Binary at_most v a b) o e in
    let three = both (same_binary f Eq && same_binary g strict && w == v) (are_same_two x y a b) t.0 in
    let two = both (same_binary f Eq && same_binary g strict) (w == v) three.0 in
    let one = both (same_binary f Eq) (same_binary g strict) two.0 in
    subst (λ (k : Expr). IsSimplerUnder bits (Binary Or 1 (Binary f w x y) (Binary g v a b)) k) t.1
    (subst (λ (k : BinOp). IsSimplerUnder bits (Binary Or 1 (Binary k w x y) (Binary g v a b)) (Binary at_most v a b)) (sym (binary_same f Eq one.0))
    (subst (λ (k : BinOp). IsSimplerUnder bits (Binary Or 1 (Binary Eq w x y) (Binary k v a b)) (Binary at_most v a b)) (sym (binary_same g strict one.1))
    (order_simpler bits strict at_most v (Binary Eq w x y) a b order (λ scene. equal_two x y a b scene three.1))))
equal_or_less_simpler bits strict at_most order p q o e = cc

zero_or_negative_simpler : (bits : List ℕ) (p q o : Expr) → zero_or_negative p q ≡ Some o → IsSimplerUnder bits (Binary Or 1 p q) o
zero_or_negative_simpler bits (Unary f w x) (Binary g v y (Const u n)) o e =
    let t = told (same_unary f IsZero && same_binary g LtS && same_expr x y && n == 0) (Binary LeS v y (Const u n)) o e in
    let three = both (same_unary f IsZero && same_binary g LtS && same_expr x y) (n == 0) t.0 in
    let two = both (same_unary f IsZero && same_binary g LtS) (same_expr x y) three.0 in
    let one = both (same_unary f IsZero) (same_binary g LtS) two.0 in
    subst (λ (k : Expr). IsSimplerUnder bits (Binary Or 1 (Unary f w x) (Binary g v y (Const u n))) k) t.1
    (subst (λ (k : UnOp). IsSimplerUnder bits (Binary Or 1 (Unary k w x) (Binary g v y (Const u n))) (Binary LeS v y (Const u n))) (sym (unary_same f IsZero one.0))
    (subst (λ (k : BinOp). IsSimplerUnder bits (Binary Or 1 (Unary IsZero w x) (Binary k v y (Const u n))) (Binary LeS v y (Const u n))) (sym (binary_same g LtS one.1))
    (order_simpler bits LtS LeS v (Unary IsZero w x) y (Const u n) signed (λ scene.
    ap (λ (z : Expr). from_bool (value_of scene z == 0)) (expr_same x y two.1) ∙ ap (λ k. from_bool (value_of scene y == k)) (sym (eqb-true n 0 three.1))))))
zero_or_negative_simpler bits p q o e = cc

either_rest : (bits : List ℕ) (a b o : Expr) (joined : Expr → Expr → Option Expr) → ((p q r : Expr) → joined p q ≡ Some r → IsSimplerUnder bits (Binary Or 1 p q) r)
    → (p q : Option Expr) → joined a b ≡ p → joined b a ≡ q → option_or p q ≡ Some o → IsSimplerUnder bits (Binary Or 1 a b) o
either_rest bits a b o joined law (Some x) q is_p is_q e = let got : x ≡ o = cc in law a b o (is_p ∙ ap (λ y. Some y) got)
either_rest bits a b o joined law None q is_p is_q e = turned_operands bits Or 1 a b o refl or_comm (law b a o (is_q ∙ e))

either_simpler : (bits : List ℕ) (joined : Expr → Expr → Option Expr) → ((p q r : Expr) → joined p q ≡ Some r → IsSimplerUnder bits (Binary Or 1 p q) r)
    → (e o : Expr) → either_test joined e ≡ Some o → IsSimplerUnder bits e o
either_simpler bits joined law (Binary k v a b) o e =
    let t = chosen (same_binary k Or && v == 1) (option_or (joined a b) (joined b a)) o e in
    let p = both (same_binary k Or) (v == 1) t.0 in
    subst (λ (m : BinOp). IsSimplerUnder bits (Binary m v a b) o) (sym (binary_same k Or p.0))
    (subst (λ m. IsSimplerUnder bits (Binary Or m a b) o) (sym (eqb-true v 1 p.1)) (either_rest bits a b o joined law (joined a b) (joined b a) refl refl t.1))
either_simpler bits joined law e o is = cc

pub meets_42 : (bits : List ℕ) (e : Expression) (r : Answer) → Gives r (either_test (equal_or_less LtS LeS) (expr_of e)) → MeetsRuleUnder 42 bits e r
meets_42 bits e r h =
    meets_given 42 bits e r (either_test (equal_or_less LtS LeS) (expr_of e)) (omega arith)
    (either_simpler bits (equal_or_less LtS LeS) (equal_or_less_simpler bits LtS LeS signed) (expr_of e)) h

pub meets_43 : (bits : List ℕ) (e : Expression) (r : Answer) → Gives r (either_test (equal_or_less LtU LeU) (expr_of e)) → MeetsRuleUnder 43 bits e r
meets_43 bits e r h =
    meets_given 43 bits e r (either_test (equal_or_less LtU LeU) (expr_of e)) (omega arith)
    (either_simpler bits (equal_or_less LtU LeU) (equal_or_less_simpler bits LtU LeU unsigned) (expr_of e)) h

pub meets_61 : (bits : List ℕ) (e : Expression) (r : Answer) → Gives r (either_test zero_or_negative (expr_of e)) → MeetsRuleUnder 61 bits e r
meets_61 bits e r h =
    meets_given 61 bits e r (either_test zero_or_negative (expr_of e)) (omega arith) (either_simpler bits zero_or_negative (zero_or_negative_simpler bits) (expr_of e)) h

-- Sums and differences that undo each other.

sum_undone : (m a c : ℕ) → a < m → c < m → ((a + c) % m + m - c) % m ≡ a
sum_undone m a c s t =
    ap (λ k. k % m) (minus ((a + c) % m) m c t) ∙ mod-add-mod (a + c) m (m - c) ∙ ap (λ k. k % m) (back a m c t) ∙ add-mod_right a m ∙ mod-eq_of_lt s
  where
    minus : (n m c : ℕ) → c < m → n + m - c ≡ n + (m - c)
    minus n m c t = omega (arith, t)

    back : (a m c : ℕ) → c < m → a + c + (m - c) ≡ a + m
    back a m c t = omega (arith, t)

difference_undone : (m a c : ℕ) → a < m → c < m → ((a + m - c) % m + c) % m ≡ a
difference_undone m a c s t = mod-add-mod (a + m - c) m c ∙ ap (λ k. k % m) (back a m c t) ∙ add-mod_right a m ∙ mod-eq_of_lt s
  where
    back : (a m c : ℕ) → c < m → a + m - c + c ≡ a + m
    back a m c t = omega (arith, t)

-- an operator that undoes another one on numbers of a width
record Undoes (f g : BinOp) : Type 0 where
  first : is_comparison f ≡ false
  plain : is_comparison g ≡ false
  fits : (w a c : ℕ) → binary_value g w a c < 2 ^ w
  there : (w a c : ℕ) → a < 2 ^ w → c < 2 ^ w → binary_value g w (binary_value f w a c) c ≡ a
  back : (w a c : ℕ) → a < 2 ^ w → c < 2 ^ w → binary_value f w (binary_value g w a c) c ≡ a

undoes : (f g : BinOp) → undoing f ≡ Some g → Undoes f g
undoes Add g e =
    let is : Sub ≡ g = cc in
    subst (λ (k : BinOp). Undoes Add k) is (record {
      first = refl;
      plain = refl;
      fits = λ w a c. mod_below (a + 2 ^ w - c) (2 ^ w) (pow_pos w);
      there = λ w a c s t. sum_undone (2 ^ w) a c s t;
      back = λ w a c s t. difference_undone (2 ^ w) a c s t;
    })
undoes Sub g e =
    let is : Add ≡ g = cc in
    subst (λ (k : BinOp). Undoes Sub k) is (record {
      first = refl;
      plain = refl;
      fits = λ w a c. mod_below (a + c) (2 ^ w) (pow_pos w);
      there = λ w a c s t. difference_undone (2 ^ w) a c s t;
      back = λ w a c s t. sum_undone (2 ^ w) a c s t;
    })
undoes f g e = cc

-- a number below the power of its width is a well-formed constant
pub formed_number : (bits : List ℕ) (w n : ℕ) → is_width w ≡ true → n < 2 ^ w → is_expr bits (Const w n) ≡ true
formed_number bits w n width few = both_hold (is_width w) (nat_lt n (2 ^ w)) width (lt-ltb n (2 ^ w) few)

-- a well-formed constant's number is below the power of its width
pub number_fits : (bits : List ℕ) (w u c : ℕ) → is_expr bits (Const u c) ≡ true → u ≡ w → c < 2 ^ w
number_fits bits w u c ok is = subst (λ k. c < 2 ^ k) is (ltb-true c (2 ^ u) (both (is_width u) (nat_lt c (2 ^ u)) ok).1)

after_sum_at : (bits : List ℕ) (f g : BinOp) (w v u t c d : ℕ) (x : Expr) → Undoes f g
    → IsSimplerUnder bits (Binary Eq w (Binary f v x (Const u c)) (Const t d)) (Binary Eq w x (Const w (binary_value g w d c)))
after_sum_at bits f g w v u t c d x h = record {
  meaning = λ widths ok.
      let outer = operated bits Eq w (Binary f v x (Const u c)) (Const t d) ok in
      let inner = operated bits f v x (Const u c) outer.left in
      let same : v ≡ w = sym (ap (λ b. if b then 1 else v) h.first) ∙ outer.left_width in
      let left : width_of bits x ≡ w = inner.left_width ∙ same in
      let small_c : c < 2 ^ w = number_fits bits w u c inner.right (inner.right_width ∙ same) in
      let small_d : d < 2 ^ w = number_fits bits w t d outer.right outer.right_width in
      record {
        formed = formed_two bits Eq w x (Const w (binary_value g w d c)) refl
            (record { width = outer.width; left = inner.left; right = formed_number bits w (binary_value g w d c) outer.width (h.fits w d c); left_width = left; right_width = refl });
        width = refl;
        value = λ scene is fits.
            let a = value_of scene x in
            let small : a < 2 ^ w = fits_in bits w x inner.left left scene is fits in
            ap from_bool (one_test a (binary_value g w d c) (binary_value f v a c) d
            (λ e. ap (λ k. binary_value f k a c) same ∙ ap (λ k. binary_value f w k c) e ∙ h.back w d c small_d small_c)
            (λ e. sym (h.there w a c small small_c) ∙ ap (λ k. binary_value g w (binary_value f k a c) c) (sym same) ∙ ap (λ k. binary_value g w k c) e));
      };
  nodes = omega (arith, beside_constant_nodes Eq w w (binary_value g w d c) x, beside_constant_nodes Eq w t d (Binary f v x (Const u c)), beside_constant_nodes f v u c x);
  adds =
      let given : Expr = Binary Eq w (Binary f v x (Const u c)) (Const t d) in
      let left : IsWithin given (Binary f v x (Const u c)) = within_left Eq w (Binary f v x (Const u c)) (Const t d) in
      let x_in : IsWithin given x = within_through given (Binary f v x (Const u c)) x left (within_left f v x (Const u c)) in
      let number : IsWithin given (Const w (binary_value g w d c)) = constant_within given w (binary_value g w d c) (binary_nodes Eq w (Binary f v x (Const u c)) (Const t d)) in
      beside given x (Const w (binary_value g w d c)) Eq w x_in number (omega arith)
      (omega (arith, truths_of_two Eq w x (Const w (binary_value g w d c)), truths_of_two Eq w (Binary f v x (Const u c)) (Const t d), truths_of_two f v x (Const u c)));
}

after_sum_simpler : (bits : List ℕ) (e o : Expr) → equal_after_sum e ≡ Some o → IsSimplerUnder bits e o
after_sum_simpler bits (Binary k w (Binary f v x (Const u c)) (Const t d)) o e =
    let p = chosen (same_binary k Eq && is_width w) (option_map (λ g. Binary Eq w x (Const w (binary_value g w d c))) (undoing f)) o e in
    let one = both (same_binary k Eq) (is_width w) p.0 in
    let m = mapped (λ g. Binary Eq w x (Const w (binary_value g w d c))) (undoing f) o p.1 in
    subst (λ (y : Expr). IsSimplerUnder bits (Binary k w (Binary f v x (Const u c)) (Const t d)) y) m.2
    (subst (λ (h : BinOp). IsSimplerUnder bits (Binary h w (Binary f v x (Const u c)) (Const t d)) (Binary Eq w x (Const w (binary_value m.0 w d c)))) (sym (binary_same k Eq one.0))
    (after_sum_at bits f m.0 w v u t c d x (undoes f m.0 m.1)))
after_sum_simpler bits e o is = cc

pub meets_48 : (bits : List ℕ) (e : Expression) (r : Answer) → Gives r (equal_after_sum (expr_of e)) → MeetsRuleUnder 48 bits e r
meets_48 bits e r h = meets_given 48 bits e r (equal_after_sum (expr_of e)) (omega arith) (after_sum_simpler bits (expr_of e)) h

-- What is 0.

-- a well-formed operator that is 0 just where two expressions are equal, of which the second is its right operand or a constant
zero_at : (bits : List ℕ) (f : BinOp) (v w : ℕ) (x y z : Expr) → is_comparison f ≡ false
    → (is_expr bits y ≡ true → width_of bits y ≡ w → (is_expr bits z ≡ true) × (width_of bits z ≡ w))
    → IsWithin (Unary IsZero v (Binary f w x y)) z → nodes_of z ≤ nodes_of y → depth_of z ≤ depth_of y → truths_of z ≤ truths_of y
    → ((scene : Environment) → value_of scene x < 2 ^ w → value_of scene y < 2 ^ w → (binary_value f w (value_of scene x) (value_of scene y) == 0) ≡ (value_of scene x == value_of scene z))
    → IsSimplerUnder bits (Unary IsZero v (Binary f w x y)) (Binary Eq w x z)
zero_at bits f v w x y z plain keeps in_z few_nodes shallow few_truths law =
    let given : Expr = Unary IsZero v (Binary f w x y) in
    let in_x : IsWithin given x = within_through given (Binary f w x y) x (within_unary IsZero v (Binary f w x y)) (within_left f w x y) in
    record {
      meaning = λ widths ok.
          let o = operated bits f w x y (unary_parts bits IsZero v (Binary f w x y) ok).operand in
          let k = keeps o.right o.right_width in
          record {
            formed = formed_two bits Eq w x z refl (record { width = o.width; left = o.left; right = k.0; left_width = o.left_width; right_width = k.1 });
            width = refl;
            value = λ scene is fits.
                ap from_bool (sym (law scene (fits_in bits w x o.left o.left_width scene is fits) (fits_in bits w y o.right o.right_width scene is fits)));
          };
      nodes = omega (arith, few_nodes, nodes_of_two f w x y, nodes_of_two Eq w x z);
      adds = beside given x z Eq w in_x in_z (omega (arith, shallow))
          (omega (arith, few_truths, truths_of_two f w x y, truths_of_two Eq w x z, truths_of_one IsZero v (Binary f w x y)));
    }

-- the right operand itself
zero_of_two : (bits : List ℕ) (f : BinOp) (v w : ℕ) (x y : Expr) → is_comparison f ≡ false
    → ((a b : ℕ) → a < 2 ^ w → b < 2 ^ w → (binary_value f w a b == 0) ≡ (a == b)) → IsSimplerUnder bits (Unary IsZero v (Binary f w x y)) (Binary Eq w x y)
zero_of_two bits f v w x y plain law =
    zero_at bits f v w x y y plain (λ ok is. (ok, is))
    (within_through (Unary IsZero v (Binary f w x y)) (Binary f w x y) y (within_unary IsZero v (Binary f w x y)) (within_right f w x y)) (omega arith) (omega arith) (omega arith)
    (λ scene s t. law (value_of scene x) (value_of scene y) s t)

zero_plus : (n : ℕ) → 0 + n ≡ n
zero_plus n = omega arith

no_difference : (m a b : ℕ) → a < m → b < m → ((a + m - b) % m == 0) ≡ (a == b)
no_difference m a b s t = one_test ((a + m - b) % m) 0 a b
    (λ e. sym (difference_undone m a b s t) ∙ ap (λ k. (k + b) % m) e ∙ ap (λ k. k % m) (zero_plus b) ∙ mod-eq_of_lt t)
    (λ e. ap (λ k. (k + m - b) % m) e ∙ ap (λ k. k % m) (same b m) ∙ mod_self m)
  where
    same : (b m : ℕ) → b + m - b ≡ m
    same b m = omega arith

no_xor : (a b : ℕ) → (bit_xor a b == 0) ≡ (a == b)
no_xor a b = one_test (bit_xor a b) 0 a b
    (λ e. sym (xor_zero_r a) ∙ ap (λ k. bit_xor a k) (sym (xor_self b)) ∙ sym (xor_assoc a b b) ∙ ap (λ k. bit_xor k b) e ∙ xor_zero_l b)
    (λ e. ap (λ k. bit_xor k b) e ∙ xor_self b)

no_sum : (m a c : ℕ) → a < m → c < m → ((a + c) % m == 0) ≡ (a == (m - c) % m)
no_sum m a c s t = one_test ((a + c) % m) 0 a ((m - c) % m)
    (λ e. sym (sum_undone m a c s t) ∙ ap (λ k. (k + m - c) % m) e ∙ ap (λ k. (k - c) % m) (zero_plus m))
    (λ e. ap (λ k. (k + c) % m) e ∙ mod-add-mod (m - c) m c ∙ ap (λ k. k % m) (same m c t) ∙ mod_self m)
  where
    same : (m c : ℕ) → c < m → m - c + c ≡ m
    same m c t = omega (arith, t)

zero_sum : (bits : List ℕ) (v w : ℕ) (x y o : Expr) → equal_to_negative w x y ≡ Some o → IsSimplerUnder bits (Unary IsZero v (Binary Add w x y)) o
zero_sum bits v w x (Const u c) o e =
    let t = told (is_width w) (equality w x (Const w (unary_value Neg w c))) o e in
    let given : Expr = Unary IsZero v (Binary Add w x (Const u c)) in
    let small : (2 ^ w - c) % 2 ^ w < 2 ^ w = mod_below (2 ^ w - c) (2 ^ w) (pow_pos w) in
    subst (λ (y : Expr). IsSimplerUnder bits given y) t.1
    (zero_at bits Add v w x (Const u c) (Const w ((2 ^ w - c) % 2 ^ w)) refl (λ ok is. (formed_number bits w ((2 ^ w - c) % 2 ^ w) t.0 small, refl))
    (constant_within given w ((2 ^ w - c) % 2 ^ w) (unary_nodes IsZero v (Binary Add w x (Const u c)))) (omega arith) (omega arith) (omega arith)
    (λ scene s s'. no_sum (2 ^ w) (value_of scene x) c s s'))
zero_sum bits v w x y o e = cc

zero_operator : (bits : List ℕ) (f : BinOp) (v w : ℕ) (x y o : Expr)
    → (if same_binary f Sub || same_binary f Xor then Some (equality w x y) else if same_binary f Add then equal_to_negative w x y else None) ≡ Some o
    → IsSimplerUnder bits (Unary IsZero v (Binary f w x y)) o
zero_operator bits Sub v w x y o e =
    let is : equality w x y ≡ o = cc in
    subst (λ (z : Expr). IsSimplerUnder bits (Unary IsZero v (Binary Sub w x y)) z) is (zero_of_two bits Sub v w x y refl (λ a b s t. no_difference (2 ^ w) a b s t))
zero_operator bits Xor v w x y o e =
    let is : equality w x y ≡ o = cc in
    subst (λ (z : Expr). IsSimplerUnder bits (Unary IsZero v (Binary Xor w x y)) z) is (zero_of_two bits Xor v w x y refl (λ a b s t. no_xor a b))
zero_operator bits Add v w x y o e = zero_sum bits v w x y o e
zero_operator bits f v w x y o e = cc

zero_difference_simpler : (bits : List ℕ) (e o : Expr) → zero_difference e ≡ Some o → IsSimplerUnder bits e o
zero_difference_simpler bits (Unary h v (Binary f w x y)) o e =
    let t = chosen (same_unary h IsZero && nat_lt 1 v)
    (if same_binary f Sub || same_binary f Xor then Some (equality w x y) else if same_binary f Add then equal_to_negative w x y else None) o e in
    let p = both (same_unary h IsZero) (nat_lt 1 v) t.0 in
    subst (λ (k : UnOp). IsSimplerUnder bits (Unary k v (Binary f w x y)) o) (sym (unary_same h IsZero p.0)) (zero_operator bits f v w x y o t.1)
zero_difference_simpler bits e o is = cc

pub meets_60 : (bits : List ℕ) (e : Expression) (r : Answer) → Gives r (zero_difference (expr_of e)) → MeetsRuleUnder 60 bits e r
meets_60 bits e r h = meets_given 60 bits e r (zero_difference (expr_of e)) (omega arith) (zero_difference_simpler bits (expr_of e)) h

-- A comparison that is 0.

turned_bit : (t : Bool) → from_bool (from_bool t == 0) ≡ 2 ^ 1 - 1 - from_bool t
turned_bit true = refl
turned_bit false = refl

zero_comparison : (bits : List ℕ) (f g : BinOp) (w : ℕ) (x y : Expr) → opposite_of f ≡ Some g → IsSimplerUnder bits (Unary IsZero 1 (Binary f w x y)) (Binary g w y x)
zero_comparison bits LtS g w x y e =
    let is : LeS ≡ g = cc in
    subst (λ (k : BinOp). IsSimplerUnder bits (Unary IsZero 1 (Binary LtS w x y)) (Binary k w y x)) is
    (opposite_at bits IsZero LtS LeS w x y less_opposite (λ a b. turned_bit (int_lt (signed_at w a) (signed_at w b))))
zero_comparison bits LtU g w x y e =
    let is : LeU ≡ g = cc in
    subst (λ (k : BinOp). IsSimplerUnder bits (Unary IsZero 1 (Binary LtU w x y)) (Binary k w y x)) is
    (opposite_at bits IsZero LtU LeU w x y less_opposite_unsigned (λ a b. turned_bit (nat_lt a b)))
zero_comparison bits LeS g w x y e =
    let is : LtS ≡ g = cc in
    subst (λ (k : BinOp). IsSimplerUnder bits (Unary IsZero 1 (Binary LeS w x y)) (Binary k w y x)) is
    (opposite_at bits IsZero LeS LtS w x y at_most_opposite (λ a b. turned_bit (int_le (signed_at w a) (signed_at w b))))
zero_comparison bits LeU g w x y e =
    let is : LtU ≡ g = cc in
    subst (λ (k : BinOp). IsSimplerUnder bits (Unary IsZero 1 (Binary LeU w x y)) (Binary k w y x)) is
    (opposite_at bits IsZero LeU LtU w x y at_most_opposite_unsigned (λ a b. turned_bit (nat_le a b)))
zero_comparison bits f g w x y e = cc

zero_truth_simpler : (bits : List ℕ) (e o : Expr) → zero_truth e ≡ Some o → IsSimplerUnder bits e o
zero_truth_simpler bits (Unary h v (Binary f w x y)) o e =
    let t = chosen (same_unary h IsZero && v == 1) (option_map (λ g. Binary g w y x) (opposite_of f)) o e in
    let p = both (same_unary h IsZero) (v == 1) t.0 in
    let m = mapped (λ g. Binary g w y x) (opposite_of f) o t.1 in
    subst (λ (z : Expr). IsSimplerUnder bits (Unary h v (Binary f w x y)) z) m.2
    (subst (λ (k : UnOp). IsSimplerUnder bits (Unary k v (Binary f w x y)) (Binary m.0 w y x)) (sym (unary_same h IsZero p.0))
    (subst (λ k. IsSimplerUnder bits (Unary IsZero k (Binary f w x y)) (Binary m.0 w y x)) (sym (eqb-true v 1 p.1)) (zero_comparison bits f m.0 w x y m.1)))
zero_truth_simpler bits e o is = cc

pub meets_62 : (bits : List ℕ) (e : Expression) (r : Answer) → Gives r (zero_truth (expr_of e)) → MeetsRuleUnder 62 bits e r
meets_62 bits e r h = meets_given 62 bits e r (zero_truth (expr_of e)) (omega arith) (zero_truth_simpler bits (expr_of e)) h
