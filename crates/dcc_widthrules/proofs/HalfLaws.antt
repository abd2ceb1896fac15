-- The rules on widened and joined expressions.
use Rattle.std.proofs.Common.{◌≡◌, ℕ, suc, ◌+◌, ◌-◌, ◌*◌, ◌/◌, ◌%◌, ◌^◌, ◌<◌, ◌≤◌, Bool, true, false, ◌&&◌, ◌||◌, not, ◌⊎◌, inl, inr, List, Option, Some, None, refl, sym, ap, ◌∙◌, subst, arith, length-append, true≢false, eqb-true, ltb-true, lit<}
use Rattle.std.specs.Prelude.{if◌then◌else◌, ◌==◌, nat_lt}
use Rattle.std.specs.Option.{option_or}
use Rattle.std.proofs.lemmas.Nat.{pow_pos, mod_below}
use Rattle.std.specs.Int.Bits.{or_zero_r, xor_zero_r}
use Rattle.dcc_ir.specs.declared.syntax.Expr.{Expr as Expression}
use Rattle.dcc_ir.specs.declared.syntax.BinOp.{BinOp}
use Rattle.dcc_ir.specs.declared.syntax.BinOp.TheVariants.{And, Or, Xor}
use Rattle.dcc_ir.specs.Views.{expr_of}
use Rattle.dcc_ir.specs.Tree.{Expr, Const, Binary, Widen, Part, Join}
use Rattle.dcc_ir.specs.Value.{is_comparison, width_of, binary_value, Environment, value_of}
use Rattle.dcc_ir.specs.WellFormed.{is_division, is_expr}
use Rattle.dcc_ir.specs.Use.{parts_of}
use Rattle.dcc_ir.specs.Measure.{nodes_of, depth_of}
use Rattle.dcc_ir.specs.Forms.{same_expr}
use Rattle.dcc_ir.proofs.FitLaws.{both}
use Rattle.dcc_rules.specs.Simpler.{IsSimplerUnder}
use Rattle.dcc_rules.specs.Rules.{MeetsRuleUnder}
use Rattle.dcc_stdrules.proofs.SameLaws.{expr_same}
use Rattle.dcc_stdrules.proofs.NumberLaws.{and_ones}
use Rattle.dcc_stdrules.proofs.WithinLaws.{IsWithin, within_through, within_part, within_widen, within_high, within_low, is_deep, beside_constant, beside_constant_nodes}
use Rattle.dcc_stdrules.proofs.OperandLaws.{Answer, operated, fits_in}
use Rattle.dcc_stdrules.proofs.HalfLaws.{simpler_within, part_parts, join_parts, widen_parts, narrowed_value}
use Rattle.dcc_morerules.specs.Further.{Gives}
use Rattle.dcc_morerules.proofs.SizeLaws.{formed_two}
use Rattle.dcc_morerules.proofs.GivenLaws.{meets_given, told}
use Rattle.dcc_morerules.proofs.TestLaws.{formed_number}
use Rattle.dcc_widthrules.specs.Halves.{widened_once, joined_widened, joined_neighbours, is_bitwise, word_of, changed_half, changed_word}
use Rattle.dcc_widthrules.proofs.BitLaws.{widened, widened_again, halves, neighbours, block_law}
use Rattle.dcc_widthrules.proofs.PartLaws.{part_bound, formed_part, formed_widened, in_scene, from_lowest}

-- Widened twice.

once_at : (bits : List ℕ) (signed signed' : Bool) (w u : ℕ) (x : Expr) → (not signed' || signed) ≡ true
    → IsSimplerUnder bits (Widen signed w (Widen signed' u x)) (Widen signed' w x)
once_at bits signed signed' w u x t =
    let p = within_widen signed' u x in
    let within : IsWithin (Widen signed w (Widen signed' u x)) (Widen signed' w x) = record {
      nodes = omega (arith, p.nodes);
      adds = record { depth = omega (arith, p.adds.depth); truths = p.adds.truths; reads = p.adds.reads; addresses = p.adds.addresses };
    } in
    simpler_within bits (Widen signed w (Widen signed' u x)) (Widen signed' w x) within (λ widths ok.
    let outer = widen_parts bits signed w (Widen signed' u x) ok in
    let inner = widen_parts bits signed' u x outer.operand in
    let less : width_of bits x < u = ltb-true (width_of bits x) u inner.narrower in
    let more : u < w = ltb-true u w outer.narrower in
    record {
      formed = formed_widened bits signed' w x outer.width inner.operand (omega (arith, less, more));
      width = refl;
      value = λ scene is fits.
          let a = value_of scene x in
          in_scene bits scene (λ k. widened signed' w k a) x is
          ∙ widened_again signed signed' w u (width_of bits x) a t less more (fits_in bits (width_of bits x) x inner.operand refl scene is fits)
          ∙ sym (in_scene bits scene (λ k. widened signed w u (widened signed' u k a)) x is);
    })

widened_once_simpler : (bits : List ℕ) (e o : Expr) → widened_once e ≡ Some o → IsSimplerUnder bits e o
widened_once_simpler bits (Widen signed w (Widen signed' u x)) o e =
    let t = told (not signed' || signed) (Widen signed' w x) o e in
    subst (λ (z : Expr). IsSimplerUnder bits (Widen signed w (Widen signed' u x)) z) t.1 (once_at bits signed signed' w u x t.0)
widened_once_simpler bits e o is = cc

pub meets_53 : (bits : List ℕ) (e : Expression) (r : Answer) → Gives r (widened_once (expr_of e)) → MeetsRuleUnder 53 bits e r
meets_53 bits e r h = meets_given 53 bits e r (widened_once (expr_of e)) (omega arith) (widened_once_simpler bits (expr_of e)) h

-- The upper half of a widened expression beside the expression.

joined_at : (bits : List ℕ) (w : ℕ) (signed : Bool) (x : Expr) → width_of bits x ≡ w → IsSimplerUnder bits (Join (Part w w (Widen signed (w + w) x)) x) (Widen signed (w + w) x)
joined_at bits w signed x all =
    let whole : Expr = Widen signed (w + w) x in
    let given : Expr = Join (Part w w whole) x in
    simpler_within bits given whole (within_through given (Part w w whole) whole (within_high (Part w w whole) x) (within_part w w whole)) (λ widths ok.
    let j = join_parts bits (Part w w whole) x ok in
    let outer = part_parts bits w w whole j.high in
    let inner = widen_parts bits signed (w + w) x outer.operand in
    let less : width_of bits x < w + w = ltb-true (width_of bits x) (w + w) inner.narrower in
    record {
      formed = outer.operand;
      width = sym (ap (λ k. w + k) all);
      value = λ scene is fits.
          let a = value_of scene x in
          let n = value_of scene whole in
          let low : n % 2 ^ w ≡ a =
          in_scene bits scene (λ k. widened signed (w + w) k a % 2 ^ w) x is ∙ ap (λ k. widened signed (w + w) k a % 2 ^ w) all
          ∙ narrowed_value signed w (w + w) a (omega arith) (fits_in bits w x inner.operand all scene is fits) in
          halves n w (fits_in bits (w + w) whole outer.operand refl scene is fits) ∙ ap (λ k. n / 2 ^ w % 2 ^ w * 2 ^ w + k) low
          ∙ sym (in_scene bits scene (λ k. n / 2 ^ w % 2 ^ w * 2 ^ k + a) x is ∙ ap (λ k. n / 2 ^ w % 2 ^ w * 2 ^ k + a) all);
    })

joined_widened_simpler : (bits : List ℕ) (e o : Expr) → joined_widened bits e ≡ Some o → IsSimplerUnder bits e o
joined_widened_simpler bits (Join (Part w n (Widen signed v x)) y) o e =
    let t = told (same_expr x y && width_of bits y == w && n == w && v == w + w) (Widen signed v x) o e in
    let three = both (same_expr x y && width_of bits y == w && n == w) (v == w + w) t.0 in
    let two = both (same_expr x y && width_of bits y == w) (n == w) three.0 in
    let one = both (same_expr x y) (width_of bits y == w) two.0 in
    let same : x ≡ y = expr_same x y one.0 in
    let all : width_of bits x ≡ w = ap (width_of bits) same ∙ eqb-true (width_of bits y) w one.1 in
    subst (λ (z : Expr). IsSimplerUnder bits (Join (Part w n (Widen signed v x)) y) z) t.1
    (subst (λ (z : Expr). IsSimplerUnder bits (Join (Part w n (Widen signed v x)) z) (Widen signed v x)) same
    (subst (λ k. IsSimplerUnder bits (Join (Part w k (Widen signed v x)) x) (Widen signed v x)) (sym (eqb-true n w two.1))
    (subst (λ k. IsSimplerUnder bits (Join (Part w w (Widen signed k x)) x) (Widen signed k x)) (sym (eqb-true v (w + w) three.1)) (joined_at bits w signed x all))))
joined_widened_simpler bits e o is = cc

pub meets_55 : (bits : List ℕ) (e : Expression) (r : Answer) → Gives r (joined_widened bits (expr_of e)) → MeetsRuleUnder 55 bits e r
meets_55 bits e r h = meets_given 55 bits e r (joined_widened bits (expr_of e)) (omega arith) (joined_widened_simpler bits (expr_of e)) h

-- Neighbouring bytes.

neighbours_at : (bits : List ℕ) (m : ℕ) (x : Expr) → IsSimplerUnder bits (Join (Part 8 (m + 8) x) (Part 8 m x)) (Part 16 m x)
neighbours_at bits m x =
    let given : Expr = Join (Part 8 (m + 8) x) (Part 8 m x) in
    let p : IsWithin given (Part 8 m x) = within_low (Part 8 (m + 8) x) (Part 8 m x) in
    let within : IsWithin given (Part 16 m x) = record {
      nodes = omega (arith, p.nodes);
      adds = record { depth = omega (arith, p.adds.depth); truths = p.adds.truths; reads = p.adds.reads; addresses = p.adds.addresses };
    } in
    simpler_within bits given (Part 16 m x) within (λ widths ok.
    let j = join_parts bits (Part 8 (m + 8) x) (Part 8 m x) ok in
    let high = part_parts bits 8 (m + 8) x j.high in
    let bound : m + 8 + 8 ≤ width_of bits x = part_bound bits 8 (m + 8) x j.high in
    record {
      formed = formed_part bits 16 m x refl high.operand (omega (arith, bound));
      width = refl;
      value = λ scene is fits. neighbours (value_of scene x) m;
    })

joined_neighbours_simpler : (bits : List ℕ) (e o : Expr) → joined_neighbours bits e ≡ Some o → IsSimplerUnder bits e o
joined_neighbours_simpler bits (Join (Part w n x) (Part v m y)) o e =
    let t = told (same_expr x y && w == 8 && v == 8 && n == m + 8 && nat_lt 16 (width_of bits x)) (Part 16 m x) o e in
    let four = both (same_expr x y && w == 8 && v == 8 && n == m + 8) (nat_lt 16 (width_of bits x)) t.0 in
    let three = both (same_expr x y && w == 8 && v == 8) (n == m + 8) four.0 in
    let two = both (same_expr x y && w == 8) (v == 8) three.0 in
    let one = both (same_expr x y) (w == 8) two.0 in
    subst (λ (z : Expr). IsSimplerUnder bits (Join (Part w n x) (Part v m y)) z) t.1
    (subst (λ (z : Expr). IsSimplerUnder bits (Join (Part w n x) (Part v m z)) (Part 16 m x)) (expr_same x y one.0)
    (subst (λ k. IsSimplerUnder bits (Join (Part k n x) (Part v m x)) (Part 16 m x)) (sym (eqb-true w 8 one.1))
    (subst (λ k. IsSimplerUnder bits (Join (Part 8 n x) (Part k m x)) (Part 16 m x)) (sym (eqb-true v 8 two.1))
    (subst (λ k. IsSimplerUnder bits (Join (Part 8 k x) (Part 8 m x)) (Part 16 m x)) (sym (eqb-true n (m + 8) three.1)) (neighbours_at bits m x)))))
joined_neighbours_simpler bits e o is = cc

pub meets_56 : (bits : List ℕ) (e : Expression) (r : Answer) → Gives r (joined_neighbours bits (expr_of e)) → MeetsRuleUnder 56 bits e r
meets_56 bits e r h = meets_given 56 bits e r (joined_neighbours bits (expr_of e)) (omega arith) (joined_neighbours_simpler bits (expr_of e)) h

-- One byte of a word changed by a number.

bitwise_plain : (f : BinOp) → is_bitwise f ≡ true → (is_comparison f ≡ false) × (is_division f ≡ false)
bitwise_plain And t = (refl, refl)
bitwise_plain Or t = (refl, refl)
bitwise_plain Xor t = (refl, refl)
bitwise_plain f t = absurd (true≢false (sym t))

-- by this byte an operator on bits leaves each byte as it is
rest_of : BinOp → ℕ
rest_of And = 255
rest_of f = 0

rest_stays : (f : BinOp) → is_bitwise f ≡ true → (w a : ℕ) → a < 2 ^ 8 → binary_value f w a (rest_of f) ≡ a
unfolding rest_of
rest_stays And t w a s = and_ones 8 a s
rest_stays Or t w a s = or_zero_r a
rest_stays Xor t w a s = xor_zero_r a
rest_stays f t w a s = absurd (true≢false (sym t))

rest_below : (f : BinOp) → is_bitwise f ≡ true → rest_of f < 2 ^ 8
unfolding rest_of
rest_below And t = lit< tt
rest_below Or t = lit< tt
rest_below Xor t = lit< tt
rest_below f t = absurd (true≢false (sym t))

-- the numbers of the two words
low_word : (f : BinOp) → is_bitwise f ≡ true → (c : ℕ) → word_of f 0 c ≡ rest_of f * 2 ^ 8 + c
unfolding rest_of
low_word And t c = omega arith
low_word Or t c = omega arith
low_word Xor t c = omega arith
low_word f t c = absurd (true≢false (sym t))

high_word : (f : BinOp) → is_bitwise f ≡ true → (c : ℕ) → word_of f 8 c ≡ c * 2 ^ 8 + rest_of f
unfolding rest_of
high_word And t c = omega arith
high_word Or t c = omega arith
high_word Xor t c = omega arith
high_word f t c = absurd (true≢false (sym t))

-- a word is its two bytes
two_bytes : (a : ℕ) → a < 2 ^ 16 → a ≡ a / 2 ^ 8 % 2 ^ 8 * 2 ^ 8 + a / 2 ^ 0 % 2 ^ 8
two_bytes a s = halves a 8 s ∙ ap (λ k. a / 2 ^ 8 % 2 ^ 8 * 2 ^ 8 + k % 2 ^ 8) (sym (from_lowest a))

low_changed : (f : BinOp) → is_bitwise f ≡ true → (a c : ℕ) → a < 2 ^ 16 → c < 2 ^ 8
    → binary_value f 16 a (word_of f 0 c) ≡ a / 2 ^ 8 % 2 ^ 8 * 2 ^ 8 + binary_value f 8 (a / 2 ^ 0 % 2 ^ 8) c
low_changed f t a c s few =
    let h : ℕ = a / 2 ^ 8 % 2 ^ 8 in
    let l : ℕ = a / 2 ^ 0 % 2 ^ 8 in
    ap (λ k. binary_value f 16 k (word_of f 0 c)) (two_bytes a s) ∙ ap (λ k. binary_value f 16 (h * 2 ^ 8 + l) k) (low_word f t c)
    ∙ block_law f t 8 16 16 8 h (rest_of f) l c (mod_below (a / 2 ^ 0) (2 ^ 8) (pow_pos 8)) few
    ∙ ap (λ k. k * 2 ^ 8 + binary_value f 8 l c) (rest_stays f t 16 h (mod_below (a / 2 ^ 8) (2 ^ 8) (pow_pos 8)))

high_changed : (f : BinOp) → is_bitwise f ≡ true → (a c : ℕ) → a < 2 ^ 16 → c < 2 ^ 8
    → binary_value f 16 a (word_of f 8 c) ≡ binary_value f 8 (a / 2 ^ 8 % 2 ^ 8) c * 2 ^ 8 + a / 2 ^ 0 % 2 ^ 8
high_changed f t a c s few =
    let h : ℕ = a / 2 ^ 8 % 2 ^ 8 in
    let l : ℕ = a / 2 ^ 0 % 2 ^ 8 in
    let low : l < 2 ^ 8 = mod_below (a / 2 ^ 0) (2 ^ 8) (pow_pos 8) in
    ap (λ k. binary_value f 16 k (word_of f 8 c)) (two_bytes a s) ∙ ap (λ k. binary_value f 16 (h * 2 ^ 8 + l) k) (high_word f t c)
    ∙ block_law f t 8 16 8 8 h c l (rest_of f) low (rest_below f t) ∙ ap (λ k. binary_value f 8 h c * 2 ^ 8 + k) (rest_stays f t 8 l low)

word_below : (f : BinOp) → is_bitwise f ≡ true → (first c : ℕ) → (first ≡ 0) ⊎ (first ≡ 8) → c < 2 ^ 8 → word_of f first c < 2 ^ 16
word_below f t first c (inl e) few =
    subst (λ k. word_of f k c < 2 ^ 16) (sym e) (subst (λ k. k < 2 ^ 16) (sym (low_word f t c)) (omega (arith, few, rest_below f t)))
word_below f t first c (inr e) few =
    subst (λ k. word_of f k c < 2 ^ 16) (sym e) (subst (λ k. k < 2 ^ 16) (sym (high_word f t c)) (omega (arith, few, rest_below f t)))

-- a word changed by a number, for a Join in which its two bytes stand
changed_at : (bits : List ℕ) (f : BinOp) (first c : ℕ) (x high low : Expr) → is_bitwise f ≡ true → (first ≡ 0) ⊎ (first ≡ 8) → c < 2 ^ 8 → width_of bits x ≡ 16
    → IsWithin (Join high low) x → suc (depth_of x) < depth_of (Join high low) → nodes_of x + 2 < nodes_of (Join high low)
    → (is_expr bits (Join high low) ≡ true → (is_expr bits x ≡ true) × (width_of bits (Join high low) ≡ 16))
    → (is_expr bits (Join high low) ≡ true → (scene : Environment) → scene.bits ≡ bits → value_of scene x < 2 ^ 16
    → binary_value f 16 (value_of scene x) (word_of f first c) ≡ value_of scene (Join high low))
    → IsSimplerUnder bits (Join high low) (Binary f 16 x (Const 16 (word_of f first c)))
changed_at bits f first c x high low t place few all in_x deep large keeps law =
    let plain = bitwise_plain f t in
    record {
      meaning = λ widths ok.
          let k = keeps ok in
          record {
            formed = formed_two bits f 16 x (Const 16 (word_of f first c)) plain.1
                (record { width = refl; left = k.0; right = formed_number bits 16 (word_of f first c) refl (word_below f t first c place few); left_width = all; right_width = refl });
            width = ap (λ b. if b then 1 else 16) plain.0 ∙ sym k.1;
            value = λ scene is fits. law ok scene is (fits_in bits 16 x k.0 all scene is fits);
          };
      nodes = omega (arith, large, beside_constant_nodes f 16 16 (word_of f first c) x);
      adds = beside_constant (Join high low) x f 16 16 (word_of f first c) in_x plain.0 (omega (arith, deep, is_deep x));
    }

nodes_of_join : (a b : Expr) → nodes_of (Join a b) ≡ suc (nodes_of a + nodes_of b)
nodes_of_join a b = ap suc (length-append (parts_of a) (parts_of b))

-- the low byte is changed
low_byte : (bits : List ℕ) (f : BinOp) (u v c : ℕ) (x : Expr) → is_bitwise f ≡ true → c < 2 ^ 8 → width_of bits x ≡ 16
    → IsSimplerUnder bits (Join (Part 8 8 x) (Binary f u (Part 8 0 x) (Const v c))) (Binary f 16 x (Const 16 (word_of f 0 c)))
low_byte bits f u v c x t few all =
    let changed : Expr = Binary f u (Part 8 0 x) (Const v c) in
    let in_x : IsWithin (Join (Part 8 8 x) changed) x =
    within_through (Join (Part 8 8 x) changed) (Part 8 8 x) x (within_high (Part 8 8 x) changed) (within_part 8 8 x) in
    changed_at bits f 0 c x (Part 8 8 x) changed t (inl refl) few all in_x (omega arith)
    (omega (arith, nodes_of_join (Part 8 8 x) changed, beside_constant_nodes f u v c (Part 8 0 x)))
    (λ ok.
    let j = join_parts bits (Part 8 8 x) changed ok in
    ((part_parts bits 8 8 x j.high).operand, ap (λ k. 8 + k) (sym j.alike)))
    (λ ok scene is s.
    let j = join_parts bits (Part 8 8 x) changed ok in
    let inner = operated bits f u (Part 8 0 x) (Const v c) j.low in
    let a = value_of scene x in
    let h : ℕ = a / 2 ^ 8 % 2 ^ 8 in
    let narrow : width_of scene.bits changed ≡ 8 = ap (λ b. if b then 1 else u) (bitwise_plain f t).0 ∙ sym inner.left_width in
    low_changed f t a c s few ∙ ap (λ k. h * 2 ^ 8 + binary_value f k (a / 2 ^ 0 % 2 ^ 8) c) inner.left_width
    ∙ ap (λ k. h * 2 ^ k + binary_value f u (a / 2 ^ 0 % 2 ^ 8) c) (sym narrow))

-- the high byte is changed
high_byte : (bits : List ℕ) (f : BinOp) (u v c : ℕ) (x : Expr) → is_bitwise f ≡ true → c < 2 ^ 8 → width_of bits x ≡ 16
    → IsSimplerUnder bits (Join (Binary f u (Part 8 8 x) (Const v c)) (Part 8 0 x)) (Binary f 16 x (Const 16 (word_of f 8 c)))
high_byte bits f u v c x t few all =
    let changed : Expr = Binary f u (Part 8 8 x) (Const v c) in
    let in_x : IsWithin (Join changed (Part 8 0 x)) x =
    within_through (Join changed (Part 8 0 x)) (Part 8 0 x) x (within_low changed (Part 8 0 x)) (within_part 8 0 x) in
    changed_at bits f 8 c x changed (Part 8 0 x) t (inr refl) few all in_x (omega arith)
    (omega (arith, nodes_of_join changed (Part 8 0 x), beside_constant_nodes f u v c (Part 8 8 x)))
    (λ ok.
    let j = join_parts bits changed (Part 8 0 x) ok in
    ((part_parts bits 8 0 x j.low).operand, ap (λ k. k + 8) j.alike))
    (λ ok scene is s.
    let j = join_parts bits changed (Part 8 0 x) ok in
    let inner = operated bits f u (Part 8 8 x) (Const v c) j.high in
    let a = value_of scene x in
    high_changed f t a c s few ∙ ap (λ k. binary_value f k (a / 2 ^ 8 % 2 ^ 8) c * 2 ^ 8 + a / 2 ^ 0 % 2 ^ 8) inner.left_width)

-- What a changed byte and the other one make, where the other stands above it or below it.

-- the expressions of a changed byte and of the other one, where the test of the form passes
record IsChanged (bits : List ℕ) (first : ℕ) (changed other o : Expr) : Type 0 where
  operator : BinOp
  width : ℕ
  number_width : ℕ
  number : ℕ
  word : Expr
  bitwise : is_bitwise operator ≡ true
  few : number < 2 ^ 8
  all : width_of bits word ≡ 16
  changed_is : changed ≡ Binary operator width (Part 8 first word) (Const number_width number)
  other_is : other ≡ Part 8 (8 - first) word
  made : o ≡ Binary operator 16 word (Const 16 (word_of operator first number))

changed_law : (bits : List ℕ) (first : ℕ) (p q o : Expr) → changed_half bits first p q ≡ Some o → IsChanged bits first p q o
changed_law bits first (Binary f u (Part v m x) (Const t c)) (Part w n y) o e =
    let z = told (is_bitwise f && v == 8 && w == 8 && m == first && n == 8 - first && same_expr x y && width_of bits x == 16 && nat_lt c 256)
    (Binary f 16 x (Const 16 (word_of f first c))) o e in
    let seven = both (is_bitwise f && v == 8 && w == 8 && m == first && n == 8 - first && same_expr x y && width_of bits x == 16) (nat_lt c 256) z.0 in
    let six = both (is_bitwise f && v == 8 && w == 8 && m == first && n == 8 - first && same_expr x y) (width_of bits x == 16) seven.0 in
    let five = both (is_bitwise f && v == 8 && w == 8 && m == first && n == 8 - first) (same_expr x y) six.0 in
    let four = both (is_bitwise f && v == 8 && w == 8 && m == first) (n == 8 - first) five.0 in
    let three = both (is_bitwise f && v == 8 && w == 8) (m == first) four.0 in
    let two = both (is_bitwise f && v == 8) (w == 8) three.0 in
    let one = both (is_bitwise f) (v == 8) two.0 in
    record {
      operator = f;
      width = u;
      number_width = t;
      number = c;
      word = x;
      bitwise = one.0;
      few = ltb-true c 256 seven.1;
      all = eqb-true (width_of bits x) 16 six.1;
      changed_is =
          ap (λ k. Binary f u (Part k m x) (Const t c)) (eqb-true v 8 one.1) ∙ ap (λ k. Binary f u (Part 8 k x) (Const t c)) (eqb-true m first three.1);
      other_is =
          ap (λ k. Part k n y) (eqb-true w 8 two.1) ∙ ap (λ k. Part 8 k y) (eqb-true n (8 - first) four.1) ∙ ap (λ (k : Expr). Part 8 (8 - first) k) (sym (expr_same x y five.1));
      made = sym z.1;
    }
changed_law bits first p q o e = cc

low_chosen : (bits : List ℕ) (a b o : Expr) → IsChanged bits 0 b a o → IsSimplerUnder bits (Join a b) o
low_chosen bits a b o h =
    subst (λ (z : Expr). IsSimplerUnder bits (Join a b) z) (sym h.made)
    (subst (λ (z : Expr). IsSimplerUnder bits (Join z b) (Binary h.operator 16 h.word (Const 16 (word_of h.operator 0 h.number)))) (sym h.other_is)
    (subst (λ (z : Expr). IsSimplerUnder bits (Join (Part 8 8 h.word) z) (Binary h.operator 16 h.word (Const 16 (word_of h.operator 0 h.number)))) (sym h.changed_is)
    (low_byte bits h.operator h.width h.number_width h.number h.word h.bitwise h.few h.all)))

high_chosen : (bits : List ℕ) (a b o : Expr) → IsChanged bits 8 a b o → IsSimplerUnder bits (Join a b) o
high_chosen bits a b o h =
    subst (λ (z : Expr). IsSimplerUnder bits (Join a b) z) (sym h.made)
    (subst (λ (z : Expr). IsSimplerUnder bits (Join a z) (Binary h.operator 16 h.word (Const 16 (word_of h.operator 8 h.number)))) (sym h.other_is)
    (subst (λ (z : Expr). IsSimplerUnder bits (Join z (Part 8 0 h.word)) (Binary h.operator 16 h.word (Const 16 (word_of h.operator 8 h.number)))) (sym h.changed_is)
    (high_byte bits h.operator h.width h.number_width h.number h.word h.bitwise h.few h.all)))

either_byte : (bits : List ℕ) (a b o : Expr) (p q : Option Expr) → changed_half bits 0 b a ≡ p → changed_half bits 8 a b ≡ q → option_or p q ≡ Some o
    → IsSimplerUnder bits (Join a b) o
either_byte bits a b o (Some r) q is_p is_q e = low_chosen bits a b o (changed_law bits 0 b a o (is_p ∙ e))
either_byte bits a b o None q is_p is_q e = high_chosen bits a b o (changed_law bits 8 a b o (is_q ∙ e))

changed_word_simpler : (bits : List ℕ) (e o : Expr) → changed_word bits e ≡ Some o → IsSimplerUnder bits e o
changed_word_simpler bits (Join a b) o e = either_byte bits a b o (changed_half bits 0 b a) (changed_half bits 8 a b) refl refl e
changed_word_simpler bits e o is = cc

pub meets_66 : (bits : List ℕ) (e : Expression) (r : Answer) → Gives r (changed_word bits (expr_of e)) → MeetsRuleUnder 66 bits e r
meets_66 bits e r h = meets_given 66 bits e r (changed_word bits (expr_of e)) (omega arith) (changed_word_simpler bits (expr_of e)) h
