-- The rules on operators in a row, halves, widths and choices.
use Rattle.std.proofs.Common.{◌≡◌, ℕ, suc, ◌+◌, ◌-◌, ◌*◌, ◌/◌, ◌%◌, ◌^◌, ◌<◌, ◌≤◌, Bool, true, false, ◌&&◌, ◌||◌, not, List, Result, Option, refl, sym, ap, ◌∙◌, subst, arith, true≢false, eqb-true, ltb-true, lit<, pos}
use Rattle.std.specs.Prelude.{if◌then◌else◌, ◌==◌, nat_lt, nat_le, ◌-ℤ◌}
use Rattle.std.proofs.Math.Nat.{mod-eq_of_lt, pow-le-pow_right}
use Rattle.std.proofs.lemmas.Nat.{pow_pos, pow-add, div-mul-add, mod-mul-add, shr_split, div_below}
use Rattle.dcc_ir.specs.declared.syntax.Expr.{Expr as Expression}
use Rattle.dcc_ir.specs.declared.syntax.UnOp.{UnOp}
use Rattle.dcc_ir.specs.declared.syntax.UnOp.TheVariants.{Neg, Not, IsZero}
use Rattle.dcc_ir.specs.Views.{expr_of}
use Rattle.dcc_ir.specs.Tree.{Expr, Const, Get, Load, Unary, Binary, Widen, Part, Join, Choose, Address}
use Rattle.dcc_ir.specs.Value.{is_test, width_of, signed_at, pattern_at, unary_value, Environment, value_of, Fits}
use Rattle.dcc_ir.specs.WellFormed.{is_width, is_expr}
use Rattle.dcc_ir.specs.Forms.{same_unary, same_expr, is_constant, is_twice, is_choice_by_constant}
use Rattle.dcc_ir.proofs.FitLaws.{both}
use Rattle.dcc_rules.specs.Simpler.{MeansSame, KeepsMeaning, IsSimplerUnder}
use Rattle.dcc_rules.specs.Forms.{is_low_half, is_high_half, is_joined_again, is_whole, is_narrowed_again}
use Rattle.dcc_rules.specs.Rules.{MeetsRuleUnder}
use Rattle.dcc_stdrules.specs.Rewriting.{Answers, twice_below, part_of, low_of_part, high_of_part, halved, widened_in, chosen_in}
use Rattle.dcc_stdrules.proofs.SameLaws.{unary_same, expr_same}
use Rattle.dcc_stdrules.proofs.WithinLaws.{IsWithin, within_through, within_unary, within_widen, within_part, within_high, within_low, within_one, within_other}
use Rattle.dcc_stdrules.proofs.FormLaws.{call_meets}
use Rattle.dcc_stdrules.proofs.NumberLaws.{below, not_twice, neg_twice}
use Rattle.dcc_stdrules.proofs.OperandLaws.{Answer, fits_in}

-- what stands in the expression and means the same is simpler
pub simpler_within : (bits : List ℕ) (given other : Expr) → IsWithin given other → KeepsMeaning bits given other → IsSimplerUnder bits given other
simpler_within bits given other within keeps = record { meaning = keeps; nodes = within.nodes; adds = within.adds }

-- Operators twice in a row.

pub record UnaryParts (bits : List ℕ) (w : ℕ) (a : Expr) : Type 0 where
  pub width : is_width w ≡ true
  pub operand : is_expr bits a ≡ true
  pub operand_width : width_of bits a ≡ w

pub unary_parts : (bits : List ℕ) (f : UnOp) (w : ℕ) (a : Expr) → is_expr bits (Unary f w a) ≡ true → UnaryParts bits w a
unary_parts bits f w a ok =
    let two = both (is_width w && is_expr bits a) (width_of bits a == w) ok in
    let one = both (is_width w) (is_expr bits a) two.0 in
    record { width = one.0; operand = one.1; operand_width = eqb-true (width_of bits a) w two.1 }

plain_width : (f : UnOp) (w : ℕ) → is_test f ≡ false → (if is_test f then 1 else w) ≡ w
plain_width f w plain = ap (λ c. if c then 1 else w) plain

undone_at : (bits : List ℕ) (f : UnOp) (w : ℕ) (a : Expr) → is_test f ≡ false → ((v : ℕ) → v < 2 ^ w → unary_value f w (unary_value f w v) ≡ v)
    → IsSimplerUnder bits (Unary f w (Unary f w a)) a
undone_at bits f w a plain law =
    simpler_within bits (Unary f w (Unary f w a)) a (within_through (Unary f w (Unary f w a)) (Unary f w a) a (within_unary f w (Unary f w a)) (within_unary f w a))
    (λ widths ok.
    let outer = unary_parts bits f w (Unary f w a) ok in
    let inner = unary_parts bits f w a outer.operand in
    record {
      formed = inner.operand;
      width = inner.operand_width ∙ sym (plain_width f w plain);
      value = λ scene is fits. sym (law (value_of scene a) (fits_in bits w a inner.operand inner.operand_width scene is fits));
    })

twice_simpler : (bits : List ℕ) (f : UnOp) → is_test f ≡ false → ((w v : ℕ) → v < 2 ^ w → unary_value f w (unary_value f w v) ≡ v) → (e : Expr) → is_twice f e ≡ true
    → IsSimplerUnder bits e (twice_below e)
twice_simpler bits f plain law (Unary g w (Unary h v a)) t =
    let two = both (same_unary g f && same_unary h f) (w == v) t in
    let one = both (same_unary g f) (same_unary h f) two.0 in
    let p : g ≡ f = unary_same g f one.0 in
    let q : h ≡ f = unary_same h f one.1 in
    let r : w ≡ v = eqb-true w v two.1 in
    subst (λ (k : UnOp). IsSimplerUnder bits (Unary k w (Unary h v a)) a) (sym p)
    (subst (λ (k : UnOp). IsSimplerUnder bits (Unary f w (Unary k v a)) a) (sym q)
    (subst (λ k. IsSimplerUnder bits (Unary f w (Unary f k a)) a) r (undone_at bits f w a plain (law w))))
twice_simpler bits f plain law (Const w n) t = absurd (true≢false (sym t))
twice_simpler bits f plain law (Get l) t = absurd (true≢false (sym t))
twice_simpler bits f plain law (Load w a) t = absurd (true≢false (sym t))
twice_simpler bits f plain law (Binary g w a b) t = absurd (true≢false (sym t))
twice_simpler bits f plain law (Widen s w a) t = absurd (true≢false (sym t))
twice_simpler bits f plain law (Part w m a) t = absurd (true≢false (sym t))
twice_simpler bits f plain law (Join a b) t = absurd (true≢false (sym t))
twice_simpler bits f plain law (Choose x a b) t = absurd (true≢false (sym t))
twice_simpler bits f plain law (Address d) t = absurd (true≢false (sym t))
twice_simpler bits f plain law (Unary g w (Const v n)) t = absurd (true≢false (sym t))
twice_simpler bits f plain law (Unary g w (Get l)) t = absurd (true≢false (sym t))
twice_simpler bits f plain law (Unary g w (Load v y)) t = absurd (true≢false (sym t))
twice_simpler bits f plain law (Unary g w (Binary f2 v y z)) t = absurd (true≢false (sym t))
twice_simpler bits f plain law (Unary g w (Widen s v y)) t = absurd (true≢false (sym t))
twice_simpler bits f plain law (Unary g w (Part v m y)) t = absurd (true≢false (sym t))
twice_simpler bits f plain law (Unary g w (Join y z)) t = absurd (true≢false (sym t))
twice_simpler bits f plain law (Unary g w (Choose q y z)) t = absurd (true≢false (sym t))
twice_simpler bits f plain law (Unary g w (Address d)) t = absurd (true≢false (sym t))

pub meets_19 : (bits : List ℕ) (e : Expression) (r : Answer) → Answers r (is_twice Neg (expr_of e)) (twice_below (expr_of e)) → MeetsRuleUnder 19 bits e r
meets_19 bits e r h =
    call_meets 19 bits e r (is_twice Neg (expr_of e)) (twice_below (expr_of e)) refl (twice_simpler bits Neg refl (λ w v s. neg_twice (2 ^ w) v s) (expr_of e)) h

pub meets_20 : (bits : List ℕ) (e : Expression) (r : Answer) → Answers r (is_twice Not (expr_of e)) (twice_below (expr_of e)) → MeetsRuleUnder 20 bits e r
meets_20 bits e r h =
    call_meets 20 bits e r (is_twice Not (expr_of e)) (twice_below (expr_of e)) refl (twice_simpler bits Not refl (λ w v s. not_twice (2 ^ w) v s) (expr_of e)) h

-- Parts.

pub record PartParts (bits : List ℕ) (w first : ℕ) (x : Expr) : Type 0 where
  pub width : is_width w ≡ true
  pub operand : is_expr bits x ≡ true

pub part_parts : (bits : List ℕ) (w first : ℕ) (x : Expr) → is_expr bits (Part w first x) ≡ true → PartParts bits w first x
part_parts bits w first x ok =
    let two = both (is_width w && is_expr bits x) (nat_le (first + w) (width_of bits x)) ok in
    let one = both (is_width w) (is_expr bits x) two.0 in
    record { width = one.0; operand = one.1 }

pub record JoinParts (bits : List ℕ) (a b : Expr) : Type 0 where
  pub high : is_expr bits a ≡ true
  pub low : is_expr bits b ≡ true
  pub alike : width_of bits a ≡ width_of bits b

pub join_parts : (bits : List ℕ) (a b : Expr) → is_expr bits (Join a b) ≡ true → JoinParts bits a b
join_parts bits a b ok =
    let three = both (is_expr bits a && is_expr bits b && (width_of bits a == width_of bits b)) (width_of bits b == 8 || width_of bits b == 16) ok in
    let two = both (is_expr bits a && is_expr bits b) (width_of bits a == width_of bits b) three.0 in
    let one = both (is_expr bits a) (is_expr bits b) two.0 in
    record { high = one.0; low = one.1; alike = eqb-true (width_of bits a) (width_of bits b) two.1 }

width_at : (bits bits' : List ℕ) (x : Expr) (w : ℕ) → bits' ≡ bits → width_of bits x ≡ w → width_of bits' x ≡ w
width_at bits bits' x w is e = subst (λ (k : List ℕ). width_of k x ≡ w) (sym is) e

-- all bits of a number, from the first one on
all_bits : (w v : ℕ) → v < 2 ^ w → v / 2 ^ 0 % 2 ^ w ≡ v
all_bits w v s = let e : v / 2 ^ 0 ≡ v = omega arith in ap (λ k. k % 2 ^ w) e ∙ mod-eq_of_lt s

low_bits : (w h l : ℕ) → l < 2 ^ w → (h * 2 ^ w + l) / 2 ^ 0 % 2 ^ w ≡ l
low_bits w h l s =
    let e : (h * 2 ^ w + l) / 2 ^ 0 ≡ h * 2 ^ w + l = omega arith in
    ap (λ k. k % 2 ^ w) e ∙ mod-mul-add h (2 ^ w) l s

high_bits : (w h l : ℕ) → h < 2 ^ w → l < 2 ^ w → (h * 2 ^ w + l) / 2 ^ w % 2 ^ w ≡ h
high_bits w h l s t = ap (λ k. k % 2 ^ w) (div-mul-add h (2 ^ w) l t) ∙ mod-eq_of_lt s

whole_at : (bits : List ℕ) (w first : ℕ) (x : Expr) → first ≡ 0 → width_of bits x ≡ w → IsSimplerUnder bits (Part w first x) x
whole_at bits w first x none all =
    simpler_within bits (Part w first x) x (within_part w first x) (λ widths ok.
    let h = part_parts bits w first x ok in
    record {
      formed = h.operand;
      width = all;
      value = λ scene is fits.
          sym (ap (λ k. value_of scene x / 2 ^ k % 2 ^ w) none ∙ all_bits w (value_of scene x) (fits_in bits w x h.operand all scene is fits));
    })

whole_simpler : (bits : List ℕ) (e : Expr) → is_whole bits e ≡ true → IsSimplerUnder bits e (part_of e)
whole_simpler bits (Part w first x) t =
    let p = both (first == 0) (width_of bits x == w) t in
    whole_at bits w first x (eqb-true first 0 p.0) (eqb-true (width_of bits x) w p.1)
whole_simpler bits (Const w n) t = absurd (true≢false (sym t))
whole_simpler bits (Get l) t = absurd (true≢false (sym t))
whole_simpler bits (Load w a) t = absurd (true≢false (sym t))
whole_simpler bits (Unary f w a) t = absurd (true≢false (sym t))
whole_simpler bits (Binary f w a b) t = absurd (true≢false (sym t))
whole_simpler bits (Widen s w a) t = absurd (true≢false (sym t))
whole_simpler bits (Join a b) t = absurd (true≢false (sym t))
whole_simpler bits (Choose x a b) t = absurd (true≢false (sym t))
whole_simpler bits (Address d) t = absurd (true≢false (sym t))

pub meets_38 : (bits : List ℕ) (e : Expression) (r : Answer) → Answers r (is_whole bits (expr_of e)) (part_of (expr_of e)) → MeetsRuleUnder 38 bits e r
meets_38 bits e r h = call_meets 38 bits e r (is_whole bits (expr_of e)) (part_of (expr_of e)) refl (whole_simpler bits (expr_of e)) h

low_at : (bits : List ℕ) (w first : ℕ) (a b : Expr) → first ≡ 0 → width_of bits b ≡ w → IsSimplerUnder bits (Part w first (Join a b)) b
low_at bits w first a b none all =
    simpler_within bits (Part w first (Join a b)) b (within_through (Part w first (Join a b)) (Join a b) b (within_part w first (Join a b)) (within_low a b)) (λ widths ok.
    let h = part_parts bits w first (Join a b) ok in
    let j = join_parts bits a b h.operand in
    record {
      formed = j.low;
      width = all;
      value = λ scene is fits.
          let e = width_at bits scene.bits b w is all in
          sym (ap (λ k. (value_of scene a * 2 ^ width_of scene.bits b + value_of scene b) / 2 ^ k % 2 ^ w) none
          ∙ ap (λ k. (value_of scene a * 2 ^ k + value_of scene b) / 2 ^ 0 % 2 ^ w) e
          ∙ low_bits w (value_of scene a) (value_of scene b) (fits_in bits w b j.low all scene is fits));
    })

low_simpler : (bits : List ℕ) (e : Expr) → is_low_half bits e ≡ true → IsSimplerUnder bits e (low_of_part e)
low_simpler bits (Part w first (Join a b)) t =
    let p = both (first == 0) (width_of bits b == w) t in
    low_at bits w first a b (eqb-true first 0 p.0) (eqb-true (width_of bits b) w p.1)
low_simpler bits (Part w first (Const v n)) t = absurd (true≢false (sym t))
low_simpler bits (Part w first (Get l)) t = absurd (true≢false (sym t))
low_simpler bits (Part w first (Load v y)) t = absurd (true≢false (sym t))
low_simpler bits (Part w first (Unary f v y)) t = absurd (true≢false (sym t))
low_simpler bits (Part w first (Binary f v y z)) t = absurd (true≢false (sym t))
low_simpler bits (Part w first (Widen s v y)) t = absurd (true≢false (sym t))
low_simpler bits (Part w first (Part v m y)) t = absurd (true≢false (sym t))
low_simpler bits (Part w first (Choose q y z)) t = absurd (true≢false (sym t))
low_simpler bits (Part w first (Address d)) t = absurd (true≢false (sym t))
low_simpler bits (Const v n) t = absurd (true≢false (sym t))
low_simpler bits (Get l) t = absurd (true≢false (sym t))
low_simpler bits (Load v y) t = absurd (true≢false (sym t))
low_simpler bits (Unary f v y) t = absurd (true≢false (sym t))
low_simpler bits (Binary f v y z) t = absurd (true≢false (sym t))
low_simpler bits (Widen s v y) t = absurd (true≢false (sym t))
low_simpler bits (Join y z) t = absurd (true≢false (sym t))
low_simpler bits (Choose q y z) t = absurd (true≢false (sym t))
low_simpler bits (Address d) t = absurd (true≢false (sym t))

high_at : (bits : List ℕ) (w first : ℕ) (a b : Expr) → first ≡ w → width_of bits a ≡ w → IsSimplerUnder bits (Part w first (Join a b)) a
high_at bits w first a b half all =
    simpler_within bits (Part w first (Join a b)) a (within_through (Part w first (Join a b)) (Join a b) a (within_part w first (Join a b)) (within_high a b)) (λ widths ok.
    let h = part_parts bits w first (Join a b) ok in
    let j = join_parts bits a b h.operand in
    let low : width_of bits b ≡ w = sym j.alike ∙ all in
    record {
      formed = j.high;
      width = all;
      value = λ scene is fits.
          let e = width_at bits scene.bits b w is low in
          sym (ap (λ k. (value_of scene a * 2 ^ width_of scene.bits b + value_of scene b) / 2 ^ k % 2 ^ w) half
          ∙ ap (λ k. (value_of scene a * 2 ^ k + value_of scene b) / 2 ^ w % 2 ^ w) e
          ∙ high_bits w (value_of scene a) (value_of scene b) (fits_in bits w a j.high all scene is fits) (fits_in bits w b j.low low scene is fits));
    })

high_simpler : (bits : List ℕ) (e : Expr) → is_high_half bits e ≡ true → IsSimplerUnder bits e (high_of_part e)
high_simpler bits (Part w first (Join a b)) t =
    let p = both (first == w) (width_of bits a == w) t in
    high_at bits w first a b (eqb-true first w p.0) (eqb-true (width_of bits a) w p.1)
high_simpler bits (Part w first (Const v n)) t = absurd (true≢false (sym t))
high_simpler bits (Part w first (Get l)) t = absurd (true≢false (sym t))
high_simpler bits (Part w first (Load v y)) t = absurd (true≢false (sym t))
high_simpler bits (Part w first (Unary f v y)) t = absurd (true≢false (sym t))
high_simpler bits (Part w first (Binary f v y z)) t = absurd (true≢false (sym t))
high_simpler bits (Part w first (Widen s v y)) t = absurd (true≢false (sym t))
high_simpler bits (Part w first (Part v m y)) t = absurd (true≢false (sym t))
high_simpler bits (Part w first (Choose q y z)) t = absurd (true≢false (sym t))
high_simpler bits (Part w first (Address d)) t = absurd (true≢false (sym t))
high_simpler bits (Const v n) t = absurd (true≢false (sym t))
high_simpler bits (Get l) t = absurd (true≢false (sym t))
high_simpler bits (Load v y) t = absurd (true≢false (sym t))
high_simpler bits (Unary f v y) t = absurd (true≢false (sym t))
high_simpler bits (Binary f v y z) t = absurd (true≢false (sym t))
high_simpler bits (Widen s v y) t = absurd (true≢false (sym t))
high_simpler bits (Join y z) t = absurd (true≢false (sym t))
high_simpler bits (Choose q y z) t = absurd (true≢false (sym t))
high_simpler bits (Address d) t = absurd (true≢false (sym t))

pub meets_35 : (bits : List ℕ) (e : Expression) (r : Answer) → Answers r (is_low_half bits (expr_of e)) (low_of_part (expr_of e)) → MeetsRuleUnder 35 bits e r
meets_35 bits e r h = call_meets 35 bits e r (is_low_half bits (expr_of e)) (low_of_part (expr_of e)) refl (low_simpler bits (expr_of e)) h

pub meets_36 : (bits : List ℕ) (e : Expression) (r : Answer) → Answers r (is_high_half bits (expr_of e)) (high_of_part (expr_of e)) → MeetsRuleUnder 36 bits e r
meets_36 bits e r h = call_meets 36 bits e r (is_high_half bits (expr_of e)) (high_of_part (expr_of e)) refl (high_simpler bits (expr_of e)) h

-- A widened number, narrowed again.

pub record WidenParts (bits : List ℕ) (w : ℕ) (x : Expr) : Type 0 where
  pub width : is_width w ≡ true
  pub operand : is_expr bits x ≡ true
  pub narrower : nat_lt (width_of bits x) w ≡ true

pub widen_parts : (bits : List ℕ) (s : Bool) (w : ℕ) (x : Expr) → is_expr bits (Widen s w x) ≡ true → WidenParts bits w x
widen_parts bits s w x ok =
    let two = both (is_width w && is_expr bits x) (nat_lt (width_of bits x) w) ok in
    let one = both (is_width w) (is_expr bits x) two.0 in
    record { width = one.0; operand = one.1; narrower = two.1 }

-- the low bits of a number that was extended by its sign
wide_low : (w wide v : ℕ) → w ≤ wide → v < 2 ^ w → pattern_at wide (signed_at w v) % 2 ^ w ≡ v
wide_low w wide v more s =
    let d : ℕ = wide - w in
    let e : wide ≡ d + w = omega (arith, more) in
    let p : 2 ^ wide ≡ 2 ^ d * 2 ^ w = ap (λ k. 2 ^ k) e ∙ pow-add 2 d w in
    elim (nat_le (2 ^ (w - 1)) v) as (λ b. pattern_at wide (if b then pos v -ℤ pos (2 ^ w) else pos v) % 2 ^ w ≡ v) [
      | true ↦
          let k : ℕ = 2 ^ w - suc v in
          let few : k < 2 ^ w = omega (arith, s) in
          let some : 0 < 2 ^ d = pow_pos d in
          let bound : 2 ^ w ≤ 2 ^ wide = pow-le-pow_right (lit< tt) {i = w} {j = wide} more in
          let low : k < 2 ^ wide = omega (arith, few, bound) in
          ap (λ z. pattern_at wide z % 2 ^ w) (below v (2 ^ w) s)
          ∙ ap (λ j. (2 ^ wide - 1 - j) % 2 ^ w) (mod-eq_of_lt low)
          ∙ ap (λ j. (j - 1 - k) % 2 ^ w) p
          ∙ top (2 ^ d) (2 ^ w) v some s
      | false ↦
          let bound : 2 ^ w ≤ 2 ^ wide = pow-le-pow_right (lit< tt) {i = w} {j = wide} more in
          let low : v < 2 ^ wide = omega (arith, s, bound) in
          ap (λ j. j % 2 ^ w) (mod-eq_of_lt low) ∙ mod-eq_of_lt s
    ]
  where
    -- one less than a multiple of m, less what is left
    top : (n m v : ℕ) → 0 < n → v < m → (n * m - 1 - (m - suc v)) % m ≡ v
    top n m v some s =
        let is : n ≡ n - 1 + 1 = omega (arith, some) in
        subst (λ k. (k * m - 1 - (m - suc v)) % m ≡ v) (sym is) (ap (λ k. k % m) (less (n - 1) m v s) ∙ mod-mul-add (n - 1) m v s)
      where
        less : (k m v : ℕ) → v < m → (k + 1) * m - 1 - (m - suc v) ≡ k * m + v
        less k m v s = omega (arith, s)

pub narrowed_value : (signed : Bool) (w wide v : ℕ) → w ≤ wide → v < 2 ^ w → (if signed then pattern_at wide (signed_at w v) else v) % 2 ^ w ≡ v
narrowed_value true w wide v more s = wide_low w wide v more s
narrowed_value false w wide v more s = mod-eq_of_lt s

narrowed_at : (bits : List ℕ) (w first : ℕ) (signed : Bool) (wide : ℕ) (x : Expr) → first ≡ 0 → width_of bits x ≡ w → IsSimplerUnder bits (Part w first (Widen signed wide x)) x
narrowed_at bits w first signed wide x none all =
    simpler_within bits (Part w first (Widen signed wide x)) x
    (within_through (Part w first (Widen signed wide x)) (Widen signed wide x) x (within_part w first (Widen signed wide x)) (within_widen signed wide x)) (λ widths ok.
    let h = part_parts bits w first (Widen signed wide x) ok in
    let j = widen_parts bits signed wide x h.operand in
    let less : width_of bits x < wide = ltb-true (width_of bits x) wide j.narrower in
    record {
      formed = j.operand;
      width = all;
      value = λ scene is fits.
          let e = width_at bits scene.bits x w is all in
          let v = value_of scene x in
          let nothing : (n : ℕ) → n / 2 ^ 0 ≡ n = λ n. omega arith in
          sym (ap (λ k. (if signed then pattern_at wide (signed_at (width_of scene.bits x) v) else v) / 2 ^ k % 2 ^ w) none
          ∙ ap (λ k. k % 2 ^ w) (nothing (if signed then pattern_at wide (signed_at (width_of scene.bits x) v) else v))
          ∙ ap (λ k. (if signed then pattern_at wide (signed_at k v) else v) % 2 ^ w) e
          ∙ narrowed_value signed w wide v (omega (arith, less, all)) (fits_in bits w x j.operand all scene is fits));
    })

narrowed_simpler : (bits : List ℕ) (e : Expr) → is_narrowed_again bits e ≡ true → IsSimplerUnder bits e (widened_in e)
narrowed_simpler bits (Part w first (Widen signed wide x)) t =
    let p = both (first == 0) (width_of bits x == w) t in
    narrowed_at bits w first signed wide x (eqb-true first 0 p.0) (eqb-true (width_of bits x) w p.1)
narrowed_simpler bits (Part w first (Const v n)) t = absurd (true≢false (sym t))
narrowed_simpler bits (Part w first (Get l)) t = absurd (true≢false (sym t))
narrowed_simpler bits (Part w first (Load v y)) t = absurd (true≢false (sym t))
narrowed_simpler bits (Part w first (Unary f v y)) t = absurd (true≢false (sym t))
narrowed_simpler bits (Part w first (Binary f v y z)) t = absurd (true≢false (sym t))
narrowed_simpler bits (Part w first (Part v m y)) t = absurd (true≢false (sym t))
narrowed_simpler bits (Part w first (Join y z)) t = absurd (true≢false (sym t))
narrowed_simpler bits (Part w first (Choose q y z)) t = absurd (true≢false (sym t))
narrowed_simpler bits (Part w first (Address d)) t = absurd (true≢false (sym t))
narrowed_simpler bits (Const v n) t = absurd (true≢false (sym t))
narrowed_simpler bits (Get l) t = absurd (true≢false (sym t))
narrowed_simpler bits (Load v y) t = absurd (true≢false (sym t))
narrowed_simpler bits (Unary f v y) t = absurd (true≢false (sym t))
narrowed_simpler bits (Binary f v y z) t = absurd (true≢false (sym t))
narrowed_simpler bits (Widen s v y) t = absurd (true≢false (sym t))
narrowed_simpler bits (Join y z) t = absurd (true≢false (sym t))
narrowed_simpler bits (Choose q y z) t = absurd (true≢false (sym t))
narrowed_simpler bits (Address d) t = absurd (true≢false (sym t))

pub meets_39 : (bits : List ℕ) (e : Expression) (r : Answer) → Answers r (is_narrowed_again bits (expr_of e)) (widened_in (expr_of e)) → MeetsRuleUnder 39 bits e r
meets_39 bits e r h = call_meets 39 bits e r (is_narrowed_again bits (expr_of e)) (widened_in (expr_of e)) refl (narrowed_simpler bits (expr_of e)) h

-- Both halves of one expression.

both_halves : (w v : ℕ) → v < 2 ^ (w + w) → v / 2 ^ w % 2 ^ w * 2 ^ w + v / 2 ^ 0 % 2 ^ w ≡ v
both_halves w v s =
    let p : 2 ^ (w + w) ≡ 2 ^ w * 2 ^ w = pow-add 2 w w in
    let small : v / 2 ^ w < 2 ^ w = div_below v (2 ^ w) (2 ^ w) (pow_pos w) (subst (λ k. v < k) p s) in
    let e : v / 2 ^ 0 ≡ v = omega arith in
    ap (λ k. k * 2 ^ w + v / 2 ^ 0 % 2 ^ w) (mod-eq_of_lt small) ∙ ap (λ k. v / 2 ^ w * 2 ^ w + k % 2 ^ w) e ∙ shr_split v w

joined_at : (bits : List ℕ) (w first low_first : ℕ) (x : Expr) → first ≡ w → low_first ≡ 0 → width_of bits x ≡ w + w → IsSimplerUnder bits (Join (Part w first x) (Part w low_first x)) x
joined_at bits w first low_first x half none all =
    simpler_within bits (Join (Part w first x) (Part w low_first x)) x
    (within_through (Join (Part w first x) (Part w low_first x)) (Part w first x) x (within_high (Part w first x) (Part w low_first x)) (within_part w first x)) (λ widths ok.
    let j = join_parts bits (Part w first x) (Part w low_first x) ok in
    let h = part_parts bits w first x j.high in
    record {
      formed = h.operand;
      width = all;
      value = λ scene is fits.
          let v = value_of scene x in
          sym (ap (λ k. v / 2 ^ k % 2 ^ w * 2 ^ w + v / 2 ^ low_first % 2 ^ w) half ∙ ap (λ k. v / 2 ^ w % 2 ^ w * 2 ^ w + v / 2 ^ k % 2 ^ w) none
          ∙ both_halves w v (fits_in bits (w + w) x h.operand all scene is fits));
    })

joined_simpler : (bits : List ℕ) (e : Expr) → is_joined_again bits e ≡ true → IsSimplerUnder bits e (halved e)
joined_simpler bits (Join (Part w first x) (Part w' first' x')) t =
    let four = both (w == w' && first == w && first' == 0 && same_expr x x') (width_of bits x == w + w) t in
    let three = both (w == w' && first == w && first' == 0) (same_expr x x') four.0 in
    let two = both (w == w' && first == w) (first' == 0) three.0 in
    let one = both (w == w') (first == w) two.0 in
    let same_width : w ≡ w' = eqb-true w w' one.0 in
    let same_operand : x ≡ x' = expr_same x x' three.1 in
    subst (λ (y : Expr). IsSimplerUnder bits (Join (Part w first x) (Part w' first' y)) x) same_operand
    (subst (λ k. IsSimplerUnder bits (Join (Part w first x) (Part k first' x)) x) same_width
    (joined_at bits w first first' x (eqb-true first w one.1) (eqb-true first' 0 two.1) (eqb-true (width_of bits x) (w + w) four.1)))
joined_simpler bits (Join (Part w first x) (Const v n)) t = absurd (true≢false (sym t))
joined_simpler bits (Join (Part w first x) (Get l)) t = absurd (true≢false (sym t))
joined_simpler bits (Join (Part w first x) (Load v y)) t = absurd (true≢false (sym t))
joined_simpler bits (Join (Part w first x) (Unary f v y)) t = absurd (true≢false (sym t))
joined_simpler bits (Join (Part w first x) (Binary f v y z)) t = absurd (true≢false (sym t))
joined_simpler bits (Join (Part w first x) (Widen s v y)) t = absurd (true≢false (sym t))
joined_simpler bits (Join (Part w first x) (Join y z)) t = absurd (true≢false (sym t))
joined_simpler bits (Join (Part w first x) (Choose q y z)) t = absurd (true≢false (sym t))
joined_simpler bits (Join (Part w first x) (Address d)) t = absurd (true≢false (sym t))
joined_simpler bits (Join (Const v n) u) t = absurd (true≢false (sym t))
joined_simpler bits (Join (Get l) u) t = absurd (true≢false (sym t))
joined_simpler bits (Join (Load v y) u) t = absurd (true≢false (sym t))
joined_simpler bits (Join (Unary f v y) u) t = absurd (true≢false (sym t))
joined_simpler bits (Join (Binary f v y z) u) t = absurd (true≢false (sym t))
joined_simpler bits (Join (Widen s v y) u) t = absurd (true≢false (sym t))
joined_simpler bits (Join (Join y z) u) t = absurd (true≢false (sym t))
joined_simpler bits (Join (Choose q y z) u) t = absurd (true≢false (sym t))
joined_simpler bits (Join (Address d) u) t = absurd (true≢false (sym t))
joined_simpler bits (Const v n) t = absurd (true≢false (sym t))
joined_simpler bits (Get l) t = absurd (true≢false (sym t))
joined_simpler bits (Load v y) t = absurd (true≢false (sym t))
joined_simpler bits (Unary f v y) t = absurd (true≢false (sym t))
joined_simpler bits (Binary f v y z) t = absurd (true≢false (sym t))
joined_simpler bits (Widen s v y) t = absurd (true≢false (sym t))
joined_simpler bits (Part v m y) t = absurd (true≢false (sym t))
joined_simpler bits (Choose q y z) t = absurd (true≢false (sym t))
joined_simpler bits (Address d) t = absurd (true≢false (sym t))

pub meets_37 : (bits : List ℕ) (e : Expression) (r : Answer) → Answers r (is_joined_again bits (expr_of e)) (halved (expr_of e)) → MeetsRuleUnder 37 bits e r
meets_37 bits e r h = call_meets 37 bits e r (is_joined_again bits (expr_of e)) (halved (expr_of e)) refl (joined_simpler bits (expr_of e)) h

-- A choice on a constant.

pub record ChooseParts (bits : List ℕ) (a b : Expr) : Type 0 where
  pub one : is_expr bits a ≡ true
  pub other : is_expr bits b ≡ true
  pub alike : width_of bits a ≡ width_of bits b

pub choose_parts : (bits : List ℕ) (x a b : Expr) → is_expr bits (Choose x a b) ≡ true → ChooseParts bits a b
choose_parts bits x a b ok =
    let four = both (is_expr bits x && is_expr bits a && is_expr bits b && (width_of bits x == 1)) (width_of bits a == width_of bits b) ok in
    let three = both (is_expr bits x && is_expr bits a && is_expr bits b) (width_of bits x == 1) four.0 in
    let two = both (is_expr bits x && is_expr bits a) (is_expr bits b) three.0 in
    let one = both (is_expr bits x) (is_expr bits a) two.0 in
    record { one = one.1; other = two.1; alike = eqb-true (width_of bits a) (width_of bits b) four.1 }

chosen_at : (bits : List ℕ) (w n : ℕ) (a b : Expr) (is_one : Bool) → (n == 1) ≡ is_one → IsSimplerUnder bits (Choose (Const w n) a b) (if is_one then a else b)
chosen_at bits w n a b true e =
    simpler_within bits (Choose (Const w n) a b) a (within_one (Const w n) a b) (λ widths ok.
    let h = choose_parts bits (Const w n) a b ok in
    record { formed = h.one; width = refl; value = λ scene is fits. sym (ap (λ c. if c then value_of scene a else value_of scene b) e) })
chosen_at bits w n a b false e =
    simpler_within bits (Choose (Const w n) a b) b (within_other (Const w n) a b) (λ widths ok.
    let h = choose_parts bits (Const w n) a b ok in
    record { formed = h.other; width = sym h.alike; value = λ scene is fits. sym (ap (λ c. if c then value_of scene a else value_of scene b) e) })

chosen_simpler : (bits : List ℕ) (e : Expr) → is_choice_by_constant e ≡ true → IsSimplerUnder bits e (chosen_in e)
chosen_simpler bits (Choose (Const w n) a b) t = chosen_at bits w n a b (n == 1) refl
chosen_simpler bits (Choose (Get l) a b) t = absurd (true≢false (sym t))
chosen_simpler bits (Choose (Load v y) a b) t = absurd (true≢false (sym t))
chosen_simpler bits (Choose (Unary f v y) a b) t = absurd (true≢false (sym t))
chosen_simpler bits (Choose (Binary f v y z) a b) t = absurd (true≢false (sym t))
chosen_simpler bits (Choose (Widen s v y) a b) t = absurd (true≢false (sym t))
chosen_simpler bits (Choose (Part v m y) a b) t = absurd (true≢false (sym t))
chosen_simpler bits (Choose (Join y z) a b) t = absurd (true≢false (sym t))
chosen_simpler bits (Choose (Choose q y z) a b) t = absurd (true≢false (sym t))
chosen_simpler bits (Choose (Address d) a b) t = absurd (true≢false (sym t))
chosen_simpler bits (Const v n) t = absurd (true≢false (sym t))
chosen_simpler bits (Get l) t = absurd (true≢false (sym t))
chosen_simpler bits (Load v y) t = absurd (true≢false (sym t))
chosen_simpler bits (Unary f v y) t = absurd (true≢false (sym t))
chosen_simpler bits (Binary f v y z) t = absurd (true≢false (sym t))
chosen_simpler bits (Widen s v y) t = absurd (true≢false (sym t))
chosen_simpler bits (Part v m y) t = absurd (true≢false (sym t))
chosen_simpler bits (Join y z) t = absurd (true≢false (sym t))
chosen_simpler bits (Address d) t = absurd (true≢false (sym t))

pub meets_40 : (bits : List ℕ) (e : Expression) (r : Answer) → Answers r (is_choice_by_constant (expr_of e)) (chosen_in (expr_of e)) → MeetsRuleUnder 40 bits e r
meets_40 bits e r h = call_meets 40 bits e r (is_choice_by_constant (expr_of e)) (chosen_in (expr_of e)) refl (chosen_simpler bits (expr_of e)) h
