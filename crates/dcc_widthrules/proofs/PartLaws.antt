-- The rules on parts.
use Rattle.std.proofs.Common.{◌≡◌, ℕ, ◌+◌, ◌-◌, ◌*◌, ◌/◌, ◌%◌, ◌^◌, ◌<◌, ◌≤◌, Bool, true, false, ◌&&◌, not, List, Option, Some, None, refl, sym, ap, ◌∙◌, subst, arith, true≢false, eqb-true, ltb-true}
use Rattle.std.specs.Prelude.{if◌then◌else◌, ◌==◌, nat_lt, nat_le, bit_and}
use Rattle.std.proofs.lemmas.Bool.{lt-ltb, le-leb, leb-true}
use Rattle.std.proofs.lemmas.Nat.{pow_pos, mod_below, mod-mul-add, and_mask, and_mod}
use Rattle.dcc_ir.specs.declared.syntax.Expr.{Expr as Expression}
use Rattle.dcc_ir.specs.declared.syntax.BinOp.{BinOp}
use Rattle.dcc_ir.specs.declared.syntax.BinOp.TheVariants.{Add, Sub, Mul, And, Or, Xor}
use Rattle.dcc_ir.specs.Views.{expr_of}
use Rattle.dcc_ir.specs.Tree.{Expr, Const, Binary, Widen, Part, Join}
use Rattle.dcc_ir.specs.Value.{is_comparison, width_of, binary_value, Environment, value_of, Fits}
use Rattle.dcc_ir.specs.WellFormed.{is_width, is_division, is_expr}
use Rattle.dcc_ir.specs.Measure.{nodes_of, truths_of}
use Rattle.dcc_ir.specs.Forms.{ones, same_binary}
use Rattle.dcc_ir.proofs.FitLaws.{both}
use Rattle.dcc_rules.specs.Simpler.{AddsNothing, IsSimplerUnder}
use Rattle.dcc_rules.specs.Rules.{MeetsRuleUnder}
use Rattle.dcc_rules.proofs.AmongLaws.{both_hold}
use Rattle.dcc_rules.proofs.ReducedLaws.{adds_through}
use Rattle.dcc_stdrules.proofs.SameLaws.{binary_same}
use Rattle.dcc_stdrules.proofs.WithinLaws.{IsWithin, within_through, within_left, within_right, within_part, within_widen, within_high, within_low, constant_within}
use Rattle.dcc_stdrules.proofs.OperandLaws.{Answer, operated, fits_in}
use Rattle.dcc_stdrules.proofs.HalfLaws.{simpler_within, part_parts, join_parts, widen_parts, narrowed_value}
use Rattle.dcc_morerules.specs.Further.{Gives}
use Rattle.dcc_morerules.proofs.SizeLaws.{truths_of_two, nodes_of_two, beside, formed_two}
use Rattle.dcc_morerules.proofs.GivenLaws.{meets_given, chosen, told}
use Rattle.dcc_morerules.proofs.TestLaws.{formed_number}
use Rattle.dcc_widthrules.specs.Parts.{part_of_part, part_of_half, low_of_widened, part_of_widened, part_of_masked, is_narrow, low_of, operator_on, narrowed}
use Rattle.dcc_widthrules.proofs.BitLaws.{low_again, part_of_parts, part_of_high, part_of_low, widened, low_of_widened_narrow, low_of_widened_wide, nothing_above, narrow_law}

-- Well-formed parts and their sizes.

pub part_bound : (bits : List ℕ) (w n : ℕ) (x : Expr) → is_expr bits (Part w n x) ≡ true → n + w ≤ width_of bits x
part_bound bits w n x ok = leb-true (n + w) (width_of bits x) (both (is_width w && is_expr bits x) (nat_le (n + w) (width_of bits x)) ok).1

-- so for a part from the lowest bit on
pub low_bound : (bits : List ℕ) (w : ℕ) (x : Expr) → is_expr bits (Part w 0 x) ≡ true → w ≤ width_of bits x
low_bound bits w x ok = omega (arith, part_bound bits w 0 x ok)

pub formed_part : (bits : List ℕ) (w n : ℕ) (x : Expr) → is_width w ≡ true → is_expr bits x ≡ true → n + w ≤ width_of bits x → is_expr bits (Part w n x) ≡ true
formed_part bits w n x width ok within =
    both_hold (is_width w && is_expr bits x) (nat_le (n + w) (width_of bits x)) (both_hold (is_width w) (is_expr bits x) width ok) (le-leb (n + w) (width_of bits x) within)

pub formed_widened : (bits : List ℕ) (signed : Bool) (w : ℕ) (x : Expr) → is_width w ≡ true → is_expr bits x ≡ true → width_of bits x < w → is_expr bits (Widen signed w x) ≡ true
formed_widened bits signed w x width ok less =
    both_hold (is_width w && is_expr bits x) (nat_lt (width_of bits x) w) (both_hold (is_width w) (is_expr bits x) width ok) (lt-ltb (width_of bits x) w less)

-- a part of what stands in an expression adds nothing to a part of the expression; nor does it widened
pub part_within : (w n v m : ℕ) (y x : Expr) → IsWithin y x → IsWithin (Part w n y) (Part v m x)
part_within w n v m y x p = record {
  nodes = omega (arith, p.nodes);
  adds = record { depth = omega (arith, p.adds.depth); truths = p.adds.truths; reads = p.adds.reads; addresses = p.adds.addresses };
}

pub widen_within : (w n : ℕ) (signed : Bool) (v : ℕ) (y x : Expr) → IsWithin y x → IsWithin (Part w n y) (Widen signed v x)
widen_within w n signed v y x p = record {
  nodes = omega (arith, p.nodes);
  adds = record { depth = omega (arith, p.adds.depth); truths = p.adds.truths; reads = p.adds.reads; addresses = p.adds.addresses };
}

-- the widths of a scene are those of its graph
pub in_scene : (bits : List ℕ) (scene : Environment) (P : ℕ → ℕ) (x : Expr) → scene.bits ≡ bits → P (width_of scene.bits x) ≡ P (width_of bits x)
in_scene bits scene P x is = ap (λ (k : List ℕ). P (width_of k x)) is

-- a number from its lowest bit on
pub from_lowest : (a : ℕ) → a / 2 ^ 0 ≡ a
from_lowest a = omega arith

-- Parts of parts.

part_again_at : (bits : List ℕ) (w n v m : ℕ) (x : Expr) → IsSimplerUnder bits (Part w n (Part v m x)) (Part w (n + m) x)
part_again_at bits w n v m x =
    simpler_within bits (Part w n (Part v m x)) (Part w (n + m) x) (part_within w n w (n + m) (Part v m x) x (within_part v m x)) (λ widths ok.
    let outer = part_parts bits w n (Part v m x) ok in
    let inner = part_parts bits v m x outer.operand in
    let first : n + w ≤ v = part_bound bits w n (Part v m x) ok in
    let second : m + v ≤ width_of bits x = part_bound bits v m x outer.operand in
    record {
      formed = formed_part bits w (n + m) x outer.width inner.operand (omega (arith, first, second));
      width = refl;
      value = λ scene is fits. part_of_parts (value_of scene x) v n m w first;
    })

part_of_part_simpler : (bits : List ℕ) (e o : Expr) → part_of_part e ≡ Some o → IsSimplerUnder bits e o
part_of_part_simpler bits (Part w n (Part v m x)) o e =
    let t = told (nat_lt (n + m) 32) (Part w (n + m) x) o e in
    subst (λ (z : Expr). IsSimplerUnder bits (Part w n (Part v m x)) z) t.1 (part_again_at bits w n v m x)
part_of_part_simpler bits e o is = cc

pub meets_50 : (bits : List ℕ) (e : Expression) (r : Answer) → Gives r (part_of_part (expr_of e)) → MeetsRuleUnder 50 bits e r
meets_50 bits e r h = meets_given 50 bits e r (part_of_part (expr_of e)) (omega arith) (part_of_part_simpler bits (expr_of e)) h

-- Parts of halves.

high_at : (bits : List ℕ) (w n : ℕ) (a b : Expr) → width_of bits b ≤ n → IsSimplerUnder bits (Part w n (Join a b)) (Part w (n - width_of bits b) a)
high_at bits w n a b more =
    simpler_within bits (Part w n (Join a b)) (Part w (n - width_of bits b) a) (part_within w n w (n - width_of bits b) (Join a b) a (within_high a b)) (λ widths ok.
    let outer = part_parts bits w n (Join a b) ok in
    let j = join_parts bits a b outer.operand in
    let bound : n + w ≤ width_of bits a + width_of bits b = part_bound bits w n (Join a b) ok in
    record {
      formed = formed_part bits w (n - width_of bits b) a outer.width j.high (omega (arith, bound, more));
      width = refl;
      value = λ scene is fits.
          part_of_high (value_of scene a) (value_of scene b) (width_of bits b) n w (fits_in bits (width_of bits b) b j.low refl scene is fits) more
          ∙ sym (in_scene bits scene (λ k. (value_of scene a * 2 ^ k + value_of scene b) / 2 ^ n % 2 ^ w) b is);
    })

low_at : (bits : List ℕ) (w n : ℕ) (a b : Expr) → n + w ≤ width_of bits b → IsSimplerUnder bits (Part w n (Join a b)) (Part w n b)
low_at bits w n a b within =
    simpler_within bits (Part w n (Join a b)) (Part w n b) (part_within w n w n (Join a b) b (within_low a b)) (λ widths ok.
    let outer = part_parts bits w n (Join a b) ok in
    let j = join_parts bits a b outer.operand in
    record {
      formed = formed_part bits w n b outer.width j.low within;
      width = refl;
      value = λ scene is fits.
          part_of_low (value_of scene a) (value_of scene b) (width_of bits b) n w (fits_in bits (width_of bits b) b j.low refl scene is fits) within
          ∙ sym (in_scene bits scene (λ k. (value_of scene a * 2 ^ k + value_of scene b) / 2 ^ n % 2 ^ w) b is);
    })

half_chosen : (bits : List ℕ) (w n : ℕ) (a b o : Expr) (high low : Bool) → (high ≡ true → width_of bits b ≤ n) → (low ≡ true → n + w ≤ width_of bits b)
    → (if high then Some (Part w (n - width_of bits b) a) else if low then Some (Part w n b) else None) ≡ Some o → IsSimplerUnder bits (Part w n (Join a b)) o
half_chosen bits w n a b o true low more within e =
    let is : Part w (n - width_of bits b) a ≡ o = cc in
    subst (λ (z : Expr). IsSimplerUnder bits (Part w n (Join a b)) z) is (high_at bits w n a b (more refl))
half_chosen bits w n a b o false true more within e =
    let is : Part w n b ≡ o = cc in
    subst (λ (z : Expr). IsSimplerUnder bits (Part w n (Join a b)) z) is (low_at bits w n a b (within refl))
half_chosen bits w n a b o false false more within e = cc

part_of_half_simpler : (bits : List ℕ) (e o : Expr) → part_of_half bits e ≡ Some o → IsSimplerUnder bits e o
part_of_half_simpler bits (Part w n (Join a b)) o e =
    half_chosen bits w n a b o (nat_le (width_of bits b) n) (nat_le (n + w) (width_of bits b)) (leb-true (width_of bits b) n) (leb-true (n + w) (width_of bits b)) e
part_of_half_simpler bits e o is = cc

pub meets_51 : (bits : List ℕ) (e : Expression) (r : Answer) → Gives r (part_of_half bits (expr_of e)) → MeetsRuleUnder 51 bits e r
meets_51 bits e r h = meets_given 51 bits e r (part_of_half bits (expr_of e)) (omega arith) (part_of_half_simpler bits (expr_of e)) h

-- Parts of widened expressions.

narrow_at : (bits : List ℕ) (w v : ℕ) (signed : Bool) (x : Expr) → w < width_of bits x → IsSimplerUnder bits (Part w 0 (Widen signed v x)) (Part w 0 x)
narrow_at bits w v signed x less =
    simpler_within bits (Part w 0 (Widen signed v x)) (Part w 0 x) (part_within w 0 w 0 (Widen signed v x) x (within_widen signed v x)) (λ widths ok.
    let outer = part_parts bits w 0 (Widen signed v x) ok in
    let inner = widen_parts bits signed v x outer.operand in
    let more : width_of bits x < v = ltb-true (width_of bits x) v inner.narrower in
    record {
      formed = formed_part bits w 0 x outer.width inner.operand (omega (arith, less));
      width = refl;
      value = λ scene is fits.
          let a = value_of scene x in
          ap (λ k. k % 2 ^ w) (from_lowest a)
          ∙ low_of_widened_narrow signed v (width_of bits x) w a (omega (arith, less)) (omega (arith, more)) (fits_in bits (width_of bits x) x inner.operand refl scene is fits)
          ∙ sym (ap (λ k. k % 2 ^ w) (from_lowest (value_of scene (Widen signed v x))) ∙ in_scene bits scene (λ k. widened signed v k a % 2 ^ w) x is);
    })

wide_at : (bits : List ℕ) (w v : ℕ) (signed : Bool) (x : Expr) → width_of bits x < w → IsSimplerUnder bits (Part w 0 (Widen signed v x)) (Widen signed w x)
wide_at bits w v signed x more =
    simpler_within bits (Part w 0 (Widen signed v x)) (Widen signed w x) (widen_within w 0 signed w (Widen signed v x) x (within_widen signed v x)) (λ widths ok.
    let outer = part_parts bits w 0 (Widen signed v x) ok in
    let inner = widen_parts bits signed v x outer.operand in
    let bound : w ≤ v = low_bound bits w (Widen signed v x) ok in
    record {
      formed = formed_widened bits signed w x outer.width inner.operand more;
      width = refl;
      value = λ scene is fits.
          let a = value_of scene x in
          in_scene bits scene (λ k. widened signed w k a) x is
          ∙ low_of_widened_wide signed v (width_of bits x) w a (omega (arith, more)) bound (fits_in bits (width_of bits x) x inner.operand refl scene is fits)
          ∙ sym (ap (λ k. k % 2 ^ w) (from_lowest (value_of scene (Widen signed v x))) ∙ in_scene bits scene (λ k. widened signed v k a % 2 ^ w) x is);
    })

above_at : (bits : List ℕ) (w n v : ℕ) (x : Expr) → width_of bits x ≤ n → IsSimplerUnder bits (Part w n (Widen false v x)) (Const w 0)
above_at bits w n v x more =
    simpler_within bits (Part w n (Widen false v x)) (Const w 0) (constant_within (Part w n (Widen false v x)) w 0 (omega (arith, (within_widen false v x).nodes))) (λ widths ok.
    let outer = part_parts bits w n (Widen false v x) ok in
    let inner = widen_parts bits false v x outer.operand in
    record {
      formed = formed_number bits w 0 outer.width (pow_pos w);
      width = refl;
      value = λ scene is fits. nothing_above (value_of scene x) (width_of bits x) n w (fits_in bits (width_of bits x) x inner.operand refl scene is fits) more;
    })

lowest_chosen : (bits : List ℕ) (w v : ℕ) (signed : Bool) (x o : Expr) (narrow wide : Bool) → (narrow ≡ true → w < width_of bits x) → (wide ≡ true → width_of bits x < w)
    → (if narrow then Some (Part w 0 x) else if wide then Some (Widen signed w x) else None) ≡ Some o → IsSimplerUnder bits (Part w 0 (Widen signed v x)) o
lowest_chosen bits w v signed x o true wide less more e =
    let is : Part w 0 x ≡ o = cc in
    subst (λ (z : Expr). IsSimplerUnder bits (Part w 0 (Widen signed v x)) z) is (narrow_at bits w v signed x (less refl))
lowest_chosen bits w v signed x o false true less more e =
    let is : Widen signed w x ≡ o = cc in
    subst (λ (z : Expr). IsSimplerUnder bits (Part w 0 (Widen signed v x)) z) is (wide_at bits w v signed x (more refl))
lowest_chosen bits w v signed x o false false less more e = cc

above_chosen : (bits : List ℕ) (w n v : ℕ) (signed : Bool) (x o : Expr) → (if not signed && nat_le (width_of bits x) n then Some (Const w 0) else None) ≡ Some o
    → IsSimplerUnder bits (Part w n (Widen signed v x)) o
above_chosen bits w n v true x o e = cc
above_chosen bits w n v false x o e =
    let t = told (nat_le (width_of bits x) n) (Const w 0) o e in
    subst (λ (z : Expr). IsSimplerUnder bits (Part w n (Widen false v x)) z) t.1 (above_at bits w n v x (leb-true (width_of bits x) n t.0))

widened_chosen : (bits : List ℕ) (w n v : ℕ) (signed : Bool) (x o : Expr) (lowest : Bool) → (lowest ≡ true → n ≡ 0)
    → (if lowest then low_of_widened bits w signed x else if not signed && nat_le (width_of bits x) n then Some (Const w 0) else None) ≡ Some o
    → IsSimplerUnder bits (Part w n (Widen signed v x)) o
widened_chosen bits w n v signed x o true zero e =
    subst (λ k. IsSimplerUnder bits (Part w k (Widen signed v x)) o) (sym (zero refl))
    (lowest_chosen bits w v signed x o (nat_lt w (width_of bits x)) (nat_lt (width_of bits x) w) (ltb-true w (width_of bits x)) (ltb-true (width_of bits x) w) e)
widened_chosen bits w n v signed x o false zero e = above_chosen bits w n v signed x o e

part_of_widened_simpler : (bits : List ℕ) (e o : Expr) → part_of_widened bits e ≡ Some o → IsSimplerUnder bits e o
part_of_widened_simpler bits (Part w n (Widen signed v x)) o e = widened_chosen bits w n v signed x o (n == 0) (eqb-true n 0) e
part_of_widened_simpler bits e o is = cc

pub meets_52 : (bits : List ℕ) (e : Expression) (r : Answer) → Gives r (part_of_widened bits (expr_of e)) → MeetsRuleUnder 52 bits e r
meets_52 bits e r h = meets_given 52 bits e r (part_of_widened bits (expr_of e)) (omega arith) (part_of_widened_simpler bits (expr_of e)) h

-- Low bits under a mask.

masked_at : (bits : List ℕ) (w v u c : ℕ) (x : Expr) → c % 2 ^ w ≡ ones w → IsSimplerUnder bits (Part w 0 (Binary And v x (Const u c))) (Part w 0 x)
masked_at bits w v u c x all =
    simpler_within bits (Part w 0 (Binary And v x (Const u c))) (Part w 0 x)
    (part_within w 0 w 0 (Binary And v x (Const u c)) x (within_left And v x (Const u c))) (λ widths ok.
    let outer = part_parts bits w 0 (Binary And v x (Const u c)) ok in
    let inner = operated bits And v x (Const u c) outer.operand in
    let bound : w ≤ v = low_bound bits w (Binary And v x (Const u c)) ok in
    record {
      formed = formed_part bits w 0 x outer.width inner.left (omega (arith, bound, inner.left_width));
      width = refl;
      value = λ scene is fits.
          let a = value_of scene x in
          ap (λ k. k % 2 ^ w) (from_lowest a)
          ∙ sym (ap (λ k. k % 2 ^ w) (from_lowest (bit_and a c)) ∙ and_mod a c w ∙ ap (λ k. bit_and (a % 2 ^ w) k) all ∙ and_mask (a % 2 ^ w) w ∙ low_again a w w (omega arith));
    })

part_of_masked_simpler : (bits : List ℕ) (e o : Expr) → part_of_masked e ≡ Some o → IsSimplerUnder bits e o
part_of_masked_simpler bits (Part w n (Binary f v x (Const u c))) o e =
    let t = told (n == 0 && same_binary f And && is_width w && c % 2 ^ w == ones w) (Part w 0 x) o e in
    let three = both (n == 0 && same_binary f And && is_width w) (c % 2 ^ w == ones w) t.0 in
    let two = both (n == 0 && same_binary f And) (is_width w) three.0 in
    let one = both (n == 0) (same_binary f And) two.0 in
    subst (λ (z : Expr). IsSimplerUnder bits (Part w n (Binary f v x (Const u c))) z) t.1
    (subst (λ k. IsSimplerUnder bits (Part w k (Binary f v x (Const u c))) (Part w 0 x)) (sym (eqb-true n 0 one.0))
    (subst (λ (g : BinOp). IsSimplerUnder bits (Part w 0 (Binary g v x (Const u c))) (Part w 0 x)) (sym (binary_same f And one.1))
    (masked_at bits w v u c x (eqb-true (c % 2 ^ w) (ones w) three.1))))
part_of_masked_simpler bits e o is = cc

pub meets_63 : (bits : List ℕ) (e : Expression) (r : Answer) → Gives r (part_of_masked (expr_of e)) → MeetsRuleUnder 63 bits e r
meets_63 bits e r h = meets_given 63 bits e r (part_of_masked (expr_of e)) (omega arith) (part_of_masked_simpler bits (expr_of e)) h

-- Low bits of what an operator makes.

-- What is known of an expression for the low bits of another.
record IsLow (bits : List ℕ) (w : ℕ) (x y : Expr) : Type 0 where
  adds : AddsNothing x y
  nodes : nodes_of y ≤ nodes_of x
  formed : is_expr bits x ≡ true → is_expr bits y ≡ true
  width : width_of bits y ≡ w
  value : is_expr bits x ≡ true → (scene : Environment) → scene.bits ≡ bits → Fits scene → value_of scene y ≡ value_of scene x % 2 ^ w

low_law : (bits : List ℕ) (w : ℕ) (x y : Expr) → low_of bits w x ≡ Some y → IsLow bits w x y
low_law bits w (Const v n) y e =
    let t = told (is_width w) (Const w (n % 2 ^ w)) y e in
    subst (λ (z : Expr). IsLow bits w (Const v n) z) t.1 (record {
      adds = record { depth = omega arith; truths = omega arith; reads = refl; addresses = refl };
      nodes = omega arith;
      formed = λ ok. formed_number bits w (n % 2 ^ w) t.0 (mod_below n (2 ^ w) (pow_pos w));
      width = refl;
      value = λ ok scene is fits. refl;
    })
low_law bits w (Widen signed v x) y e =
    let t = told (width_of bits x == w) x y e in
    let all : width_of bits x ≡ w = eqb-true (width_of bits x) w t.0 in
    subst (λ (z : Expr). IsLow bits w (Widen signed v x) z) t.1 (record {
      adds = (within_widen signed v x).adds;
      nodes = omega (arith, (within_widen signed v x).nodes);
      formed = λ ok. (widen_parts bits signed v x ok).operand;
      width = all;
      value = λ ok scene is fits.
          let h = widen_parts bits signed v x ok in
          let a = value_of scene x in
          let less : width_of bits x < v = ltb-true (width_of bits x) v h.narrower in
          sym (in_scene bits scene (λ k. widened signed v k a % 2 ^ w) x is ∙ ap (λ k. widened signed v k a % 2 ^ w) all
          ∙ narrowed_value signed w v a (omega (arith, less, all)) (fits_in bits w x h.operand all scene is fits));
    })
low_law bits w (Join a b) y e =
    let t = told (width_of bits b == w) b y e in
    let all : width_of bits b ≡ w = eqb-true (width_of bits b) w t.0 in
    subst (λ (z : Expr). IsLow bits w (Join a b) z) t.1 (record {
      adds = (within_low a b).adds;
      nodes = omega (arith, (within_low a b).nodes);
      formed = λ ok. (join_parts bits a b ok).low;
      width = all;
      value = λ ok scene is fits.
          sym (in_scene bits scene (λ k. (value_of scene a * 2 ^ k + value_of scene b) % 2 ^ w) b is ∙ ap (λ k. (value_of scene a * 2 ^ k + value_of scene b) % 2 ^ w) all
          ∙ mod-mul-add (value_of scene a) (2 ^ w) (value_of scene b) (fits_in bits w b (join_parts bits a b ok).low all scene is fits));
    })
low_law bits w x y e = cc

narrow_plain : (f : BinOp) → is_narrow f ≡ true → (is_comparison f ≡ false) × (is_division f ≡ false)
narrow_plain Add t = (refl, refl)
narrow_plain Sub t = (refl, refl)
narrow_plain Mul t = (refl, refl)
narrow_plain And t = (refl, refl)
narrow_plain Or t = (refl, refl)
narrow_plain Xor t = (refl, refl)
narrow_plain f t = absurd (true≢false (sym t))

narrowed_at : (bits : List ℕ) (f : BinOp) (w v : ℕ) (x y a b : Expr) → is_narrow f ≡ true → IsLow bits w x a → IsLow bits w y b
    → IsSimplerUnder bits (Part w 0 (Binary f v x y)) (Binary f w a b)
narrowed_at bits f w v x y a b narrow p q =
    let given : Expr = Part w 0 (Binary f v x y) in
    let plain = narrow_plain f narrow in
    let in_x : IsWithin given x = within_through given (Binary f v x y) x (within_part w 0 (Binary f v x y)) (within_left f v x y) in
    let in_y : IsWithin given y = within_through given (Binary f v x y) y (within_part w 0 (Binary f v x y)) (within_right f v x y) in
    let in_a : IsWithin given a = record { nodes = omega (arith, p.nodes, in_x.nodes); adds = adds_through given x a in_x.adds p.adds } in
    let in_b : IsWithin given b = record { nodes = omega (arith, q.nodes, in_y.nodes); adds = adds_through given y b in_y.adds q.adds } in
    record {
      meaning = λ widths ok.
          let outer = part_parts bits w 0 (Binary f v x y) ok in
          let inner = operated bits f v x y outer.operand in
          let all : width_of bits (Binary f v x y) ≡ v = ap (λ c. if c then 1 else v) plain.0 in
          let bound : w ≤ v = subst (λ k. w ≤ k) all (low_bound bits w (Binary f v x y) ok) in
          record {
            formed = formed_two bits f w a b plain.1
                (record { width = outer.width; left = p.formed inner.left; right = q.formed inner.right; left_width = p.width; right_width = q.width });
            width = ap (λ c. if c then 1 else w) plain.0;
            value = λ scene is fits.
                let m = value_of scene x in
                let n = value_of scene y in
                ap (λ k. binary_value f w k (value_of scene b)) (p.value inner.left scene is fits) ∙ ap (λ k. binary_value f w (m % 2 ^ w) k) (q.value inner.right scene is fits)
                ∙ narrow_law f narrow v w m n bound (fits_in bits v y inner.right inner.right_width scene is fits)
                ∙ ap (λ k. k % 2 ^ w) (sym (from_lowest (binary_value f v m n)));
          };
      nodes = omega (arith, p.nodes, q.nodes, nodes_of_two f v x y, nodes_of_two f w a b);
      adds = beside given a b f w in_a in_b (omega (arith, p.adds.depth, q.adds.depth))
          (omega (arith, p.adds.truths, q.adds.truths, truths_of_two f v x y, truths_of_two f w a b, truths_of_part w 0 (Binary f v x y)));
    }
  where
    truths_of_part : (w n : ℕ) (x : Expr) → truths_of (Part w n x) ≡ truths_of x
    truths_of_part w n x = refl

both_lows : (bits : List ℕ) (f : BinOp) (w v : ℕ) (x y o : Expr) (p q : Option Expr) → is_narrow f ≡ true → low_of bits w x ≡ p → low_of bits w y ≡ q → operator_on f w p q ≡ Some o
    → IsSimplerUnder bits (Part w 0 (Binary f v x y)) o
both_lows bits f w v x y o (Some a) (Some b) narrow is_p is_q e =
    let is : Binary f w a b ≡ o = cc in
    subst (λ (z : Expr). IsSimplerUnder bits (Part w 0 (Binary f v x y)) z) is (narrowed_at bits f w v x y a b narrow (low_law bits w x a is_p) (low_law bits w y b is_q))
both_lows bits f w v x y o (Some a) None narrow is_p is_q e = cc
both_lows bits f w v x y o None q narrow is_p is_q e = cc

narrowed_simpler : (bits : List ℕ) (e o : Expr) → narrowed bits e ≡ Some o → IsSimplerUnder bits e o
narrowed_simpler bits (Part w n (Binary f v x y)) o e =
    let t = chosen (n == 0 && is_narrow f) (operator_on f w (low_of bits w x) (low_of bits w y)) o e in
    let p = both (n == 0) (is_narrow f) t.0 in
    subst (λ k. IsSimplerUnder bits (Part w k (Binary f v x y)) o) (sym (eqb-true n 0 p.0))
    (both_lows bits f w v x y o (low_of bits w x) (low_of bits w y) p.1 refl refl t.1)
narrowed_simpler bits e o is = cc

pub meets_64 : (bits : List ℕ) (e : Expression) (r : Answer) → Gives r (narrowed bits (expr_of e)) → MeetsRuleUnder 64 bits e r
meets_64 bits e r h = meets_given 64 bits e r (narrowed bits (expr_of e)) (omega arith) (narrowed_simpler bits (expr_of e)) h
