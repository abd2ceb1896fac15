-- The sizes of operators on expressions, and what adds nothing to an expression in which its operands stand.
use Rattle.std.proofs.Common.{◌≡◌, ℕ, suc, ◌+◌, ◌<◌, ◌≤◌, max, cond, Bool, true, false, ◌&&◌, ◌||◌, not, List, [], ◌∷◌, ◌++◌, length, refl, sym, ap, ◌∙◌, subst, arith, length-append, eqb-true}
use Rattle.std.specs.Prelude.{if◌then◌else◌, ◌==◌}
use Rattle.std.specs.List.{list_all, flat_map, count_by}
use Rattle.std.proofs.lemmas.Bool.{eq-eqb}
use Rattle.std.proofs.lemmas.List.Sums.{sum_by-cons, sum_by-append}
use Rattle.std.proofs.lemmas.Grind.{flat_map-append}
use Rattle.dcc_ir.specs.declared.syntax.UnOp.{UnOp}
use Rattle.dcc_ir.specs.declared.syntax.BinOp.{BinOp}
use Rattle.dcc_ir.specs.Tree.{Expr, Const, Get, Load, Unary, Binary, Widen, Part, Join, Choose, Address}
use Rattle.dcc_ir.specs.Location.{same_location}
use Rattle.dcc_ir.specs.Value.{is_comparison, is_test, width_of, binary_value, Environment, value_of}
use Rattle.dcc_ir.specs.WellFormed.{is_width, is_division, divides_safely, is_expr}
use Rattle.dcc_ir.specs.Live.{is_among}
use Rattle.dcc_ir.specs.Use.{parts_of, got_by, addressed_by, reads_of, addresses_of}
use Rattle.dcc_ir.specs.Measure.{nodes_of, depth_of, is_truth, truths_of}
use Rattle.dcc_ir.proofs.LocationLaws.{location_same}
use Rattle.dcc_rules.specs.Simpler.{is_distance_among, MeansSame, AddsNothing, IsSimplerUnder}
use Rattle.dcc_rules.proofs.AmongLaws.{both_hold, among_one, among_through, number_same}
use Rattle.dcc_rules.proofs.ReducedLaws.{adds_nothing_to_itself, adds_through}
use Rattle.dcc_stdrules.proofs.WithinLaws.{IsWithin, within_left, within_right}
use Rattle.dcc_stdrules.proofs.OperandLaws.{Operated, operated}

-- Sizes.

-- 1 for true
abbrev pub counted : Bool → ℕ
counted b = cond b 1 0

abbrev pub root_truth : Expr → ℕ
root_truth e = cond (is_truth e) 1 0

pub truths_of_two : (f : BinOp) (w : ℕ) (a b : Expr) → truths_of (Binary f w a b) ≡ counted (is_comparison f) + (truths_of a + truths_of b)
truths_of_two f w a b =
    sum_by-cons root_truth (Binary f w a b) (parts_of a ++ parts_of b) ∙ ap (λ k. counted (is_comparison f) + k) (sum_by-append root_truth (parts_of a) (parts_of b))

pub truths_of_one : (f : UnOp) (w : ℕ) (a : Expr) → truths_of (Unary f w a) ≡ counted (is_test f) + truths_of a
truths_of_one f w a = sum_by-cons root_truth (Unary f w a) (parts_of a)

pub nodes_of_two : (f : BinOp) (w : ℕ) (a b : Expr) → nodes_of (Binary f w a b) ≡ suc (nodes_of a + nodes_of b)
nodes_of_two f w a b = ap suc (length-append (parts_of a) (parts_of b))

-- an operator on what stands in the given expression
pub beside : (given a b : Expr) (f : BinOp) (w : ℕ) → IsWithin given a → IsWithin given b → suc (max (depth_of a) (depth_of b)) ≤ depth_of given
    → truths_of (Binary f w a b) ≤ truths_of given → AddsNothing given (Binary f w a b)
beside given a b f w p q shallow few = record {
  depth = shallow;
  truths = few;
  reads =
      ap (λ l. list_all (is_among (reads_of given)) l) (flat_map-append got_by (parts_of a) (parts_of b))
      ∙ among_one same_location (reads_of given) (reads_of a) (reads_of b) p.adds.reads q.adds.reads;
  addresses =
      ap (λ l. list_all (is_distance_among (addresses_of given)) l) (flat_map-append addressed_by (parts_of a) (parts_of b))
      ∙ among_one (λ x y. x == y) (addresses_of given) (addresses_of a) (addresses_of b) p.adds.addresses q.adds.addresses;
}

-- a well-formed operator that is no division
pub formed_two : (bits : List ℕ) (f : BinOp) (w : ℕ) (a b : Expr) → is_division f ≡ false → Operated bits w a b → is_expr bits (Binary f w a b) ≡ true
formed_two bits f w a b plain h =
    let f1 = both_hold (is_width w) (is_expr bits a) h.width h.left in
    let f2 = both_hold (is_width w && is_expr bits a) (is_expr bits b) f1 h.right in
    let f3 = both_hold (is_width w && is_expr bits a && is_expr bits b) (width_of bits a == w) f2 (eq-eqb (width_of bits a) w h.left_width) in
    let f4 = both_hold (is_width w && is_expr bits a && is_expr bits b && (width_of bits a == w)) (width_of bits b == w) f3 (eq-eqb (width_of bits b) w h.right_width) in
    both_hold (is_width w && is_expr bits a && is_expr bits b && (width_of bits a == w) && (width_of bits b == w)) (not (is_division f) || divides_safely f w b) f4
    (ap (λ c. not c || divides_safely f w b) plain)

-- the same operands under an operator that is no comparison where the first one is none
pub other_operator : (f g : BinOp) (w v : ℕ) (a b : Expr) → counted (is_comparison g) ≤ counted (is_comparison f) → AddsNothing (Binary f w a b) (Binary g v a b)
other_operator f g w v a b few = record {
  depth = omega arith;
  truths = omega (arith, few, truths_of_two f w a b, truths_of_two g v a b);
  reads = (adds_nothing_to_itself (Binary f w a b)).reads;
  addresses = (adds_nothing_to_itself (Binary f w a b)).addresses;
}

-- What takes the place of an operator on turned operands takes that of the operator.

pub swap : (bits : List ℕ) (w : ℕ) (a b : Expr) → Operated bits w a b → Operated bits w b a
swap bits w a b o = record { width = o.width; left = o.right; right = o.left; left_width = o.right_width; right_width = o.left_width }

pub turned_operands : (bits : List ℕ) (f : BinOp) (w : ℕ) (a b o : Expr) → is_division f ≡ false → ((x y : ℕ) → binary_value f w x y ≡ binary_value f w y x)
    → IsSimplerUnder bits (Binary f w b a) o → IsSimplerUnder bits (Binary f w a b) o
turned_operands bits f w a b o plain alike h = record {
  meaning = λ widths ok.
      let m = h.meaning widths (formed_two bits f w b a plain (swap bits w a b (operated bits f w a b ok))) in
      record { formed = m.formed; width = m.width; value = λ scene is fits. m.value scene is fits ∙ alike (value_of scene b) (value_of scene a) };
  nodes = omega (arith, h.nodes, nodes_of_two f w a b, nodes_of_two f w b a);
  adds = record {
    depth = omega (arith, h.adds.depth);
    truths = omega (arith, h.adds.truths, truths_of_two f w a b, truths_of_two f w b a);
    reads = among_through same_location location_same (reads_of (Binary f w a b)) (reads_of (Binary f w b a)) (reads_of o) back.reads h.adds.reads;
    addresses = among_through (λ x y. x == y) number_same (addresses_of (Binary f w a b)) (addresses_of (Binary f w b a)) (addresses_of o) back.addresses h.adds.addresses;
  };
}
  where
    back : AddsNothing (Binary f w a b) (Binary f w b a)
    back = beside (Binary f w a b) b a f w (within_right f w a b) (within_left f w a b) (omega arith) (omega (arith, truths_of_two f w a b, truths_of_two f w b a))
