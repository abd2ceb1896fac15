-- The rules on the opposite of a comparison, and on an exclusive or that undoes another.
use Rattle.std.proofs.Common.{◌≡◌, ℕ, suc, ◌+◌, ◌-◌, ◌*◌, ◌/◌, ◌%◌, ◌^◌, ◌<◌, ◌≤◌, max, cond, Bool, true, false, ◌&&◌, ◌||◌, not, ◌⊎◌, inl, inr, List, [], ◌∷◌, ◌++◌, length, Option, Some, None, Result, refl, sym, ap, ◌∙◌, subst, arith, length-append, true≢false, eqb-true, ℤ, pos, negsuc}
use Rattle.std.specs.Prelude.{if◌then◌else◌, ◌==◌, nat_lt, nat_le, int_lt, int_le, is_some, unwrap_or, bit_xor}
use Rattle.std.specs.Int.{from_bool}
use Rattle.std.specs.Option.{option_or}
use Rattle.std.specs.List.{list_all, flat_map, count_by}
use Rattle.std.proofs.lemmas.Bool.{cases_lt, lt-ltb, lt-leb, le-leb, eq-eqb}
use Rattle.std.proofs.lemmas.Nat.{xor_comm}
use Rattle.std.specs.Int.Bits.{xor_self, xor_zero_l, xor_assoc}
use Rattle.std.proofs.lemmas.List.Sums.{sum_by-cons, sum_by-append}
use Rattle.std.proofs.lemmas.Grind.{flat_map-append}
use Rattle.dcc_ir.specs.declared.syntax.Expr.{Expr as Expression}
use Rattle.dcc_ir.specs.declared.syntax.UnOp.{UnOp}
use Rattle.dcc_ir.specs.declared.syntax.UnOp.TheVariants.{Neg, Not, IsZero}
use Rattle.dcc_ir.specs.declared.syntax.BinOp.{BinOp}
use Rattle.dcc_ir.specs.declared.syntax.BinOp.TheVariants.{Sub, Xor, LtS, LtU, LeS, LeU}
use Rattle.dcc_ir.specs.Views.{expr_of}
use Rattle.dcc_ir.specs.Tree.{Expr, Const, Get, Load, Unary, Binary, Widen, Part, Join, Choose, Address}
use Rattle.dcc_ir.specs.Location.{same_location}
use Rattle.dcc_ir.specs.Value.{is_comparison, is_test, width_of, signed_at, unary_value, binary_value, Environment, value_of, Fits}
use Rattle.dcc_ir.specs.WellFormed.{is_width, is_division, divides_safely, is_expr}
use Rattle.dcc_ir.specs.Live.{is_among}
use Rattle.dcc_ir.specs.Use.{parts_of, got_by, addressed_by, reads_of, addresses_of}
use Rattle.dcc_ir.specs.Measure.{nodes_of, depth_of, is_truth, truths_of}
use Rattle.dcc_ir.specs.Forms.{same_unary, same_binary, same_expr}
use Rattle.dcc_ir.proofs.FitLaws.{both}
use Rattle.dcc_ir.proofs.PathLaws.{decided}
use Rattle.dcc_rules.specs.Simpler.{is_distance_among, MeansSame, KeepsMeaning, AddsNothing, IsSimplerUnder}
use Rattle.dcc_rules.specs.Rules.{MeetsRuleUnder}
use Rattle.dcc_rules.proofs.AmongLaws.{both_hold, among_one, among_through, number_same}
use Rattle.dcc_ir.proofs.LocationLaws.{location_same}
use Rattle.dcc_stdrules.specs.Rewriting.{Answers}
use Rattle.dcc_stdrules.proofs.SameLaws.{unary_same, binary_same, expr_same}
use Rattle.dcc_stdrules.proofs.WithinLaws.{IsWithin, within_through, within_unary, within_left, within_right}
use Rattle.dcc_stdrules.proofs.FormLaws.{call_meets_further}
use Rattle.dcc_stdrules.proofs.OperandLaws.{Answer, Operated, operated, fits_in}
use Rattle.dcc_stdrules.proofs.HalfLaws.{UnaryParts, unary_parts, simpler_within}
use Rattle.dcc_morerules.specs.Further.{is_opposite, turned, without, xor_twice}
use Rattle.dcc_morerules.proofs.SizeLaws.{counted, truths_of_one, truths_of_two, nodes_of_two, beside, formed_two, swap, turned_operands}

-- Opposites of comparisons.

-- the opposite of less is not greater
not_less : (a b : ℕ) → 2 ^ 1 - 1 - from_bool (nat_lt a b) ≡ from_bool (nat_le b a)
not_less a b = elim (cases_lt a b) [
  | inl s ↦ ap (λ t. 2 ^ 1 - 1 - from_bool t) (lt-ltb a b s) ∙ ap from_bool (sym (lt-leb b a s))
  | inr m ↦ ap (λ t. 2 ^ 1 - 1 - from_bool t) (lt-leb (suc a) b (omega (arith, m))) ∙ ap from_bool (sym (le-leb b a m))
]

not_less_or_same : (a b : ℕ) → 2 ^ 1 - 1 - from_bool (nat_le a b) ≡ from_bool (nat_lt b a)
not_less_or_same a b = elim (cases_lt b a) [
  | inl s ↦ ap (λ t. 2 ^ 1 - 1 - from_bool t) (lt-leb a b s) ∙ ap from_bool (sym (lt-ltb b a s))
  | inr m ↦ ap (λ t. 2 ^ 1 - 1 - from_bool t) (le-leb a b m) ∙ ap from_bool (sym (lt-leb (suc b) a (omega (arith, m))))
]

not_less_signed : (x y : ℤ) → 2 ^ 1 - 1 - from_bool (int_lt x y) ≡ from_bool (int_le y x)
not_less_signed (pos a) (pos b) = not_less a b
not_less_signed (pos a) (negsuc b) = refl
not_less_signed (negsuc a) (pos b) = refl
not_less_signed (negsuc a) (negsuc b) = not_less b a

not_less_or_same_signed : (x y : ℤ) → 2 ^ 1 - 1 - from_bool (int_le x y) ≡ from_bool (int_lt y x)
not_less_or_same_signed (pos a) (pos b) = not_less_or_same a b
not_less_or_same_signed (pos a) (negsuc b) = refl
not_less_or_same_signed (negsuc a) (pos b) = refl
not_less_or_same_signed (negsuc a) (negsuc b) = not_less_or_same b a

-- two operators of which one is the opposite of the other with its operands turned
pub record AreOpposite (f g : BinOp) : Type 0 where
  pub first : is_comparison f ≡ true
  pub second : is_comparison g ≡ true
  pub plain : is_division g ≡ false
  pub value : (w a b : ℕ) → 2 ^ 1 - 1 - binary_value f w a b ≡ binary_value g w b a

one_bit : (h : UnOp) → ◌≡◌ {A = ℕ} (if is_test h then 1 else 1) 1
one_bit Neg = refl
one_bit Not = refl
one_bit IsZero = refl

-- the operator that gives the opposite of a bit goes, and the comparison with it
pub opposite_at : (bits : List ℕ) (h : UnOp) (f g : BinOp) (w : ℕ) (x y : Expr) → AreOpposite f g
    → ((a b : ℕ) → unary_value h 1 (binary_value f w a b) ≡ 2 ^ 1 - 1 - binary_value f w a b) → IsSimplerUnder bits (Unary h 1 (Binary f w x y)) (Binary g w y x)
opposite_at bits h f g w x y opposite turns =
    let given : Expr = Unary h 1 (Binary f w x y) in
    let in_x : IsWithin given x = within_through given (Binary f w x y) x (within_unary h 1 (Binary f w x y)) (within_left f w x y) in
    let in_y : IsWithin given y = within_through given (Binary f w x y) y (within_unary h 1 (Binary f w x y)) (within_right f w x y) in
    let root_f : counted (is_comparison f) ≡ 1 = ap counted opposite.first in
    let root_g : counted (is_comparison g) ≡ 1 = ap counted opposite.second in
    record {
      meaning = λ widths ok.
          let o = operated bits f w x y (unary_parts bits h 1 (Binary f w x y) ok).operand in
          record {
            formed = formed_two bits g w y x opposite.plain (swap bits w x y o);
            width = ap (λ c. if c then 1 else w) opposite.second ∙ sym (one_bit h);
            value = λ scene is fits. sym (turns (value_of scene x) (value_of scene y) ∙ opposite.value w (value_of scene x) (value_of scene y));
          };
      nodes = omega (arith, nodes_of_two f w x y, nodes_of_two g w y x);
      adds = beside given y x g w in_y in_x (omega arith)
          (omega (arith, truths_of_two f w x y, truths_of_two g w y x, truths_of_one h 1 (Binary f w x y), root_f, root_g));
    }

pub less_opposite : AreOpposite LtS LeS
less_opposite = record { first = refl; second = refl; plain = refl; value = λ w a b. not_less_signed (signed_at w a) (signed_at w b) }

pub less_opposite_unsigned : AreOpposite LtU LeU
less_opposite_unsigned = record { first = refl; second = refl; plain = refl; value = λ w a b. not_less a b }

pub at_most_opposite : AreOpposite LeS LtS
at_most_opposite = record { first = refl; second = refl; plain = refl; value = λ w a b. not_less_or_same_signed (signed_at w a) (signed_at w b) }

pub at_most_opposite_unsigned : AreOpposite LeU LtU
at_most_opposite_unsigned = record { first = refl; second = refl; plain = refl; value = λ w a b. not_less_or_same a b }

opposite_simpler : (bits : List ℕ) (f g : BinOp) → AreOpposite f g → (e : Expr) → is_opposite f e ≡ true → IsSimplerUnder bits e (turned g e)
opposite_simpler bits f g h (Unary n v (Binary k w x y)) t =
    let two = both (same_unary n Not && v == 1) (same_binary k f) t in
    let one = both (same_unary n Not) (v == 1) two.0 in
    subst (λ (m : UnOp). IsSimplerUnder bits (Unary m v (Binary k w x y)) (Binary g w y x)) (sym (unary_same n Not one.0))
    (subst (λ m. IsSimplerUnder bits (Unary Not m (Binary k w x y)) (Binary g w y x)) (sym (eqb-true v 1 one.1))
    (subst (λ (m : BinOp). IsSimplerUnder bits (Unary Not 1 (Binary m w x y)) (Binary g w y x)) (sym (binary_same k f two.1)) (opposite_at bits Not f g w x y h (λ a b. refl))))
opposite_simpler bits f g h (Unary n v (Const v2 n2)) t = absurd (true≢false (sym t))
opposite_simpler bits f g h (Unary n v (Get l2)) t = absurd (true≢false (sym t))
opposite_simpler bits f g h (Unary n v (Load v2 y2)) t = absurd (true≢false (sym t))
opposite_simpler bits f g h (Unary n v (Unary g2 v2 y2)) t = absurd (true≢false (sym t))
opposite_simpler bits f g h (Unary n v (Widen s2 v2 y2)) t = absurd (true≢false (sym t))
opposite_simpler bits f g h (Unary n v (Part v2 m2 y2)) t = absurd (true≢false (sym t))
opposite_simpler bits f g h (Unary n v (Join y2 z2)) t = absurd (true≢false (sym t))
opposite_simpler bits f g h (Unary n v (Choose q2 y2 z2)) t = absurd (true≢false (sym t))
opposite_simpler bits f g h (Unary n v (Address d2)) t = absurd (true≢false (sym t))
opposite_simpler bits f g h (Const v2 n2) t = absurd (true≢false (sym t))
opposite_simpler bits f g h (Get l2) t = absurd (true≢false (sym t))
opposite_simpler bits f g h (Load v2 y2) t = absurd (true≢false (sym t))
opposite_simpler bits f g h (Binary g2 v2 y2 z2) t = absurd (true≢false (sym t))
opposite_simpler bits f g h (Widen s2 v2 y2) t = absurd (true≢false (sym t))
opposite_simpler bits f g h (Part v2 m2 y2) t = absurd (true≢false (sym t))
opposite_simpler bits f g h (Join y2 z2) t = absurd (true≢false (sym t))
opposite_simpler bits f g h (Choose q2 y2 z2) t = absurd (true≢false (sym t))
opposite_simpler bits f g h (Address d2) t = absurd (true≢false (sym t))

meets_opposite : (id : ℕ) (bits : List ℕ) (e : Expression) (r : Answer) (f g : BinOp) → 40 < id → AreOpposite f g → Answers r (is_opposite f (expr_of e)) (turned g (expr_of e)) → MeetsRuleUnder id bits e r
meets_opposite id bits e r f g past h answers =
    call_meets_further id bits e r (is_opposite f (expr_of e)) (turned g (expr_of e)) past (opposite_simpler bits f g h (expr_of e)) answers

pub meets_44 : (bits : List ℕ) (e : Expression) (r : Answer) → Answers r (is_opposite LtS (expr_of e)) (turned LeS (expr_of e)) → MeetsRuleUnder 44 bits e r
meets_44 bits e r h = meets_opposite 44 bits e r LtS LeS (omega arith) less_opposite h

pub meets_45 : (bits : List ℕ) (e : Expression) (r : Answer) → Answers r (is_opposite LtU (expr_of e)) (turned LeU (expr_of e)) → MeetsRuleUnder 45 bits e r
meets_45 bits e r h = meets_opposite 45 bits e r LtU LeU (omega arith) less_opposite_unsigned h

pub meets_46 : (bits : List ℕ) (e : Expression) (r : Answer) → Answers r (is_opposite LeS (expr_of e)) (turned LtS (expr_of e)) → MeetsRuleUnder 46 bits e r
meets_46 bits e r h = meets_opposite 46 bits e r LeS LtS (omega arith) at_most_opposite h

pub meets_47 : (bits : List ℕ) (e : Expression) (r : Answer) → Answers r (is_opposite LeU (expr_of e)) (turned LtU (expr_of e)) → MeetsRuleUnder 47 bits e r
meets_47 bits e r h = meets_opposite 47 bits e r LeU LtU (omega arith) at_most_opposite_unsigned h

-- An exclusive or that undoes another.

undone_first : (a d : ℕ) → bit_xor a (bit_xor a d) ≡ d
undone_first a d = sym (xor_assoc a a d) ∙ ap (λ k. bit_xor k d) (xor_self a) ∙ xor_zero_l d

-- what is left of an exclusive or stands in the whole one, at its width
left_of_xor : (bits : List ℕ) (w v : ℕ) (given a c d o : Expr) → IsWithin given o → (is_expr bits given ≡ true → Operated bits w a (Binary Xor v c d))
    → width_of bits given ≡ w → (Operated bits v c d → (is_expr bits o ≡ true) × (width_of bits o ≡ v))
    → ((scene : Environment) → value_of scene given ≡ value_of scene o) → IsSimplerUnder bits given o
left_of_xor bits w v given a c d o within parts width keeps value =
    simpler_within bits given o within (λ widths ok.
    let outer = parts ok in
    let inner = keeps (operated bits Xor v c d outer.right) in
    record { formed = inner.0; width = inner.1 ∙ outer.right_width ∙ sym width; value = λ scene is fits. sym (value scene) })

-- what is left of the right operand without the left one
right_rest : (bits : List ℕ) (w : ℕ) (a b o : Expr) → without a b ≡ Some o → IsSimplerUnder bits (Binary Xor w a b) o
right_rest bits w a (Binary k v c d) o e = elim (decided (same_binary k Xor)) [
  | inl t ↦
      let is : k ≡ Xor = binary_same k Xor t in
      let e' : (if same_expr c a then Some d else if same_expr d a then Some c else None) ≡ Some o =
      sym (ap (λ b. if b then (if same_expr c a then Some d else if same_expr d a then Some c else None) else None) t) ∙ e in
      subst (λ (m : BinOp). IsSimplerUnder bits (Binary Xor w a (Binary m v c d)) o) (sym is) (inside c d e')
  | inr n ↦ let none : None ≡ Some o = sym (ap (λ b. if b then (if same_expr c a then Some d else if same_expr d a then Some c else None) else None) n) ∙ e in cc
]
  where
    given : Expr → Expr → Expr
    given c d = Binary Xor w a (Binary Xor v c d)

    first : (d : Expr) → IsSimplerUnder bits (Binary Xor w a (Binary Xor v a d)) d
    first d =
        left_of_xor bits w v (Binary Xor w a (Binary Xor v a d)) a a d d
        (within_through (Binary Xor w a (Binary Xor v a d)) (Binary Xor v a d) d (within_right Xor w a (Binary Xor v a d)) (within_right Xor v a d))
        (λ ok. operated bits Xor w a (Binary Xor v a d) ok) refl (λ q. (q.right, q.right_width)) (λ scene. undone_first (value_of scene a) (value_of scene d))

    second : (c : Expr) → IsSimplerUnder bits (Binary Xor w a (Binary Xor v c a)) c
    second c =
        left_of_xor bits w v (Binary Xor w a (Binary Xor v c a)) a c a c
        (within_through (Binary Xor w a (Binary Xor v c a)) (Binary Xor v c a) c (within_right Xor w a (Binary Xor v c a)) (within_left Xor v c a))
        (λ ok. operated bits Xor w a (Binary Xor v c a) ok) refl (λ q. (q.left, q.left_width))
        (λ scene. ap (λ k. bit_xor (value_of scene a) k) (xor_comm (value_of scene c) (value_of scene a)) ∙ undone_first (value_of scene a) (value_of scene c))

    inside : (c d : Expr) → (if same_expr c a then Some d else if same_expr d a then Some c else None) ≡ Some o → IsSimplerUnder bits (Binary Xor w a (Binary Xor v c d)) o
    inside c d e = elim (decided (same_expr c a)) [
      | inl t ↦
          let got : Some d ≡ Some o = sym (ap (λ b. if b then Some d else if same_expr d a then Some c else None) t) ∙ e in
          let is : d ≡ o = cc in
          subst (λ (y : Expr). IsSimplerUnder bits (Binary Xor w a (Binary Xor v y d)) o) (sym (expr_same c a t)) (subst (λ (y : Expr). IsSimplerUnder bits (Binary Xor w a (Binary Xor v a d)) y) is (first d))
      | inr n ↦
          let rest : (if same_expr d a then Some c else None) ≡ Some o = sym (ap (λ b. if b then Some d else if same_expr d a then Some c else None) n) ∙ e in
          elim (decided (same_expr d a)) [
            | inl t ↦
                let got : Some c ≡ Some o = sym (ap (λ b. if b then Some c else None) t) ∙ rest in
                let is : c ≡ o = cc in
                subst (λ (y : Expr). IsSimplerUnder bits (Binary Xor w a (Binary Xor v c y)) o) (sym (expr_same d a t)) (subst (λ (y : Expr). IsSimplerUnder bits (Binary Xor w a (Binary Xor v c a)) y) is (second c))
            | inr m ↦ let none : None ≡ Some o = sym (ap (λ b. if b then Some c else None) m) ∙ rest in cc
          ]
    ]
right_rest bits w a (Const v2 n2) o e = cc
right_rest bits w a (Get l2) o e = cc
right_rest bits w a (Load v2 y2) o e = cc
right_rest bits w a (Unary g2 v2 y2) o e = cc
right_rest bits w a (Widen s2 v2 y2) o e = cc
right_rest bits w a (Part v2 m2 y2) o e = cc
right_rest bits w a (Join y2 z2) o e = cc
right_rest bits w a (Choose q2 y2 z2) o e = cc
right_rest bits w a (Address d2) o e = cc

either_rest : (bits : List ℕ) (w : ℕ) (a b o : Expr) (p q : Option Expr) → without a b ≡ p → without b a ≡ q → option_or p q ≡ Some o → IsSimplerUnder bits (Binary Xor w a b) o
either_rest bits w a b o (Some x) q is_p is_q e = let got : x ≡ o = cc in right_rest bits w a b o (is_p ∙ ap (λ y. Some y) got)
either_rest bits w a b o None q is_p is_q e = turned_operands bits Xor w a b o refl xor_comm (right_rest bits w b a o (is_q ∙ e))

xor_simpler : (bits : List ℕ) (e o : Expr) → xor_twice e ≡ Some o → IsSimplerUnder bits e o
xor_simpler bits (Binary k w a b) o e = elim (decided (same_binary k Xor)) [
  | inl t ↦
      let got : option_or (without a b) (without b a) ≡ Some o = sym (ap (λ c. if c then option_or (without a b) (without b a) else None) t) ∙ e in
      subst (λ (m : BinOp). IsSimplerUnder bits (Binary m w a b) o) (sym (binary_same k Xor t)) (either_rest bits w a b o (without a b) (without b a) refl refl got)
  | inr n ↦ let none : None ≡ Some o = sym (ap (λ c. if c then option_or (without a b) (without b a) else None) n) ∙ e in cc
]
xor_simpler bits (Const v2 n2) o e = cc
xor_simpler bits (Get l2) o e = cc
xor_simpler bits (Load v2 y2) o e = cc
xor_simpler bits (Unary g2 v2 y2) o e = cc
xor_simpler bits (Widen s2 v2 y2) o e = cc
xor_simpler bits (Part v2 m2 y2) o e = cc
xor_simpler bits (Join y2 z2) o e = cc
xor_simpler bits (Choose q2 y2 z2) o e = cc
xor_simpler bits (Address d2) o e = cc

some_of : (x : Option Expr) (d : Expr) → is_some x ≡ true → x ≡ Some (unwrap_or x d)
some_of (Some y) d t = refl
some_of None d t = absurd (true≢false (sym t))

pub meets_41 : (bits : List ℕ) (e : Expression) (r : Answer) → Answers r (is_some (xor_twice (expr_of e))) (unwrap_or (xor_twice (expr_of e)) (expr_of e)) → MeetsRuleUnder 41 bits e r
meets_41 bits e r h =
    call_meets_further 41 bits e r (is_some (xor_twice (expr_of e))) (unwrap_or (xor_twice (expr_of e)) (expr_of e)) (omega arith)
    (λ t. xor_simpler bits (expr_of e) (unwrap_or (xor_twice (expr_of e)) (expr_of e)) (some_of (xor_twice (expr_of e)) (expr_of e) t)) h
