-- What an expression tells of its width is so wherever it is well formed.
use Rattle.std.proofs.Common.{◌≡◌, ℕ, ◌+◌, Bool, true, false, ◌&&◌, ◌||◌, List, Option, Some, None, option_map, refl, sym, ap, ◌∙◌, subst, arith, true≢false, eqb-true, eq-eqb, inl, inr}
use Rattle.std.specs.Prelude.{if◌then◌else◌, ◌==◌, nat_lt, nat_le}
use Rattle.std.specs.Option.{option_or}
use Rattle.dcc_ir.specs.declared.syntax.Loc.{Loc}
use Rattle.dcc_ir.specs.declared.syntax.Loc.TheVariants.{Half, Flag, Cell, Temp}
use Rattle.dcc_ir.specs.Tree.{Expr, Const, Get, Load, Unary, Binary, Widen, Part, Join, Choose, Address}
use Rattle.dcc_ir.specs.Location.{location_width}
use Rattle.dcc_ir.specs.Value.{width_of}
use Rattle.dcc_ir.specs.WellFormed.{is_width, is_expr}
use Rattle.dcc_ir.specs.Forms.{same_expr, told_by_location, told_by, tells, is_low_of_join, is_high_of_join, is_join_of_halves, is_whole_part, is_part_of_widen, has_form}
use Rattle.dcc_ir.proofs.FitLaws.{both}
use Rattle.dcc_ir.proofs.PathLaws.{decided}
use Rattle.dcc_rules.specs.Forms.{is_low_half, is_high_half, is_joined_again, is_whole, is_narrowed_again, has_form_under}
use Rattle.dcc_rules.proofs.AmongLaws.{both_hold}
use Rattle.dcc_rules.proofs.FactLaws.{otherwise}

-- the widths of both parts of a well-formed Join are the same
join_alike : (bits : List ℕ) (a b : Expr) → is_expr bits (Join a b) ≡ true → (is_expr bits a ≡ true) × (is_expr bits b ≡ true) × (width_of bits a ≡ width_of bits b)
join_alike bits a b ok =
    let three = both (is_expr bits a && is_expr bits b && (width_of bits a == width_of bits b)) (width_of bits b == 8 || width_of bits b == 16) ok in
    let two = both (is_expr bits a && is_expr bits b) (width_of bits a == width_of bits b) three.0 in
    let one = both (is_expr bits a) (is_expr bits b) two.0 in
    (one.0, one.1, eqb-true (width_of bits a) (width_of bits b) two.1)

choose_alike : (bits : List ℕ) (x a b : Expr) → is_expr bits (Choose x a b) ≡ true → (is_expr bits a ≡ true) × (is_expr bits b ≡ true) × (width_of bits a ≡ width_of bits b)
choose_alike bits x a b ok =
    let four = both (is_expr bits x && is_expr bits a && is_expr bits b && (width_of bits x == 1)) (width_of bits a == width_of bits b) ok in
    let three = both (is_expr bits x && is_expr bits a && is_expr bits b) (width_of bits x == 1) four.0 in
    let two = both (is_expr bits x && is_expr bits a) (is_expr bits b) three.0 in
    let one = both (is_expr bits x) (is_expr bits a) two.0 in
    (one.1, two.1, eqb-true (width_of bits a) (width_of bits b) four.1)

operand_formed : (bits : List ℕ) (w first : ℕ) (x : Expr) → is_expr bits (Part w first x) ≡ true → is_expr bits x ≡ true
operand_formed bits w first x ok =
    let two = both (is_width w && is_expr bits x) (nat_le (first + w) (width_of bits x)) ok in
    (both (is_width w) (is_expr bits x) two.0).1

widened_formed : (bits : List ℕ) (s : Bool) (w : ℕ) (x : Expr) → is_expr bits (Widen s w x) ≡ true → is_expr bits x ≡ true
widened_formed bits s w x ok =
    let two = both (is_width w && is_expr bits x) (nat_lt (width_of bits x) w) ok in
    (both (is_width w) (is_expr bits x) two.0).1

told_location : (bits : List ℕ) (l : Loc) (w : ℕ) → told_by_location l ≡ Some w → location_width bits l ≡ w
told_location bits (Half r h) w e = cc
told_location bits (Flag f) w e = cc
told_location bits (Cell n h) w e = cc
told_location bits (Temp n) w e = cc

-- what either of two parts of one width tells is so
told_either : (p q : Option ℕ) (v w : ℕ) → ((u : ℕ) → p ≡ Some u → v ≡ u) → ((u : ℕ) → q ≡ Some u → v ≡ u) → option_or p q ≡ Some w → v ≡ w
told_either (Some u) q v w left right e = left w e
told_either None q v w left right e = right w e

doubled : (o : Option ℕ) (v w : ℕ) → ((u : ℕ) → o ≡ Some u → v ≡ u) → option_map (λ k. k + k) o ≡ Some w → v + v ≡ w
doubled (Some u) v w told e = let is : v ≡ u = told u refl in let same : u + u ≡ w = cc in ap (λ k. k + k) is ∙ same
doubled None v w told e = cc

pub told_width : (bits : List ℕ) (e : Expr) (w : ℕ) → is_expr bits e ≡ true → told_by e ≡ Some w → width_of bits e ≡ w
told_width bits (Const v n) w ok e = cc
told_width bits (Get l) w ok e = told_location bits l w e
told_width bits (Load v a) w ok e = cc
told_width bits (Unary f v a) w ok e = cc
told_width bits (Binary f v a b) w ok e = cc
told_width bits (Widen s v a) w ok e = cc
told_width bits (Part v m a) w ok e = cc
told_width bits (Join a b) w ok e =
    let h = join_alike bits a b ok in
    let both_told : width_of bits a + width_of bits a ≡ w =
    doubled (option_or (told_by a) (told_by b)) (width_of bits a) w
    (λ u f. told_either (told_by a) (told_by b) (width_of bits a) u (λ k g. told_width bits a k h.0 g) (λ k g. h.2 ∙ told_width bits b k h.1 g) f) e in
    ap (λ k. width_of bits a + k) (sym h.2) ∙ both_told
told_width bits (Choose x a b) w ok e =
    let h = choose_alike bits x a b ok in
    told_either (told_by a) (told_by b) (width_of bits a) w (λ k g. told_width bits a k h.0 g) (λ k g. h.2 ∙ told_width bits b k h.1 g) e
told_width bits (Address d) w ok e = cc

tells_width : (bits : List ℕ) (e : Expr) (w : ℕ) → is_expr bits e ≡ true → tells e w ≡ true → width_of bits e ≡ w
tells_width bits e w ok t = go (told_by e) refl t
  where
    go : (o : Option ℕ) → told_by e ≡ o → (elim o as (λ _. Bool) [ Some v ↦ v == w | None ↦ false ]) ≡ true → width_of bits e ≡ w
    go (Some v) is t = told_width bits e v ok is ∙ eqb-true v w t
    go None is t = absurd (true≢false (sym t))

low_told : (bits : List ℕ) (e : Expr) → is_expr bits e ≡ true → is_low_of_join e ≡ true → is_low_half bits e ≡ true
low_told bits (Part w first (Join a b)) ok t =
    let p = both (first == 0) (tells (Join a b) (w + w)) t in
    let inside = operand_formed bits w first (Join a b) ok in
    let h = join_alike bits a b inside in
    let all : width_of bits a + width_of bits b ≡ w + w = tells_width bits (Join a b) (w + w) inside p.1 in
    both_hold (first == 0) (width_of bits b == w) p.0 (eq-eqb (width_of bits b) w (omega (arith, h.2, all)))
low_told bits (Part w first (Const v2 n2)) ok t = absurd (true≢false (sym t))
low_told bits (Part w first (Get l2)) ok t = absurd (true≢false (sym t))
low_told bits (Part w first (Load v2 y2)) ok t = absurd (true≢false (sym t))
low_told bits (Part w first (Unary g2 v2 y2)) ok t = absurd (true≢false (sym t))
low_told bits (Part w first (Binary g2 v2 y2 z2)) ok t = absurd (true≢false (sym t))
low_told bits (Part w first (Widen s2 v2 y2)) ok t = absurd (true≢false (sym t))
low_told bits (Part w first (Part v2 m2 y2)) ok t = absurd (true≢false (sym t))
low_told bits (Part w first (Choose q2 y2 z2)) ok t = absurd (true≢false (sym t))
low_told bits (Part w first (Address d2)) ok t = absurd (true≢false (sym t))
low_told bits (Const v2 n2) ok t = absurd (true≢false (sym t))
low_told bits (Get l2) ok t = absurd (true≢false (sym t))
low_told bits (Load v2 y2) ok t = absurd (true≢false (sym t))
low_told bits (Unary g2 v2 y2) ok t = absurd (true≢false (sym t))
low_told bits (Binary g2 v2 y2 z2) ok t = absurd (true≢false (sym t))
low_told bits (Widen s2 v2 y2) ok t = absurd (true≢false (sym t))
low_told bits (Join y2 z2) ok t = absurd (true≢false (sym t))
low_told bits (Choose q2 y2 z2) ok t = absurd (true≢false (sym t))
low_told bits (Address d2) ok t = absurd (true≢false (sym t))

high_told : (bits : List ℕ) (e : Expr) → is_expr bits e ≡ true → is_high_of_join e ≡ true → is_high_half bits e ≡ true
high_told bits (Part w first (Join a b)) ok t =
    let p = both (first == w) (tells (Join a b) (w + w)) t in
    let inside = operand_formed bits w first (Join a b) ok in
    let h = join_alike bits a b inside in
    let all : width_of bits a + width_of bits b ≡ w + w = tells_width bits (Join a b) (w + w) inside p.1 in
    both_hold (first == w) (width_of bits a == w) p.0 (eq-eqb (width_of bits a) w (omega (arith, h.2, all)))
high_told bits (Part w first (Const v2 n2)) ok t = absurd (true≢false (sym t))
high_told bits (Part w first (Get l2)) ok t = absurd (true≢false (sym t))
high_told bits (Part w first (Load v2 y2)) ok t = absurd (true≢false (sym t))
high_told bits (Part w first (Unary g2 v2 y2)) ok t = absurd (true≢false (sym t))
high_told bits (Part w first (Binary g2 v2 y2 z2)) ok t = absurd (true≢false (sym t))
high_told bits (Part w first (Widen s2 v2 y2)) ok t = absurd (true≢false (sym t))
high_told bits (Part w first (Part v2 m2 y2)) ok t = absurd (true≢false (sym t))
high_told bits (Part w first (Choose q2 y2 z2)) ok t = absurd (true≢false (sym t))
high_told bits (Part w first (Address d2)) ok t = absurd (true≢false (sym t))
high_told bits (Const v2 n2) ok t = absurd (true≢false (sym t))
high_told bits (Get l2) ok t = absurd (true≢false (sym t))
high_told bits (Load v2 y2) ok t = absurd (true≢false (sym t))
high_told bits (Unary g2 v2 y2) ok t = absurd (true≢false (sym t))
high_told bits (Binary g2 v2 y2 z2) ok t = absurd (true≢false (sym t))
high_told bits (Widen s2 v2 y2) ok t = absurd (true≢false (sym t))
high_told bits (Join y2 z2) ok t = absurd (true≢false (sym t))
high_told bits (Choose q2 y2 z2) ok t = absurd (true≢false (sym t))
high_told bits (Address d2) ok t = absurd (true≢false (sym t))

joined_told : (bits : List ℕ) (e : Expr) → is_expr bits e ≡ true → is_join_of_halves e ≡ true → is_joined_again bits e ≡ true
joined_told bits (Join (Part w first x) (Part v second y)) ok t =
    let p = both (w == v && first == w && second == 0 && same_expr x y) (tells x (w + w)) t in
    let h = join_alike bits (Part w first x) (Part v second y) ok in
    both_hold (w == v && first == w && second == 0 && same_expr x y) (width_of bits x == w + w) p.0
    (eq-eqb (width_of bits x) (w + w) (tells_width bits x (w + w) (operand_formed bits w first x h.0) p.1))
joined_told bits (Join (Part w first x) (Const v2 n2)) ok t = absurd (true≢false (sym t))
joined_told bits (Join (Part w first x) (Get l2)) ok t = absurd (true≢false (sym t))
joined_told bits (Join (Part w first x) (Load v2 y2)) ok t = absurd (true≢false (sym t))
joined_told bits (Join (Part w first x) (Unary g2 v2 y2)) ok t = absurd (true≢false (sym t))
joined_told bits (Join (Part w first x) (Binary g2 v2 y2 z2)) ok t = absurd (true≢false (sym t))
joined_told bits (Join (Part w first x) (Widen s2 v2 y2)) ok t = absurd (true≢false (sym t))
joined_told bits (Join (Part w first x) (Join y2 z2)) ok t = absurd (true≢false (sym t))
joined_told bits (Join (Part w first x) (Choose q2 y2 z2)) ok t = absurd (true≢false (sym t))
joined_told bits (Join (Part w first x) (Address d2)) ok t = absurd (true≢false (sym t))
joined_told bits (Join (Const v2 n2) u) ok t = absurd (true≢false (sym t))
joined_told bits (Join (Get l2) u) ok t = absurd (true≢false (sym t))
joined_told bits (Join (Load v2 y2) u) ok t = absurd (true≢false (sym t))
joined_told bits (Join (Unary g2 v2 y2) u) ok t = absurd (true≢false (sym t))
joined_told bits (Join (Binary g2 v2 y2 z2) u) ok t = absurd (true≢false (sym t))
joined_told bits (Join (Widen s2 v2 y2) u) ok t = absurd (true≢false (sym t))
joined_told bits (Join (Join y2 z2) u) ok t = absurd (true≢false (sym t))
joined_told bits (Join (Choose q2 y2 z2) u) ok t = absurd (true≢false (sym t))
joined_told bits (Join (Address d2) u) ok t = absurd (true≢false (sym t))
joined_told bits (Const v2 n2) ok t = absurd (true≢false (sym t))
joined_told bits (Get l2) ok t = absurd (true≢false (sym t))
joined_told bits (Load v2 y2) ok t = absurd (true≢false (sym t))
joined_told bits (Unary g2 v2 y2) ok t = absurd (true≢false (sym t))
joined_told bits (Binary g2 v2 y2 z2) ok t = absurd (true≢false (sym t))
joined_told bits (Widen s2 v2 y2) ok t = absurd (true≢false (sym t))
joined_told bits (Part v2 m2 y2) ok t = absurd (true≢false (sym t))
joined_told bits (Choose q2 y2 z2) ok t = absurd (true≢false (sym t))
joined_told bits (Address d2) ok t = absurd (true≢false (sym t))

whole_told : (bits : List ℕ) (e : Expr) → is_expr bits e ≡ true → is_whole_part e ≡ true → is_whole bits e ≡ true
whole_told bits (Part w first x) ok t =
    let p = both (first == 0) (tells x w) t in
    both_hold (first == 0) (width_of bits x == w) p.0 (eq-eqb (width_of bits x) w (tells_width bits x w (operand_formed bits w first x ok) p.1))
whole_told bits (Const v2 n2) ok t = absurd (true≢false (sym t))
whole_told bits (Get l2) ok t = absurd (true≢false (sym t))
whole_told bits (Load v2 y2) ok t = absurd (true≢false (sym t))
whole_told bits (Unary g2 v2 y2) ok t = absurd (true≢false (sym t))
whole_told bits (Binary g2 v2 y2 z2) ok t = absurd (true≢false (sym t))
whole_told bits (Widen s2 v2 y2) ok t = absurd (true≢false (sym t))
whole_told bits (Join y2 z2) ok t = absurd (true≢false (sym t))
whole_told bits (Choose q2 y2 z2) ok t = absurd (true≢false (sym t))
whole_told bits (Address d2) ok t = absurd (true≢false (sym t))

narrowed_told : (bits : List ℕ) (e : Expr) → is_expr bits e ≡ true → is_part_of_widen e ≡ true → is_narrowed_again bits e ≡ true
narrowed_told bits (Part w first (Widen s v x)) ok t =
    let p = both (first == 0) (tells x w) t in
    both_hold (first == 0) (width_of bits x == w) p.0
    (eq-eqb (width_of bits x) w (tells_width bits x w (widened_formed bits s v x (operand_formed bits w first (Widen s v x) ok)) p.1))
narrowed_told bits (Part w first (Const v2 n2)) ok t = absurd (true≢false (sym t))
narrowed_told bits (Part w first (Get l2)) ok t = absurd (true≢false (sym t))
narrowed_told bits (Part w first (Load v2 y2)) ok t = absurd (true≢false (sym t))
narrowed_told bits (Part w first (Unary g2 v2 y2)) ok t = absurd (true≢false (sym t))
narrowed_told bits (Part w first (Binary g2 v2 y2 z2)) ok t = absurd (true≢false (sym t))
narrowed_told bits (Part w first (Part v2 m2 y2)) ok t = absurd (true≢false (sym t))
narrowed_told bits (Part w first (Join y2 z2)) ok t = absurd (true≢false (sym t))
narrowed_told bits (Part w first (Choose q2 y2 z2)) ok t = absurd (true≢false (sym t))
narrowed_told bits (Part w first (Address d2)) ok t = absurd (true≢false (sym t))
narrowed_told bits (Const v2 n2) ok t = absurd (true≢false (sym t))
narrowed_told bits (Get l2) ok t = absurd (true≢false (sym t))
narrowed_told bits (Load v2 y2) ok t = absurd (true≢false (sym t))
narrowed_told bits (Unary g2 v2 y2) ok t = absurd (true≢false (sym t))
narrowed_told bits (Binary g2 v2 y2 z2) ok t = absurd (true≢false (sym t))
narrowed_told bits (Widen s2 v2 y2) ok t = absurd (true≢false (sym t))
narrowed_told bits (Join y2 z2) ok t = absurd (true≢false (sym t))
narrowed_told bits (Choose q2 y2 z2) ok t = absurd (true≢false (sym t))
narrowed_told bits (Address d2) ok t = absurd (true≢false (sym t))

-- a choice by a test that passes
chosen : (b x y : Bool) → b ≡ true → (if b then x else y) ≡ x
chosen true x y e = refl
chosen false x y e = absurd (true≢false (sym e))

-- one of the numbered choices: where the number is this one, the test stands, and else the rest
by_number : (id n : ℕ) (x y : Bool) → (id ≡ n → x ≡ true) → y ≡ true → (if id == n then x else y) ≡ true
by_number id n x y here there = elim (decided (id == n)) [
  | inl t ↦ chosen (id == n) x y t ∙ here (eqb-true id n t)
  | inr f ↦ otherwise (id == n) x y f ∙ there
]

pub told_forms : (id : ℕ) (bits : List ℕ) (e : Expr) → is_expr bits e ≡ true → has_form id e ≡ true → has_form_under id bits e ≡ true
told_forms id bits e ok t =
    by_number id 35 (is_low_half bits e) _ (λ is. low_told bits e ok (subst (λ n. has_form n e ≡ true) is t))
    (by_number id 36 (is_high_half bits e) _ (λ is. high_told bits e ok (subst (λ n. has_form n e ≡ true) is t))
    (by_number id 37 (is_joined_again bits e) _ (λ is. joined_told bits e ok (subst (λ n. has_form n e ≡ true) is t))
    (by_number id 38 (is_whole bits e) _ (λ is. whole_told bits e ok (subst (λ n. has_form n e ≡ true) is t))
    (by_number id 39 (is_narrowed_again bits e) _ (λ is. narrowed_told bits e ok (subst (λ n. has_form n e ≡ true) is t)) t))))
