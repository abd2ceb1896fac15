-- The rules on sums of sums: two constants make one.
use Rattle.std.proofs.Common.{◌≡◌, ℕ, suc, ◌+◌, ◌-◌, ◌*◌, ◌/◌, ◌%◌, ◌^◌, ◌<◌, ◌≤◌, max, Bool, true, false, ◌&&◌, ◌||◌, not, ◌⊎◌, inl, inr, ◌↔◌, List, [], ◌∷◌, ◌++◌, length, Option, Some, None, Result, Ok, Err, IfOk, IfSome, option_map, rules, refl, sym, ap, ◌∙◌, subst, arith, length-append, true≢false, eqb-true, ltb-true}
use Rattle.std.specs.Prelude.{if◌then◌else◌, ◌==◌, nat_lt}
use Rattle.std.proofs.lemmas.Bool.{lt-ltb, eq-eqb}
use Rattle.std.proofs.Math.Nat.{mod-add-mod}
use Rattle.std.specs.declared.alloc.AllocError.{AllocError}
use Rattle.dcc_ir.specs.declared.syntax.Expr.{Expr as Expression}
use Rattle.dcc_ir.specs.declared.syntax.BinOp.{BinOp}
use Rattle.dcc_ir.specs.declared.syntax.BinOp.TheVariants.{Add, Sub}
use Rattle.dcc_ir.specs.Views.{expr_of}
use Rattle.dcc_ir.specs.Tree.{Expr, Const, Binary}
use Rattle.dcc_ir.specs.Value.{is_comparison, width_of, binary_value, Environment, value_of, Fits}
use Rattle.dcc_ir.specs.WellFormed.{is_width, is_division, divides_safely, is_expr}
use Rattle.dcc_ir.specs.Use.{parts_of}
use Rattle.dcc_ir.specs.Measure.{nodes_of, depth_of}
use Rattle.dcc_ir.specs.Forms.{same_binary, is_constant_of, is_sum_of_sum}
use Rattle.dcc_ir.proofs.FitLaws.{both, either}
use Rattle.dcc_rules.specs.Simpler.{MeansSame, KeepsMeaning, AddsNothing, IsSimplerUnder}
use Rattle.dcc_rules.specs.Forms.{has_form_under}
use Rattle.dcc_rules.specs.Rules.{AnswersUnder, MeetsRuleUnder}
use Rattle.dcc_rules.proofs.AmongLaws.{both_hold}
use Rattle.dcc_stdrules.specs.declared.moved.Sums.{Sums}
use Rattle.dcc_stdrules.specs.declared.moved.Sums.TheVariants.{Added, Subtracted, Mixed, Returned}
use Rattle.dcc_stdrules.specs.declared.moved.Moved.{Moved}
use Rattle.dcc_stdrules.specs.Sums.{outer_of, inner_of, adds_or_subtracts, IsMoved, IsSummed, AnswersSums}
use Rattle.dcc_stdrules.proofs.SameLaws.{binary_same}
use Rattle.dcc_stdrules.proofs.WithinLaws.{IsWithin, within_left, within_through, beside_constant, beside_constant_nodes}
use Rattle.dcc_stdrules.proofs.OperandLaws.{Answer, Operated, operated, fits_in}

-- A sum with one constant in the place of one with two.

-- an operator that adds or subtracts is no comparison and no division
plain_operator : (f : BinOp) → adds_or_subtracts f ≡ true → (is_comparison f ≡ false) × (is_division f ≡ false)
plain_operator f t = elim (either (same_binary f Add) (same_binary f Sub) t) [
  | inl e ↦ subst (λ (g : BinOp). (is_comparison g ≡ false) × (is_division g ≡ false)) (sym (binary_same f Add e)) (refl, refl)
  | inr e ↦ subst (λ (g : BinOp). (is_comparison g ≡ false) × (is_division g ≡ false)) (sym (binary_same f Sub e)) (refl, refl)
]

-- the two operators of a sum of a sum
outer_plain : (sums : Sums) → (is_comparison (outer_of sums) ≡ false) × (is_division (outer_of sums) ≡ false)
outer_plain Added = (refl, refl)
outer_plain Subtracted = (refl, refl)
outer_plain Mixed = (refl, refl)
outer_plain Returned = (refl, refl)

inner_plain : (sums : Sums) → (is_comparison (inner_of sums) ≡ false) × (is_division (inner_of sums) ≡ false)
inner_plain Added = (refl, refl)
inner_plain Subtracted = (refl, refl)
inner_plain Mixed = (refl, refl)
inner_plain Returned = (refl, refl)

operator_width : (f : BinOp) (w : ℕ) → is_comparison f ≡ false → (if is_comparison f then 1 else w) ≡ w
operator_width f w plain = ap (λ c. if c then 1 else w) plain

-- a well-formed sum
formed_sum : (bits : List ℕ) (f : BinOp) (w n : ℕ) (x : Expr) → is_division f ≡ false → is_width w ≡ true → is_expr bits x ≡ true → width_of bits x ≡ w → n < 2 ^ w
    → is_expr bits (Binary f w x (Const w n)) ≡ true
formed_sum bits f w n x plain width ok all few =
    let number : is_expr bits (Const w n) ≡ true = both_hold (is_width w) (nat_lt n (2 ^ w)) width (lt-ltb n (2 ^ w) few) in
    let f1 = both_hold (is_width w) (is_expr bits x) width ok in
    let f2 = both_hold (is_width w && is_expr bits x) (is_expr bits (Const w n)) f1 number in
    let f3 = both_hold (is_width w && is_expr bits x && is_expr bits (Const w n)) (width_of bits x == w) f2 (eq-eqb (width_of bits x) w all) in
    let f4 = both_hold (is_width w && is_expr bits x && is_expr bits (Const w n) && (width_of bits x == w)) (w == w) f3 (eq-eqb w w refl) in
    both_hold (is_width w && is_expr bits x && is_expr bits (Const w n) && (width_of bits x == w) && (w == w)) (not (is_division f) || divides_safely f w (Const w n)) f4
    (ap (λ b. not b || divides_safely f w (Const w n)) plain)

-- what holds of the sum with two constants
abbrev two : Sums → ℕ → ℕ → ℕ → Expr → Expr
two sums w c d x = Binary (outer_of sums) w (Binary (inner_of sums) w x (Const w c)) (Const w d)

operand_within : (sums : Sums) (w c d : ℕ) (x : Expr) → IsWithin (two sums w c d x) x
operand_within sums w c d x =
    within_through (two sums w c d x) (Binary (inner_of sums) w x (Const w c)) x
    (within_left (outer_of sums) w (Binary (inner_of sums) w x (Const w c)) (Const w d)) (within_left (inner_of sums) w x (Const w c))

-- one constant is simpler than two
summed_simpler : (bits : List ℕ) (sums : Sums) (w c d : ℕ) (x : Expr) (moved : Moved) → IsMoved sums w c d moved
    → IsSimplerUnder bits (two sums w c d x) (Binary moved.operator w x (Const w moved.number))
summed_simpler bits sums w c d x moved m =
    let plain = plain_operator moved.operator m.operator in
    record {
      meaning = λ widths ok.
          let outer = operated bits (outer_of sums) w (Binary (inner_of sums) w x (Const w c)) (Const w d) ok in
          let inner = operated bits (inner_of sums) w x (Const w c) outer.left in
          let small_c : c < 2 ^ w = ltb-true c (2 ^ w) (both (is_width w) (nat_lt c (2 ^ w)) inner.right).1 in
          let small_d : d < 2 ^ w = ltb-true d (2 ^ w) (both (is_width w) (nat_lt d (2 ^ w)) outer.right).1 in
          record {
            formed = formed_sum bits moved.operator w moved.number x plain.1 outer.width inner.left inner.left_width (m.fits outer.width small_c small_d);
            width = operator_width moved.operator w plain.0 ∙ sym (operator_width (outer_of sums) w (outer_plain sums).0);
            value = λ scene is fits. m.value outer.width small_c small_d (value_of scene x) (fits_in bits w x inner.left inner.left_width scene is fits);
          };
      nodes = omega (
        arith,
        beside_constant_nodes moved.operator w w moved.number x,
        beside_constant_nodes (inner_of sums) w w c x,
        beside_constant_nodes (outer_of sums) w w d (Binary (inner_of sums) w x (Const w c)),
      );
      adds = beside_constant (two sums w c d x) x moved.operator w w moved.number (operand_within sums w c d x) plain.0 (omega arith);
    }

-- What a rule on sums answers meets it.

sums_simpler : (bits : List ℕ) (sums : Sums) (given other : Expr) → IsSummed sums given other → IsSimplerUnder bits given other
sums_simpler bits sums given other s =
    subst (λ (y : Expr). IsSimplerUnder bits given y) (sym s.made)
    (subst (λ (y : Expr). IsSimplerUnder bits y (Binary s.moved.operator s.width s.operand (Const s.width s.moved.number))) (sym s.is)
    (summed_simpler bits sums s.width s.c s.d s.operand s.moved s.sum))

sums_meet : (id : ℕ) (bits : List ℕ) (sums : Sums) (given : Expr) (answer : Option Expr) → has_form_under id bits given ≡ is_sum_of_sum (outer_of sums) (inner_of sums) given
    → AnswersSums sums given answer → AnswersUnder id bits given answer
sums_meet id bits sums given answer form m = record {
  simpler = λ other e. sums_simpler bits sums given other (m.summed other e);
  form = λ low high. ((λ e. form ∙ m.form.0 e), (λ e. m.form.1 (sym form ∙ e)));
}

call_sums : (id : ℕ) (bits : List ℕ) (sums : Sums) (e : Expression) (r : Answer) → has_form_under id bits (expr_of e) ≡ is_sum_of_sum (outer_of sums) (inner_of sums) (expr_of e)
    → IfOk r (λ answer. AnswersSums sums (expr_of e) (option_map expr_of answer)) → MeetsRuleUnder id bits e r
call_sums id bits sums e (Err x) form h = tt
call_sums id bits sums e (Ok o) form h = sums_meet id bits sums (expr_of e) (option_map expr_of o) form h

-- a rule whose number has no form
pub further_sums : (id : ℕ) (bits : List ℕ) (sums : Sums) (e : Expression) (r : Answer) → 40 < id
    → IfOk r (λ answer. AnswersSums sums (expr_of e) (option_map expr_of answer)) → MeetsRuleUnder id bits e r
further_sums id bits sums e (Err x) past h = tt
further_sums id bits sums e (Ok o) past h = record {
  simpler = λ other f. sums_simpler bits sums (expr_of e) other (h.summed other f);
  form = λ low high. absurd (omega (arith, past, high));
}

pub meets_30 : (bits : List ℕ) (e : Expression) (r : Answer) → IfOk r (λ answer. AnswersSums Added (expr_of e) (option_map expr_of answer)) → MeetsRuleUnder 30 bits e r
meets_30 bits e r h = call_sums 30 bits Added e r refl h

pub meets_31 : (bits : List ℕ) (e : Expression) (r : Answer) → IfOk r (λ answer. AnswersSums Subtracted (expr_of e) (option_map expr_of answer)) → MeetsRuleUnder 31 bits e r
meets_31 bits e r h = call_sums 31 bits Subtracted e r refl h

pub meets_32 : (bits : List ℕ) (e : Expression) (r : Answer) → IfOk r (λ answer. AnswersSums Mixed (expr_of e) (option_map expr_of answer)) → MeetsRuleUnder 32 bits e r
meets_32 bits e r h = call_sums 32 bits Mixed e r refl h

-- What the code answers.

-- an expression that is no sum of a sum
pub no_sum : (sums : Sums) (given : Expr) → is_sum_of_sum (outer_of sums) (inner_of sums) given ≡ false → AnswersSums sums given None
no_sum sums given e = record { form = ((λ _. e), (λ _. refl)); summed = λ other f. cc }

sum_form : (sums : Sums) (w c d : ℕ) (x : Expr) → is_sum_of_sum (outer_of sums) (inner_of sums) (two sums w c d x) ≡ true
sum_form Added w c d x = both_hold (w == w && w == w) (w == w) (both_hold (w == w) (w == w) (eq-eqb w w refl) (eq-eqb w w refl)) (eq-eqb w w refl)
sum_form Subtracted w c d x = both_hold (w == w && w == w) (w == w) (both_hold (w == w) (w == w) (eq-eqb w w refl) (eq-eqb w w refl)) (eq-eqb w w refl)
sum_form Mixed w c d x = both_hold (w == w && w == w) (w == w) (both_hold (w == w) (w == w) (eq-eqb w w refl) (eq-eqb w w refl)) (eq-eqb w w refl)
sum_form Returned w c d x = both_hold (w == w && w == w) (w == w) (both_hold (w == w) (w == w) (eq-eqb w w refl) (eq-eqb w w refl)) (eq-eqb w w refl)

-- a sum of a sum
pub some_sum : (sums : Sums) (given : Expr) (f g : BinOp) (w v : ℕ) (x l r other : Expr) (c d : ℕ) (moved : Moved) → given ≡ Binary f w (Binary g v x l) r
    → same_binary f (outer_of sums) ≡ true → same_binary g (inner_of sums) ≡ true → w ≡ v → l ≡ Const w c → r ≡ Const w d → IsMoved sums w c d moved
    → other ≡ Binary moved.operator w x (Const w moved.number) → AnswersSums sums given (Some other)
some_sum sums given f g w v x l r other c d moved is out inn same is_c is_d m made =
    let p : given ≡ two sums w c d x =
    is ∙ ap (λ (h : BinOp). Binary h w (Binary g v x l) r) (binary_same f (outer_of sums) out)
    ∙ ap (λ (h : BinOp). Binary (outer_of sums) w (Binary h v x l) r) (binary_same g (inner_of sums) inn)
    ∙ ap (λ k. Binary (outer_of sums) w (Binary (inner_of sums) k x l) r) (sym same)
    ∙ ap (λ (y : Expr). Binary (outer_of sums) w (Binary (inner_of sums) w x y) r) is_c
    ∙ ap (λ (y : Expr). Binary (outer_of sums) w (Binary (inner_of sums) w x (Const w c)) y) is_d in
    record {
      form = ((λ e. cc), (λ e. absurd (true≢false (sym (subst (λ (y : Expr). is_sum_of_sum (outer_of sums) (inner_of sums) y ≡ true) (sym p) (sum_form sums w c d x)) ∙ e))));
      summed = λ o e.
          let q : other ≡ o = cc in
          record { width = w; operand = x; c = c; d = d; moved = moved; is = p; sum = m; made = sym q ∙ made };
    }

-- A number is subtracted, and another one added: in the other order.

swapped : (m v c d : ℕ) → c < m → ((v + d) % m + m - c) % m ≡ ((v + m - c) % m + d) % m
swapped m v c d s =
    let first : ((v + d) % m + m - c) % m ≡ (v + d + m - c) % m =
    ap (λ k. k % m) (minus ((v + d) % m) m c s) ∙ mod-add-mod (v + d) m (m - c) ∙ ap (λ k. k % m) (sym (minus (v + d) m c s)) in
    let second : ((v + m - c) % m + d) % m ≡ (v + m - c + d) % m = mod-add-mod (v + m - c) m d in
    first ∙ ap (λ k. k % m) (omega (arith, s)) ∙ sym second
  where
    minus : (a m c : ℕ) → c < m → a + m - c ≡ a + (m - c)
    minus a m c s = omega (arith, s)

pub other_first : (w c d : ℕ) (moved : Moved) → IsMoved Mixed w d c moved → IsMoved Returned w c d moved
other_first w c d moved m = record {
  operator = m.operator;
  fits = λ width small_c small_d. m.fits width small_d small_c;
  value = λ width small_c small_d v s. m.value width small_d small_c v s ∙ swapped (2 ^ w) v c d small_c;
}
