-- The rules that give an operand or 0 for an operator.
use Rattle.std.proofs.Common.{◌≡◌, ℕ, ◌+◌, ◌-◌, ◌*◌, ◌/◌, ◌%◌, ◌^◌, ◌<◌, ◌≤◌, Bool, true, false, ◌&&◌, ◌||◌, not, List, Result, Option, refl, sym, ap, ◌∙◌, subst, true≢false, eqb-true}
use Rattle.std.specs.Prelude.{if◌then◌else◌, ◌==◌, nat_lt}
use Rattle.std.proofs.lemmas.Bool.{lt-ltb}
use Rattle.std.proofs.lemmas.Nat.{pow_pos}
use Rattle.std.specs.Int.Bits.{and_self, or_self, xor_self, and_zero_r, or_zero_r, xor_zero_r}
use Rattle.std.specs.declared.alloc.AllocError.{AllocError}
use Rattle.dcc_ir.specs.declared.syntax.Expr.{Expr as Expression}
use Rattle.dcc_ir.specs.declared.syntax.BinOp.{BinOp}
use Rattle.dcc_ir.specs.declared.syntax.BinOp.TheVariants.{Add, Sub, Mul, And, Or, Xor, Shl, Shr, Sar}
use Rattle.dcc_ir.specs.Views.{expr_of}
use Rattle.dcc_ir.specs.Tree.{Expr, Const, Binary}
use Rattle.dcc_ir.specs.Value.{is_comparison, width_of, binary_value, Environment, value_of, Fits}
use Rattle.dcc_ir.specs.WellFormed.{is_width, is_division, divides_safely, is_expr}
use Rattle.dcc_ir.specs.Forms.{ones, zero_of, one_of, is_binary, left_is, right_is, are_same}
use Rattle.dcc_ir.specs.Rules.{are_widths}
use Rattle.dcc_ir.proofs.FitLaws.{both, value_fits}
use Rattle.dcc_rules.specs.Simpler.{MeansSame, KeepsMeaning, IsSimplerUnder}
use Rattle.dcc_rules.specs.Forms.{has_form_under}
use Rattle.dcc_rules.specs.Rules.{MeetsRuleUnder}
use Rattle.dcc_rules.proofs.AmongLaws.{both_hold}
use Rattle.dcc_stdrules.specs.declared.asked.Number.TheVariants.{Zero, One, Ones}
use Rattle.dcc_stdrules.specs.declared.asked.Asked.{Asked}
use Rattle.dcc_stdrules.specs.declared.asked.Asked.TheVariants.{LeftIs, RightIs, Same}
use Rattle.dcc_stdrules.specs.declared.asked.Given.{Given}
use Rattle.dcc_stdrules.specs.declared.asked.Given.TheVariants.{Left, Right, Nothing}
use Rattle.dcc_stdrules.specs.Rewriting.{asked_of, given_of, in_place, answer_where, Answers}
use Rattle.dcc_stdrules.proofs.SameLaws.{expr_same}
use Rattle.dcc_stdrules.proofs.WithinLaws.{within_left, within_right, constant_within, binary_nodes}
use Rattle.dcc_stdrules.proofs.FormLaws.{of_binary, number_is, call_meets}
use Rattle.dcc_stdrules.proofs.NumberLaws.{add_nothing, nothing_added, sub_nothing, sub_itself, times_nothing, times_one, one_times, and_ones, or_ones, up_by_nothing, down_by_nothing, down_by_nothing_signed}

-- What is known of the operands of a well-formed operator.
pub record Operated (bits : List ℕ) (w : ℕ) (a b : Expr) : Type 0 where
  pub width : is_width w ≡ true
  pub left : is_expr bits a ≡ true
  pub right : is_expr bits b ≡ true
  pub left_width : width_of bits a ≡ w
  pub right_width : width_of bits b ≡ w

pub operated : (bits : List ℕ) (f : BinOp) (w : ℕ) (a b : Expr) → is_expr bits (Binary f w a b) ≡ true → Operated bits w a b
operated bits f w a b ok =
    let five = both (is_width w && is_expr bits a && is_expr bits b && (width_of bits a == w) && (width_of bits b == w)) (not (is_division f) || divides_safely f w b) ok in
    let four = both (is_width w && is_expr bits a && is_expr bits b && (width_of bits a == w)) (width_of bits b == w) five.0 in
    let three = both (is_width w && is_expr bits a && is_expr bits b) (width_of bits a == w) four.0 in
    let two = both (is_width w && is_expr bits a) (is_expr bits b) three.0 in
    let one = both (is_width w) (is_expr bits a) two.0 in
    record { width = one.0; left = one.1; right = two.1; left_width = eqb-true (width_of bits a) w three.1; right_width = eqb-true (width_of bits b) w four.1 }

-- a well-formed operand fits its width in each state
pub fits_in : (bits : List ℕ) (w : ℕ) (a : Expr) → is_expr bits a ≡ true → width_of bits a ≡ w → (scene : Environment) → scene.bits ≡ bits → Fits scene → value_of scene a < 2 ^ w
fits_in bits w a ok e scene is fits =
    let ok' : is_expr scene.bits a ≡ true = subst (λ (k : List ℕ). is_expr k a ≡ true) (sym is) ok in
    let e' : width_of scene.bits a ≡ w = subst (λ (k : List ℕ). width_of k a ≡ w) (sym is) e in
    subst (λ k. value_of scene a < 2 ^ k) e' (value_fits scene fits a ok')

-- the width of an operator that is no comparison
operator_width : (f : BinOp) (w : ℕ) → is_comparison f ≡ false → (if is_comparison f then 1 else w) ≡ w
operator_width f w plain = ap (λ c. if c then 1 else w) plain

-- an operator whose value is that of its left operand
pub left_stays : (bits : List ℕ) (f : BinOp) (w : ℕ) (a b : Expr) → is_comparison f ≡ false
    → ((scene : Environment) → value_of scene a < 2 ^ w → binary_value f w (value_of scene a) (value_of scene b) ≡ value_of scene a)
    → IsSimplerUnder bits (Binary f w a b) a
left_stays bits f w a b plain law = record {
  meaning = λ widths ok.
      let h = operated bits f w a b ok in
      record {
        formed = h.left;
        width = h.left_width ∙ sym (operator_width f w plain);
        value = λ scene is fits. sym (law scene (fits_in bits w a h.left h.left_width scene is fits));
      };
  nodes = (within_left f w a b).nodes;
  adds = (within_left f w a b).adds;
}

-- an operator whose value is that of its right operand
pub right_stays : (bits : List ℕ) (f : BinOp) (w : ℕ) (a b : Expr) → is_comparison f ≡ false
    → ((scene : Environment) → value_of scene a < 2 ^ w → value_of scene b < 2 ^ w → binary_value f w (value_of scene a) (value_of scene b) ≡ value_of scene b)
    → IsSimplerUnder bits (Binary f w a b) b
right_stays bits f w a b plain law = record {
  meaning = λ widths ok.
      let h = operated bits f w a b ok in
      record {
        formed = h.right;
        width = h.right_width ∙ sym (operator_width f w plain);
        value = λ scene is fits. sym (law scene (fits_in bits w a h.left h.left_width scene is fits) (fits_in bits w b h.right h.right_width scene is fits));
      };
  nodes = (within_right f w a b).nodes;
  adds = (within_right f w a b).adds;
}

-- an operator whose value is always 0
pub nothing_is_left : (bits : List ℕ) (f : BinOp) (w : ℕ) (a b : Expr) → is_comparison f ≡ false
    → ((scene : Environment) → binary_value f w (value_of scene a) (value_of scene b) ≡ 0)
    → IsSimplerUnder bits (Binary f w a b) (Const w 0)
nothing_is_left bits f w a b plain law = record {
  meaning = λ widths ok.
      let h = operated bits f w a b ok in
      record {
        formed = both_hold (is_width w) (nat_lt 0 (2 ^ w)) h.width (lt-ltb 0 (2 ^ w) (pow_pos w));
        width = sym (operator_width f w plain);
        value = λ scene is fits. sym (law scene);
      };
  nodes = (constant_within (Binary f w a b) w 0 (binary_nodes f w a b)).nodes;
  adds = (constant_within (Binary f w a b) w 0 (binary_nodes f w a b)).adds;
}

-- what a rule of the number may answer for an operator whose operands are as asked
by_operands : (id : ℕ) (bits : List ℕ) (e : Expression) (r : Result (Option Expression) AllocError) (f : BinOp) (asked : Asked) (given : Given)
    → ((x : Expr) → has_form_under id bits x ≡ is_binary f (asked_of asked) x)
    → ((w : ℕ) (a b : Expr) → asked_of asked w a b ≡ true → IsSimplerUnder bits (Binary f w a b) (given_of given w a b))
    → Answers r (is_binary f (asked_of asked) (expr_of e)) (in_place given (expr_of e)) → MeetsRuleUnder id bits e r
by_operands id bits e r f asked given form law h =
    call_meets id bits e r (is_binary f (asked_of asked) (expr_of e)) (in_place given (expr_of e)) (form (expr_of e))
    (λ t. of_binary f (asked_of asked) (λ x. IsSimplerUnder bits x (in_place given x)) law (expr_of e) t) h

-- the right operand is a number
right_number : (bits : List ℕ) (f : BinOp) (number : ℕ → ℕ) (w : ℕ) (a b : Expr) (P : Expr → Expr → Type 0) → right_is number w a b ≡ true
    → P (Binary f w a (Const w (number w))) (Const w (number w)) → P (Binary f w a b) b
right_number bits f number w a b P t h = subst (λ x. P (Binary f w a x) x) (sym (number_is w (number w) b t)) h

-- the left operand is a number
left_number : (f : BinOp) (number : ℕ → ℕ) (w : ℕ) (a b : Expr) (P : Expr → Type 0) → left_is number w a b ≡ true
    → P (Binary f w (Const w (number w)) b) → P (Binary f w a b)
left_number f number w a b P t h = subst (λ x. P (Binary f w x b)) (sym (number_is w (number w) a t)) h

-- the operands are the same
one_operand : (f : BinOp) (w : ℕ) (a b : Expr) (P : Expr → Type 0) → are_same w a b ≡ true → P (Binary f w a a) → P (Binary f w a b)
one_operand f w a b P t h = subst (λ x. P (Binary f w a x)) (expr_same a b t) h

-- The rules.

abbrev pub Answer : Type 0
Answer = Result (Option Expression) AllocError

pub meets_1 : (bits : List ℕ) (e : Expression) (r : Answer) → Answers r (is_binary Add (asked_of (RightIs Zero)) (expr_of e)) (in_place Left (expr_of e)) → MeetsRuleUnder 1 bits e r
meets_1 bits e r h = by_operands 1 bits e r Add (RightIs Zero) Left (λ x. refl)
    (λ w a b t. right_number bits Add zero_of w a b (λ x y. IsSimplerUnder bits x a) t (left_stays bits Add w a (Const w (zero_of w)) refl (λ scene s. add_nothing w (value_of scene a) s))) h

pub meets_2 : (bits : List ℕ) (e : Expression) (r : Answer) → Answers r (is_binary Add (asked_of (LeftIs Zero)) (expr_of e)) (in_place Right (expr_of e)) → MeetsRuleUnder 2 bits e r
meets_2 bits e r h = by_operands 2 bits e r Add (LeftIs Zero) Right (λ x. refl)
    (λ w a b t. left_number Add zero_of w a b (λ x. IsSimplerUnder bits x b) t (right_stays bits Add w (Const w (zero_of w)) b refl (λ scene s s'. nothing_added w (value_of scene b) s'))) h

pub meets_3 : (bits : List ℕ) (e : Expression) (r : Answer) → Answers r (is_binary Sub (asked_of (RightIs Zero)) (expr_of e)) (in_place Left (expr_of e)) → MeetsRuleUnder 3 bits e r
meets_3 bits e r h = by_operands 3 bits e r Sub (RightIs Zero) Left (λ x. refl)
    (λ w a b t. right_number bits Sub zero_of w a b (λ x y. IsSimplerUnder bits x a) t (left_stays bits Sub w a (Const w (zero_of w)) refl (λ scene s. sub_nothing w (value_of scene a) s))) h

pub meets_4 : (bits : List ℕ) (e : Expression) (r : Answer) → Answers r (is_binary Sub (asked_of Same) (expr_of e)) (in_place Nothing (expr_of e)) → MeetsRuleUnder 4 bits e r
meets_4 bits e r h = by_operands 4 bits e r Sub Same Nothing (λ x. refl)
    (λ w a b t. one_operand Sub w a b (λ x. IsSimplerUnder bits x (Const w 0)) t (nothing_is_left bits Sub w a a refl (λ scene. sub_itself w (value_of scene a)))) h

pub meets_5 : (bits : List ℕ) (e : Expression) (r : Answer) → Answers r (is_binary Mul (asked_of (RightIs Zero)) (expr_of e)) (in_place Right (expr_of e)) → MeetsRuleUnder 5 bits e r
meets_5 bits e r h = by_operands 5 bits e r Mul (RightIs Zero) Right (λ x. refl)
    (λ w a b t. right_number bits Mul zero_of w a b (λ x y. IsSimplerUnder bits x y) t (right_stays bits Mul w a (Const w (zero_of w)) refl (λ scene s s'. times_nothing w (value_of scene a)))) h

pub meets_6 : (bits : List ℕ) (e : Expression) (r : Answer) → Answers r (is_binary Mul (asked_of (RightIs One)) (expr_of e)) (in_place Left (expr_of e)) → MeetsRuleUnder 6 bits e r
meets_6 bits e r h = by_operands 6 bits e r Mul (RightIs One) Left (λ x. refl)
    (λ w a b t. right_number bits Mul one_of w a b (λ x y. IsSimplerUnder bits x a) t (left_stays bits Mul w a (Const w (one_of w)) refl (λ scene s. times_one w (value_of scene a) s))) h

pub meets_7 : (bits : List ℕ) (e : Expression) (r : Answer) → Answers r (is_binary Mul (asked_of (LeftIs One)) (expr_of e)) (in_place Right (expr_of e)) → MeetsRuleUnder 7 bits e r
meets_7 bits e r h = by_operands 7 bits e r Mul (LeftIs One) Right (λ x. refl)
    (λ w a b t. left_number Mul one_of w a b (λ x. IsSimplerUnder bits x b) t (right_stays bits Mul w (Const w (one_of w)) b refl (λ scene s s'. one_times w (value_of scene b) s'))) h

pub meets_8 : (bits : List ℕ) (e : Expression) (r : Answer) → Answers r (is_binary And (asked_of (RightIs Zero)) (expr_of e)) (in_place Right (expr_of e)) → MeetsRuleUnder 8 bits e r
meets_8 bits e r h = by_operands 8 bits e r And (RightIs Zero) Right (λ x. refl)
    (λ w a b t. right_number bits And zero_of w a b (λ x y. IsSimplerUnder bits x y) t (right_stays bits And w a (Const w (zero_of w)) refl (λ scene s s'. and_zero_r (value_of scene a)))) h

pub meets_9 : (bits : List ℕ) (e : Expression) (r : Answer) → Answers r (is_binary And (asked_of (RightIs Ones)) (expr_of e)) (in_place Left (expr_of e)) → MeetsRuleUnder 9 bits e r
meets_9 bits e r h = by_operands 9 bits e r And (RightIs Ones) Left (λ x. refl)
    (λ w a b t. right_number bits And ones w a b (λ x y. IsSimplerUnder bits x a) t (left_stays bits And w a (Const w (ones w)) refl (λ scene s. and_ones w (value_of scene a) s))) h

pub meets_10 : (bits : List ℕ) (e : Expression) (r : Answer) → Answers r (is_binary And (asked_of Same) (expr_of e)) (in_place Left (expr_of e)) → MeetsRuleUnder 10 bits e r
meets_10 bits e r h = by_operands 10 bits e r And Same Left (λ x. refl)
    (λ w a b t. one_operand And w a b (λ x. IsSimplerUnder bits x a) t (left_stays bits And w a a refl (λ scene s. and_self (value_of scene a)))) h

pub meets_11 : (bits : List ℕ) (e : Expression) (r : Answer) → Answers r (is_binary Or (asked_of (RightIs Zero)) (expr_of e)) (in_place Left (expr_of e)) → MeetsRuleUnder 11 bits e r
meets_11 bits e r h = by_operands 11 bits e r Or (RightIs Zero) Left (λ x. refl)
    (λ w a b t. right_number bits Or zero_of w a b (λ x y. IsSimplerUnder bits x a) t (left_stays bits Or w a (Const w (zero_of w)) refl (λ scene s. or_zero_r (value_of scene a)))) h

pub meets_12 : (bits : List ℕ) (e : Expression) (r : Answer) → Answers r (is_binary Or (asked_of Same) (expr_of e)) (in_place Left (expr_of e)) → MeetsRuleUnder 12 bits e r
meets_12 bits e r h = by_operands 12 bits e r Or Same Left (λ x. refl)
    (λ w a b t. one_operand Or w a b (λ x. IsSimplerUnder bits x a) t (left_stays bits Or w a a refl (λ scene s. or_self (value_of scene a)))) h

pub meets_13 : (bits : List ℕ) (e : Expression) (r : Answer) → Answers r (is_binary Or (asked_of (RightIs Ones)) (expr_of e)) (in_place Right (expr_of e)) → MeetsRuleUnder 13 bits e r
meets_13 bits e r h = by_operands 13 bits e r Or (RightIs Ones) Right (λ x. refl)
    (λ w a b t. right_number bits Or ones w a b (λ x y. IsSimplerUnder bits x y) t (right_stays bits Or w a (Const w (ones w)) refl (λ scene s s'. or_ones w (value_of scene a) s))) h

pub meets_14 : (bits : List ℕ) (e : Expression) (r : Answer) → Answers r (is_binary Xor (asked_of (RightIs Zero)) (expr_of e)) (in_place Left (expr_of e)) → MeetsRuleUnder 14 bits e r
meets_14 bits e r h = by_operands 14 bits e r Xor (RightIs Zero) Left (λ x. refl)
    (λ w a b t. right_number bits Xor zero_of w a b (λ x y. IsSimplerUnder bits x a) t (left_stays bits Xor w a (Const w (zero_of w)) refl (λ scene s. xor_zero_r (value_of scene a)))) h

pub meets_15 : (bits : List ℕ) (e : Expression) (r : Answer) → Answers r (is_binary Xor (asked_of Same) (expr_of e)) (in_place Nothing (expr_of e)) → MeetsRuleUnder 15 bits e r
meets_15 bits e r h = by_operands 15 bits e r Xor Same Nothing (λ x. refl)
    (λ w a b t. one_operand Xor w a b (λ x. IsSimplerUnder bits x (Const w 0)) t (nothing_is_left bits Xor w a a refl (λ scene. xor_self (value_of scene a)))) h

pub meets_16 : (bits : List ℕ) (e : Expression) (r : Answer) → Answers r (is_binary Shl (asked_of (RightIs Zero)) (expr_of e)) (in_place Left (expr_of e)) → MeetsRuleUnder 16 bits e r
meets_16 bits e r h = by_operands 16 bits e r Shl (RightIs Zero) Left (λ x. refl)
    (λ w a b t. right_number bits Shl zero_of w a b (λ x y. IsSimplerUnder bits x a) t (left_stays bits Shl w a (Const w (zero_of w)) refl (λ scene s. up_by_nothing w (value_of scene a) s))) h

pub meets_17 : (bits : List ℕ) (e : Expression) (r : Answer) → Answers r (is_binary Shr (asked_of (RightIs Zero)) (expr_of e)) (in_place Left (expr_of e)) → MeetsRuleUnder 17 bits e r
meets_17 bits e r h = by_operands 17 bits e r Shr (RightIs Zero) Left (λ x. refl)
    (λ w a b t. right_number bits Shr zero_of w a b (λ x y. IsSimplerUnder bits x a) t (left_stays bits Shr w a (Const w (zero_of w)) refl (λ scene s. down_by_nothing (value_of scene a)))) h

pub meets_18 : (bits : List ℕ) (e : Expression) (r : Answer) → Answers r (is_binary Sar (asked_of (RightIs Zero)) (expr_of e)) (in_place Left (expr_of e)) → MeetsRuleUnder 18 bits e r
meets_18 bits e r h = by_operands 18 bits e r Sar (RightIs Zero) Left (λ x. refl)
    (λ w a b t. right_number bits Sar zero_of w a b (λ x y. IsSimplerUnder bits x a) t (left_stays bits Sar w a (Const w (zero_of w)) refl (λ scene s. down_by_nothing_signed w (value_of scene a) s))) h
