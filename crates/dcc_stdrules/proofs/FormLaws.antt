-- What a test of an expression tells, and what a call that follows the test answers.
use Rattle.std.proofs.Common.{◌≡◌, ℕ, ◌<◌, ◌≤◌, Bool, true, false, ◌&&◌, List, Option, Some, None, option_map, Result, Ok, Err, IfOk, refl, sym, ap, ◌∙◌, subst, arith, true≢false, eqb-true}
use Rattle.std.specs.Prelude.{◌==◌}
use Rattle.std.specs.declared.alloc.AllocError.{AllocError}
use Rattle.dcc_ir.specs.declared.syntax.Expr.{Expr as Expression}
use Rattle.dcc_ir.specs.declared.syntax.BinOp.{BinOp}
use Rattle.dcc_ir.specs.declared.syntax.UnOp.{UnOp}
use Rattle.dcc_ir.specs.Views.{expr_of}
use Rattle.dcc_ir.specs.Tree.{Expr, Const, Get, Load, Unary, Binary, Widen, Part, Join, Choose, Address}
use Rattle.dcc_ir.specs.Forms.{same_binary, is_number, is_constant_of, Operands, is_binary}
use Rattle.dcc_ir.proofs.FitLaws.{both}
use Rattle.dcc_rules.specs.Simpler.{IsSimplerUnder}
use Rattle.dcc_rules.specs.Forms.{has_form_under}
use Rattle.dcc_rules.specs.Rules.{AnswersUnder, MeetsRuleUnder}
use Rattle.dcc_stdrules.specs.Rewriting.{answer_where, Answers}
use Rattle.dcc_stdrules.proofs.SameLaws.{binary_same}

-- What holds of an operator on operands that pass the test holds of each expression of that form.
pub of_binary : (f : BinOp) (test : Operands) (P : Expr → Type 0) → ((w : ℕ) (a b : Expr) → test w a b ≡ true → P (Binary f w a b)) → (e : Expr) → is_binary f test e ≡ true → P e
of_binary f test P have (Binary g w a b) t =
    let p = both (same_binary g f) (test w a b) t in
    subst (λ (h : BinOp). P (Binary h w a b)) (sym (binary_same g f p.0)) (have w a b p.1)
of_binary f test P have (Const w n) t = absurd (true≢false (sym t))
of_binary f test P have (Get l) t = absurd (true≢false (sym t))
of_binary f test P have (Load w a) t = absurd (true≢false (sym t))
of_binary f test P have (Unary g w a) t = absurd (true≢false (sym t))
of_binary f test P have (Widen s w a) t = absurd (true≢false (sym t))
of_binary f test P have (Part w m a) t = absurd (true≢false (sym t))
of_binary f test P have (Join a b) t = absurd (true≢false (sym t))
of_binary f test P have (Choose x a b) t = absurd (true≢false (sym t))
of_binary f test P have (Address d) t = absurd (true≢false (sym t))

pub number_is : (w n : ℕ) (e : Expr) → is_number w n e ≡ true → e ≡ Const w n
number_is w n (Const v m) t =
    let p = both (v == w) (m == n) t in
    ap (λ k. Const k m) (eqb-true v w p.0) ∙ ap (Const w) (eqb-true m n p.1)
number_is w n e t = absurd (true≢false (sym t))

pub constant_is : (w : ℕ) (e : Expr) → is_constant_of w e ≡ true → (n : ℕ) × (e ≡ Const w n)
constant_is w (Const v m) t = (m, ap (λ k. Const k m) (eqb-true v w t))
constant_is w e t = absurd (true≢false (sym t))

-- an answer that follows the test of the rule's form
pub answer_meets : (id : ℕ) (bits : List ℕ) (given : Expr) (answer : Option Expr) (test : Bool) (other : Expr) → has_form_under id bits given ≡ test
    → (test ≡ true → IsSimplerUnder bits given other) → answer ≡ answer_where test other → AnswersUnder id bits given answer
answer_meets id bits given answer true other form simpler is = record {
  simpler = λ o e. let same : other ≡ o = cc in subst (λ x. IsSimplerUnder bits given x) same (simpler refl);
  form = λ _ _. ((λ e. cc), (λ e. cc));
}
answer_meets id bits given answer false other form simpler is = record {
  simpler = λ o e. cc;
  form = λ _ _. ((λ _. form), (λ _. is));
}

-- a call that follows the test of the rule's form
pub call_meets : (id : ℕ) (bits : List ℕ) (given : Expression) (r : Result (Option Expression) AllocError) (test : Bool) (other : Expr)
    → has_form_under id bits (expr_of given) ≡ test → (test ≡ true → IsSimplerUnder bits (expr_of given) other) → Answers r test other → MeetsRuleUnder id bits given r
call_meets id bits given (Err e) test other form simpler h = tt
call_meets id bits given (Ok o) test other form simpler h = answer_meets id bits (expr_of given) (option_map expr_of o) test other form simpler h

-- an answer of a rule whose number has no form
further_meets : (id : ℕ) (bits : List ℕ) (given : Expr) (answer : Option Expr) (test : Bool) (other : Expr) → 40 < id
    → (test ≡ true → IsSimplerUnder bits given other) → answer ≡ answer_where test other → AnswersUnder id bits given answer
further_meets id bits given answer true other past simpler is = record {
  simpler = λ o e. let same : other ≡ o = cc in subst (λ x. IsSimplerUnder bits given x) same (simpler refl);
  form = λ low high. absurd (omega (arith, past, high));
}
further_meets id bits given answer false other past simpler is = record {
  simpler = λ o e. cc;
  form = λ low high. absurd (omega (arith, past, high));
}

-- a call of a rule whose number has no form
pub call_meets_further : (id : ℕ) (bits : List ℕ) (given : Expression) (r : Result (Option Expression) AllocError) (test : Bool) (other : Expr)
    → 40 < id → (test ≡ true → IsSimplerUnder bits (expr_of given) other) → Answers r test other → MeetsRuleUnder id bits given r
call_meets_further id bits given (Err e) test other past simpler h = tt
call_meets_further id bits given (Ok o) test other past simpler h = further_meets id bits (expr_of given) (option_map expr_of o) test other past simpler h
