-- What a rule's stored fact says of a call of it.
use Rattle.std.proofs.Common.{◌≡◌, ℕ, ◌<◌, ◌≤◌, Bool, true, false, not, ◌&&◌, ◌⊎◌, inl, inr, List, [], ◌∷◌, Option, Some, None, option_map, Result, Ok, Err, IfOk, refl, sym, ap, ◌∙◌, subst, arith}
use Rattle.std.specs.Prelude.{if◌then◌else◌, ◌==◌}
use Rattle.std.proofs.Math.Logic.{∥∥₁_elim}
use Rattle.std.proofs.Props.{props}
use Rattle.std.proofs.lemmas.Bool.{ne_eqb}
use Rattle.std.proofs.lemmas.Option.{slice_get_past}
use Rattle.std.specs.declared.alloc.AllocError.{AllocError}
use Rattle.dcc_ir.specs.declared.syntax.Expr.{Expr as Expression}
use Rattle.dcc_ir.specs.Views.{expr_of}
use Rattle.dcc_ir.specs.Tree.{Expr}
use Rattle.dcc_ir.specs.Forms.{forms, passes}
use Rattle.dcc_rules.specs.Simpler.{IsSimplerUnder}
use Rattle.dcc_rules.specs.Forms.{is_low_half, is_high_half, is_joined_again, is_whole, is_narrowed_again, has_form_under}
use Rattle.dcc_rules.specs.Rules.{AnswersUnder, MeetsRuleUnder, ListAnswers}

simpler-is-prop : (bits : List ℕ) (given other : Expr) → IsProp (IsSimplerUnder bits given other)
simpler-is-prop bits given other = hlevel props

-- a choice by a test that fails
pub otherwise : (b x y : Bool) → b ≡ false → (if b then x else y) ≡ y
otherwise true x y e = cc
otherwise false x y e = refl

differs : (id n : ℕ) → n < id → (id == n) ≡ false
differs id n less = ne_eqb id n (λ e. absurd (omega (arith, less, e)))

-- there are forty forms, and none has the number 0
pub no_form_past : (id : ℕ) (bits : List ℕ) (e : Expr) → 40 < id → has_form_under id bits e ≡ false
no_form_past id bits e more =
    otherwise (id == 35) (is_low_half bits e) _ (differs id 35 (omega (arith, more)))
    ∙ otherwise (id == 36) (is_high_half bits e) _ (differs id 36 (omega (arith, more)))
    ∙ otherwise (id == 37) (is_joined_again bits e) _ (differs id 37 (omega (arith, more)))
    ∙ otherwise (id == 38) (is_whole bits e) _ (differs id 38 (omega (arith, more)))
    ∙ otherwise (id == 39) (is_narrowed_again bits e) _ (differs id 39 (omega (arith, more)))
    ∙ ap (λ test. passes test e) (slice_get_past ((λ _. false) ∷ forms) id (omega (arith, more)))

numbered : (id : ℕ) → (id ≡ 0) ⊎ ((1 ≤ id) × (id ≤ 40)) ⊎ (40 < id)
numbered id = grind arith

-- a rule that answers none tells that the expression has not its form
silent : (id : ℕ) (bits : List ℕ) (given : Expr) → AnswersUnder id bits given None → has_form_under id bits given ≡ false
silent id bits given m = elim (numbered id) [
  | inl e ↦ subst (λ n. has_form_under n bits given ≡ false) (sym e) refl
  | inr rest ↦ elim rest [
    | inl within ↦ (m.form within.0 within.1).0 refl
    | inr more ↦ no_form_past id bits given more
  ]
]

alone : (b : Bool) → b ≡ false → (not b && true) ≡ true
alone true e = cc
alone false e = refl

pub call_answers : (id : ℕ) (bits : List ℕ) (given : Expression) (r : Result (Option Expression) AllocError) → ∥ MeetsRuleUnder id bits given r ∥₁ → IfOk r (λ answer. ListAnswers (id ∷ []) bits (expr_of given) (option_map expr_of answer))
call_answers id bits given (Err e) h = tt
call_answers id bits given (Ok (Some o)) h = record {
  simpler = λ other e. ∥∥₁_elim h (simpler-is-prop bits (expr_of given) other) (λ m. m.simpler other e);
  none = λ e. cc;
}
call_answers id bits given (Ok None) h = record {
  simpler = λ other e. cc;
  none = λ e. alone (has_form_under id bits (expr_of given)) (∥∥₁_elim h (hlevel props) (λ m. silent id bits (expr_of given) m));
}

-- what one rule answers, a list with that rule answers
pub answers_for_list : (ids more bits : List ℕ) (given : Expr) (answer : Option Expression) (simpler : Expression) → answer ≡ Some simpler → ListAnswers ids bits given (option_map expr_of answer) → ListAnswers more bits given (Some (expr_of simpler))
answers_for_list ids more bits given answer simpler is m = record {
  simpler = λ other e. m.simpler other (ap (option_map expr_of) is ∙ e);
  none = λ e. cc;
}
