-- What a stored rule keeps, and what a list of them answers.
use Rattle.std.specs.Prelude.{◌≡◌, ℕ, ◌≤◌, true, false, ◌↔◌, List, Option, Some, None, option_map, Result, IfOk}
use Rattle.std.specs.declared.alloc.AllocError.{AllocError}
use Rattle.dcc_ir.specs.declared.syntax.Expr.{Expr as Expression}
use Rattle.dcc_ir.specs.Views.{expr_of}
use Rattle.dcc_ir.specs.Tree.{Expr}
use Rattle.dcc_rules.specs.Simpler.{IsSimplerUnder}
use Rattle.dcc_rules.specs.Forms.{has_form_under, has_no_form}

-- What a rule of that number may answer for an expression under these widths: a simpler one, or none. A rule numbered 1
-- to 40 answers exactly where the expression has the form of that number.
pub record AnswersUnder (id : ℕ) (bits : List ℕ) (given : Expr) (answer : Option Expr) : Type 0 where
  pub simpler : (other : Expr) → answer ≡ Some other → IsSimplerUnder bits given other
  pub form : 1 ≤ id → id ≤ 40 → (answer ≡ None) ↔ (has_form_under id bits given ≡ false)

-- what a call of a rule of that number may answer
abbrev pub MeetsRuleUnder : ℕ → List ℕ → Expression → Result (Option Expression) AllocError → Type 0
MeetsRuleUnder id bits given result =
    IfOk result (λ answer. AnswersUnder id bits (expr_of given) (option_map expr_of answer))

-- What a list of rules with these numbers may answer for an expression under these widths: a simpler one, or none where
-- the expression has the form of none of them.
pub record ListAnswers (ids bits : List ℕ) (given : Expr) (answer : Option Expr) : Type 0 where
  pub simpler : (other : Expr) → answer ≡ Some other → IsSimplerUnder bits given other
  pub none : answer ≡ None → has_no_form ids bits given ≡ true
