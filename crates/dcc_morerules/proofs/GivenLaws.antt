-- What a call that gives an expression, or none, answers as a rule whose number has no form.
use Rattle.std.proofs.Common.{◌≡◌, ℕ, ◌<◌, ◌≤◌, Bool, true, false, List, Option, Some, None, option_map, Ok, Err, refl, sym, ap, ◌∙◌, arith}
use Rattle.std.specs.Prelude.{if◌then◌else◌}
use Rattle.dcc_ir.specs.declared.syntax.Expr.{Expr as Expression}
use Rattle.dcc_ir.specs.Views.{expr_of}
use Rattle.dcc_ir.specs.Tree.{Expr}
use Rattle.dcc_rules.specs.Simpler.{IsSimplerUnder}
use Rattle.dcc_rules.specs.Rules.{AnswersUnder, MeetsRuleUnder}
use Rattle.dcc_stdrules.proofs.OperandLaws.{Answer}
use Rattle.dcc_morerules.specs.Further.{Gives}

pub meets_given : (id : ℕ) (bits : List ℕ) (e : Expression) (r : Answer) (expected : Option Expr) → 40 < id
    → ((o : Expr) → expected ≡ Some o → IsSimplerUnder bits (expr_of e) o) → Gives r expected → MeetsRuleUnder id bits e r
meets_given id bits e (Err x) expected past simpler h = tt
meets_given id bits e (Ok o) expected past simpler h = record {
  simpler = λ other f. simpler other (sym h ∙ f);
  form = λ low high. absurd (omega (arith, past, high));
}

-- Where a choice gives something, the test passed.

pub chosen : {A : Type 0} (t : Bool) (x : Option A) (o : A) → (if t then x else None) ≡ Some o → (t ≡ true) × (x ≡ Some o)
chosen true x o e = (refl, e)
chosen false x o e = cc

pub told : {A : Type 0} (t : Bool) (x o : A) → (if t then Some x else None) ≡ Some o → (t ≡ true) × (x ≡ o)
told true x o e = let is : x ≡ o = cc in (refl, is)
told false x o e = cc

pub mapped : {A B : Type 0} (f : A → B) (x : Option A) (o : B) → option_map f x ≡ Some o → (a : A) × (x ≡ Some a) × (f a ≡ o)
mapped f (Some a) o e = let is : f a ≡ o = cc in (a, refl, is)
mapped f None o e = cc
