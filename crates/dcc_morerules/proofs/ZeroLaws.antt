-- The rule on 0 beside an expression.
use Rattle.std.proofs.Common.{◌≡◌, ℕ, suc, ◌+◌, ◌-◌, ◌*◌, ◌/◌, ◌%◌, ◌^◌, ◌<◌, ◌≤◌, max, Bool, true, false, ◌&&◌, ◌||◌, not, inl, inr, List, [], ◌∷◌, refl, sym, ap, ◌∙◌, subst, arith, true≢false, eqb-true}
use Rattle.std.specs.Prelude.{if◌then◌else◌, ◌==◌, nat_lt}
use Rattle.std.proofs.lemmas.Bool.{lt-ltb, eq-eqb}
use Rattle.dcc_ir.specs.declared.syntax.Expr.{Expr as Expression}
use Rattle.dcc_ir.specs.declared.syntax.UnOp.TheVariants.{Neg}
use Rattle.dcc_ir.specs.declared.syntax.BinOp.{BinOp}
use Rattle.dcc_ir.specs.declared.syntax.BinOp.TheVariants.{Sub}
use Rattle.dcc_ir.specs.Views.{expr_of}
use Rattle.dcc_ir.specs.Tree.{Expr, Const, Get, Load, Unary, Binary, Widen, Part, Join, Choose, Address}
use Rattle.dcc_ir.specs.Value.{width_of, binary_value, Environment, value_of, Fits}
use Rattle.dcc_ir.specs.WellFormed.{is_width, is_expr}
use Rattle.dcc_ir.specs.Forms.{same_binary}
use Rattle.dcc_ir.proofs.FitLaws.{both, either}
use Rattle.dcc_rules.specs.Simpler.{MeansSame, AddsNothing, IsSimplerUnder}
use Rattle.dcc_rules.specs.Rules.{MeetsRuleUnder}
use Rattle.dcc_rules.proofs.AmongLaws.{both_hold}
use Rattle.dcc_rules.proofs.ReducedLaws.{adds_nothing_to_itself}
use Rattle.dcc_stdrules.specs.Rewriting.{Answers}
use Rattle.dcc_stdrules.proofs.SameLaws.{binary_same}
use Rattle.dcc_stdrules.proofs.FormLaws.{call_meets_further}
use Rattle.dcc_stdrules.proofs.OperandLaws.{Answer, Operated, operated}
use Rattle.dcc_stdrules.proofs.HalfLaws.{JoinParts, join_parts}
use Rattle.dcc_morerules.specs.Further.{is_below_zero, at_double_width}

-- 0 beside an expression.

double : (w : ℕ) → (w == 8 || w == 16) ≡ true → (is_width (w + w) ≡ true) × (w < w + w)
double w t = elim (either (w == 8) (w == 16) t) [
  | inl e ↦ subst (λ k. (is_width (k + k) ≡ true) × (k < k + k)) (sym (eqb-true w 8 e)) (refl, omega arith)
  | inr e ↦ subst (λ k. (is_width (k + k) ≡ true) × (k < k + k)) (sym (eqb-true w 16 e)) (refl, omega arith)
]

widened_at : (bits : List ℕ) (w : ℕ) (x : Expr) → (w == 8 || w == 16) ≡ true → IsSimplerUnder bits (Join (Const w 0) x) (Widen false (w + w) x)
widened_at bits w x t = record {
  meaning = λ widths ok.
      let h = join_parts bits (Const w 0) x ok in
      let d = double w t in
      let narrow : width_of bits x < w + w = subst (λ k. k < w + w) h.alike d.1 in
      record {
        formed = both_hold (is_width (w + w) && is_expr bits x) (nat_lt (width_of bits x) (w + w)) (both_hold (is_width (w + w)) (is_expr bits x) d.0 h.low) (lt-ltb (width_of bits x) (w + w) narrow);
        width = ap (λ k. w + k) h.alike;
        value = λ scene is fits. plain (2 ^ width_of scene.bits x) (value_of scene x);
      };
  nodes = omega arith;
  adds = record { depth = omega arith; truths = (adds_nothing_to_itself x).truths; reads = (adds_nothing_to_itself x).reads; addresses = (adds_nothing_to_itself x).addresses };
}
  where
    plain : (m v : ℕ) → v ≡ 0 * m + v
    plain m v = omega arith

widened_simpler : (bits : List ℕ) (e : Expr) → is_below_zero e ≡ true → IsSimplerUnder bits e (at_double_width e)
widened_simpler bits (Join (Const w n) x) t =
    let p = both (n == 0) (w == 8 || w == 16) t in
    subst (λ k. IsSimplerUnder bits (Join (Const w k) x) (Widen false (w + w) x)) (sym (eqb-true n 0 p.0)) (widened_at bits w x p.1)
widened_simpler bits (Join (Get l2) x) t = absurd (true≢false (sym t))
widened_simpler bits (Join (Load v2 y2) x) t = absurd (true≢false (sym t))
widened_simpler bits (Join (Unary g2 v2 y2) x) t = absurd (true≢false (sym t))
widened_simpler bits (Join (Binary g2 v2 y2 z2) x) t = absurd (true≢false (sym t))
widened_simpler bits (Join (Widen s2 v2 y2) x) t = absurd (true≢false (sym t))
widened_simpler bits (Join (Part v2 m2 y2) x) t = absurd (true≢false (sym t))
widened_simpler bits (Join (Join y2 z2) x) t = absurd (true≢false (sym t))
widened_simpler bits (Join (Choose q2 y2 z2) x) t = absurd (true≢false (sym t))
widened_simpler bits (Join (Address d2) x) t = absurd (true≢false (sym t))
widened_simpler bits (Const v2 n2) t = absurd (true≢false (sym t))
widened_simpler bits (Get l2) t = absurd (true≢false (sym t))
widened_simpler bits (Load v2 y2) t = absurd (true≢false (sym t))
widened_simpler bits (Unary g2 v2 y2) t = absurd (true≢false (sym t))
widened_simpler bits (Binary g2 v2 y2 z2) t = absurd (true≢false (sym t))
widened_simpler bits (Widen s2 v2 y2) t = absurd (true≢false (sym t))
widened_simpler bits (Part v2 m2 y2) t = absurd (true≢false (sym t))
widened_simpler bits (Choose q2 y2 z2) t = absurd (true≢false (sym t))
widened_simpler bits (Address d2) t = absurd (true≢false (sym t))

pub meets_54 : (bits : List ℕ) (e : Expression) (r : Answer) → Answers r (is_below_zero (expr_of e)) (at_double_width (expr_of e)) → MeetsRuleUnder 54 bits e r
meets_54 bits e r h = call_meets_further 54 bits e r (is_below_zero (expr_of e)) (at_double_width (expr_of e)) (omega arith) (widened_simpler bits (expr_of e)) h
