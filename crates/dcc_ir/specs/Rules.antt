-- What a rule keeps, and what is left where no rule has a place any more.
use Rattle.std.specs.Prelude.{◌≡◌, ℕ, ◌<◌, ◌≤◌, Bool, true, false, not, ◌↔◌, List, All, Contains, Option, Some, None}
use Rattle.std.specs.Prelude.{option_map, Result, IfOk}
use Rattle.std.specs.List.{list_all}
use Rattle.std.specs.declared.alloc.AllocError.{AllocError}
use Rattle.dcc_ir.specs.declared.syntax.Expr.{Expr as Expression}
use Rattle.dcc_ir.specs.Views.{expr_of}
use Rattle.dcc_ir.specs.Tree.{Expr}
use Rattle.dcc_ir.specs.Value.{width_of, Environment, value_of, Fits}
use Rattle.dcc_ir.specs.WellFormed.{is_width, is_expr}
use Rattle.dcc_ir.specs.Use.{parts_of, reads_of, addresses_of}
use Rattle.dcc_ir.specs.Measure.{nodes_of, depth_of, truths_of}
use Rattle.dcc_ir.specs.Forms.{has_form}

-- widths of temporaries
abbrev pub are_widths : List ℕ → Bool
are_widths bits = list_all is_width bits

-- Wherever the given expression is well formed, so is the other, with the same width and the same value in every state.
-- It has fewer nodes, is no deeper, has no more truth nodes, and reads no other location and no other address.
pub record IsSimpler (given other : Expr) : Type 0 where
  pub formed : (bits : List ℕ) → are_widths bits ≡ true → is_expr bits given ≡ true → is_expr bits other ≡ true
  pub width : (bits : List ℕ) → are_widths bits ≡ true → is_expr bits given ≡ true
      → width_of bits other ≡ width_of bits given
  pub value : (scene : Environment) → are_widths scene.bits ≡ true → Fits scene → is_expr scene.bits given ≡ true
      → value_of scene other ≡ value_of scene given
  pub nodes : nodes_of other < nodes_of given
  pub depth : depth_of other ≤ depth_of given
  pub truths : truths_of other ≤ truths_of given
  pub reads : All (Contains (reads_of given)) (reads_of other)
  pub addresses : All (Contains (addresses_of given)) (addresses_of other)

-- What a rule of that number may answer for an expression: a simpler one, or none. A rule numbered 1 to 40 answers
-- exactly where the expression has the form of that number.
pub record RuleAnswers (id : ℕ) (given : Expr) (answer : Option Expr) : Type 0 where
  pub simpler : (other : Expr) → answer ≡ Some other → IsSimpler given other
  pub form : 1 ≤ id → id ≤ 40 → (answer ≡ None) ↔ (has_form id given ≡ false)

-- no part of the expression has the form of one of the numbers
abbrev pub is_normal : List ℕ → Expr → Bool
is_normal ids e = list_all (λ part. list_all (λ id. not (has_form id part)) ids) (parts_of e)

-- what a call of a rule of that number may answer
abbrev pub MeetsRule : ℕ → Expression → Result (Option Expression) AllocError → Type 0
MeetsRule id given result = IfOk result (λ answer. RuleAnswers id (expr_of given) (option_map expr_of answer))
