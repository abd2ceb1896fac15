-- The plan of a graph's text, from the plans of which it is made.
use Rattle.std.proofs.Common.{◌≡◌, ℕ, suc, List, [], ◌∷◌, refl, sym, ap, ap₂, ◌∙◌}
use Rattle.std.specs.List.{list_any}
use Rattle.std.proofs.Math.Path.{fun_ext}
use Rattle.dcc_ir.specs.Tree as inner
use Rattle.dcc_ir.specs.Tree.{Graph}
use Rattle.dcc_ir.specs.WellFormed.{IsGraph}
use Rattle.dcc_control.specs.Complete.{completed}
use Rattle.dcc_control.specs.GotoPlan.{jump, do_all, target_arms, places_from, goto_exit, goto_blocks, goto_plan}
use Rattle.dcc_control.specs.Plan.{Do, Mark, Jump, If, Switch, Return, Plan, item, Arms, arm}
use Rattle.dcc_control.specs.Told.{told_loops, told_arms}
use Rattle.dcc_control.specs.Valid.{IsPlanOf, has_step}
use Rattle.dcc_control.proofs.CompleteLaws.{steps-same, completed-valid}
use Rattle.dcc_control.proofs.GotoLaws.{goto-valid}
use Rattle.dcc_control.proofs.ToldLaws.{loops-valid}
use Rattle.dcc_control.proofs.ToldSteps.{steps-kept}
use Rattle.dcc_plan_check.specs.Structured.{BeginsReturns}
use Rattle.dcc_struct.proofs.GotoStructured.{begun-returns}
use Rattle.dcc_plan.proofs.PlacedItems.{goto-stands}
use Rattle.dcc_pipe.specs.Control.{IsControlOf}

-- The plan with jumps has no loop that a test could tell.

arms-told : (places targets : List ℕ) → told_arms (target_arms places targets) ≡ target_arms places targets
arms-told places [] = refl
arms-told places (target ∷ targets) = ap (arm (places_from 0 target places) (jump target)) (arms-told places targets)

exit-told : (b : ℕ) (exit : inner.Exit) (plan : Plan) → told_loops plan ≡ plan
    → told_loops (goto_exit b exit plan) ≡ goto_exit b exit plan
exit-told b (inner.Goto next) plan told = ap (item (Jump next)) told
exit-told b (inner.If test one other) plan told = ap (item (If b (jump one) (jump other))) told
exit-told b (inner.Switch e places) plan told =
    ap₂ (λ (arms : Arms) (rest : Plan). item (Switch b arms) rest) (arms-told places _) told
exit-told b (inner.Ret values) plan told = ap (item (Return b)) told
exit-told b inner.Stop plan told = told

stmts-told : (b m : ℕ) (stmts : List inner.Stmt) (plan : Plan) → told_loops plan ≡ plan
    → told_loops (do_all b m stmts plan) ≡ do_all b m stmts plan
stmts-told b m [] plan told = told
stmts-told b m (stmt ∷ stmts) plan told = ap (item (Do b m)) (stmts-told b (suc m) stmts plan told)

blocks-told : (b : ℕ) (blocks : List inner.Block) → told_loops (goto_blocks b blocks) ≡ goto_blocks b blocks
blocks-told b [] = refl
blocks-told b (block ∷ blocks) =
    ap (item (Mark b)) (stmts-told b 0 block.stmts _ (exit-told b block.exit _ (blocks-told (suc b) blocks)))

module _ (graph : Graph) where
  -- a text with steps for the same blocks has them on the same paths
  steps-alike : (plan other : Plan) → ((b : ℕ) → has_step graph other b ≡ has_step graph plan b)
      → BeginsReturns graph plan → BeginsReturns graph other
  steps-alike plan other same returns b between reached path =
      ap (λ test. list_any test (b ∷ between)) (fun_ext same) ∙ returns b between reached path

  -- the plan with its loops told by their tests, completed
  pub told-valid : (plan : Plan) → IsPlanOf graph plan → IsPlanOf graph (completed (told_loops plan))
  told-valid plan is = (completed-valid graph (told_loops plan) (loops-valid graph plan is)).0

  pub told-returns : (plan : Plan) → IsPlanOf graph plan → BeginsReturns graph plan
      → BeginsReturns graph (completed (told_loops plan))
  told-returns plan is returns =
      steps-alike plan (completed (told_loops plan))
      (λ b. steps-same graph (told_loops plan) b ∙ steps-kept graph plan is b) returns

  -- the plan with jumps, completed
  pub goto-control : IsGraph graph → IsControlOf graph (completed (goto_plan graph))
  goto-control formed =
      let plan = goto-valid graph formed in
      let whole = completed-valid graph (goto_plan graph) plan.0 in
      record {
        is_plan = whole.0;
        told = record { untold = goto_plan graph; is = sym (ap completed (blocks-told 0 graph.blocks)) };
        stands = goto-stands graph formed;
        returns = begun-returns graph (completed (goto_plan graph)) (whole.1 plan.1);
      }
