-- The plan with jumps nests no deeper than one item.
use Rattle.std.proofs.Common.{ℕ, suc, ◌≤◌, List, [], ◌∷◌, arith}
use Rattle.std.proofs.Math.Nat.{max-le}
use Rattle.dcc_ir.specs.Tree as inner
use Rattle.dcc_control.specs.Plan.{Plan, arms_nest, nests}
use Rattle.dcc_control.specs.GotoPlan.{jump, distinct, target_arms, do_all, goto_exit, goto_blocks, goto_plan}

arms-flat : (places targets : List ℕ) → arms_nest (target_arms places targets) ≤ 0
arms-flat places [] = omega arith
arms-flat places (t ∷ targets) = max-le (omega arith) (arms-flat places targets)

stmts-flat : (b m : ℕ) (stmts : List inner.Stmt) (plan : Plan) → nests plan ≤ 1 → nests (do_all b m stmts plan) ≤ 1
stmts-flat b m [] plan flat = flat
stmts-flat b m (s ∷ stmts) plan flat = max-le (omega arith) (stmts-flat b (suc m) stmts plan flat)

exit-flat : (b : ℕ) (exit : inner.Exit) (plan : Plan) → nests plan ≤ 1 → nests (goto_exit b exit plan) ≤ 1
exit-flat b (inner.Goto next) plan flat = max-le (omega arith) flat
exit-flat b (inner.If test one other) plan flat = max-le (omega arith) flat
exit-flat b (inner.Switch e places) plan flat = let arms = arms-flat places (distinct places) in max-le (omega (arith, arms)) flat
exit-flat b (inner.Ret values) plan flat = max-le (omega arith) flat
exit-flat b inner.Stop plan flat = flat

blocks-flat : (b : ℕ) (blocks : List inner.Block) → nests (goto_blocks b blocks) ≤ 1
blocks-flat b [] = omega arith
blocks-flat b (block ∷ blocks) =
    max-le (omega arith) (stmts-flat b 0 block.stmts _ (exit-flat b block.exit _ (blocks-flat (suc b) blocks)))

pub goto-flat : (graph : inner.Graph) → nests (goto_plan graph) ≤ 1
goto-flat graph = blocks-flat 0 graph.blocks
