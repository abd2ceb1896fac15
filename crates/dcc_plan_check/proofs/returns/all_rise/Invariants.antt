use Rattle.std.proofs.Common.{take}
use Rattle.std.specs.Prelude.{All}
use Rattle.dcc_ir.specs.Views.{graph_of}
use Rattle.dcc_plan_check.specs.Checked.{RisesFrom}
use Rattle.dcc_plan_check.proofs.returns.all_rise.Given as goal

abbrev pub invariant-loop-block : goal.invariant-loop-block
invariant-loop-block l =
    All (RisesFrom (graph_of l.graph) l.labels.marked.items l.numbers.items) (take l.block-index l.blocks)
