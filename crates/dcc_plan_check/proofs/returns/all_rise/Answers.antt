use Rattle.std.proofs.Common.{◌≤◌, length, subst, arith}
use Rattle.std.specs.Prelude.{All}
use Rattle.std.proofs.lemmas.List.{take_all}
use Rattle.std.proofs.lemmas.List.Elements.{All-more}
use Rattle.dcc_ir.specs.Views.{graph_of}
use Rattle.dcc_plan_check.specs.Checked.{RisesFrom}
use Rattle.dcc_plan_check.proofs.returns.all_rise.Goals as goal

pub loop-block-preserved : goal.loop-block-preserved
loop-block-preserved c =
    let blocks = c.args.blocks.now in
    let k = c.loop-block.block-index in
    let rises = RisesFrom (graph_of c.args.graph.now) c.args.labels.now.marked.items c.args.numbers.now.items in
    All-more rises blocks k 0 (omega arith) c.loop-block.invariant (c.rises_from.ensures c.if-not-rises_from.false)

pub returns : goal.returns
returns c answer =
    let blocks = c.args.blocks.now in
    let k = c.loop-block.block-index in
    let over : length blocks ≤ k = omega arith in
    subst (All (RisesFrom (graph_of c.args.graph.now) c.args.labels.now.marked.items c.args.numbers.now.items)) (take_all k blocks over) c.loop-block.invariant
