use Rattle.dcc_pipe.proofs.UnitLaws.{more-functions, more-few}
use Rattle.dcc_pipe.proofs.unit.other_functions.Goals as goal

pub loop-graph-preserved : goal.loop-graph-preserved
loop-graph-preserved c =
    let graphs = c.args.graphs.now in
    let i = c.loop-graph.graph-index in
    let graph = c.graph-item.result in (
      more-functions graphs i graph c.loop-graph.funcs.items c.push.new.self.items c.in_ok-function.field-0 _
          c.loop-graph-test.true c.graph-item.is c.loop-graph.invariant.0 c.in_ok-name.ensures
          c.in_ok-function.ensures.function c.in_ok-push.ensures.items,
      more-few graphs i graph c.loop-graph-test.true c.graph-item.is c.loop-graph.invariant.1
          c.in_ok-function.ensures.few,
    )
