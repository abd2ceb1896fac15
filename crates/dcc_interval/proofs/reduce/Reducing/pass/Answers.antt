use Rattle.std.proofs.Common.{length}
use Rattle.dcc_flow.specs.Edges.{rows}
use Rattle.dcc_interval.proofs.PassLaws.{node_reached, passing_gone, passing_kept}
use Rattle.dcc_interval.proofs.reduce.Reducing.pass.Goals as goal

pub join-requires-clause-reached : goal.join-requires-clause-reached
join-requires-clause-reached c =
    node_reached (rows c.args.sources.now.items) c.args.entry c.loop-node.self c.loop-node.kept.items c.loop-node.rest.items (length c.args.nodes.items)
    c.loop-node.invariant c.pop.new.self.items c.in-Some.node c.in-Some.ensures.items

pub loop-node-preserved-in_ok-push : goal.loop-node-preserved-in_ok-push
loop-node-preserved-in_ok-push c =
    passing_kept (rows c.args.sources.now.items) c.args.entry c.loop-node.self c.loop-node.kept.items c.loop-node.rest.items (length c.args.nodes.items)
    c.loop-node.invariant c.pop.new.self.items c.in-Some.node c.in-Some.ensures.items c.join.new.self c.in_ok-join.ensures.reducing c.in_ok-join.ensures.fewer
    c.push.new.self.items c.in_ok-push.ensures.items (c.in_ok-join.ensures.same c.if-not-branch.true) (c.in_ok-join.ensures.done c.if-not-branch.true)

pub loop-node-preserved : goal.loop-node-preserved
loop-node-preserved c =
    passing_gone (rows c.args.sources.now.items) c.args.entry c.loop-node.self c.loop-node.kept.items c.loop-node.rest.items (length c.args.nodes.items)
    c.loop-node.invariant c.pop.new.self.items c.in-Some.node c.in-Some.ensures.items c.join.new.self c.in_ok-join.ensures.reducing c.in_ok-join.ensures.fewer
    (c.in_ok-join.ensures.gone c.if-not-branch.false)
