use Rattle.std.proofs.Common.{ap, ◌∙◌, arith}
use Rattle.dcc_summaries.specs.Demands.{demand_of, with_wants}
use Rattle.dcc_summaries.proofs.DemandLaws.{each_end}
use Rattle.dcc_summaries.proofs.FollowLaws.{port_wants, port_each}
use Rattle.dcc_summaries.proofs.demand.Demand.want_at_ports.Goals as goal

pub returns : goal.returns
returns c = each_end (port_wants c.args.entry c.args.location) c.args.ports.now c.loop-port.port-index (demand_of c.loop-port.self) _ (omega arith) c.loop-port.invariant
    ∙ ap (with_wants (demand_of c.args.self.now)) (port_each c.args.entry c.args.location c.args.ports.now)
