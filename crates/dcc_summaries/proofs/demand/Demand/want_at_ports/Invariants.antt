use Rattle.std.proofs.Common.{◌≡◌, drop, flat_map}
use Rattle.dcc_summaries.specs.Demands.{demand_of, with_wants}
use Rattle.dcc_summaries.proofs.FollowLaws.{port_wants}
use Rattle.dcc_summaries.proofs.demand.Demand.want_at_ports.Given as goal

abbrev pub invariant-loop-port : goal.invariant-loop-port
invariant-loop-port l = with_wants (demand_of l.self) (flat_map (port_wants l.entry l.location) (drop l.port-index l.ports)) ≡ with_wants (demand_of l.initial.self) (flat_map (port_wants l.entry l.location) l.ports)
