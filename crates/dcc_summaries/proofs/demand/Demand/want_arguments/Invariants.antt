use Rattle.std.proofs.Common.{◌≡◌, drop, flat_map}
use Rattle.dcc_summaries.specs.Demands.{demand_of, with_wants}
use Rattle.dcc_summaries.proofs.DemandLaws.{argument_wants}
use Rattle.dcc_summaries.proofs.demand.Demand.want_arguments.Given as goal

abbrev pub invariant-loop-argument : goal.invariant-loop-argument
invariant-loop-argument l = with_wants (demand_of l.self) (flat_map (argument_wants l.at) (drop l.argument-index l.arguments)) ≡ with_wants (demand_of l.initial.self) (flat_map (argument_wants l.at) l.arguments)
