use Rattle.std.proofs.Common.{ap, ◌∙◌, arith}
use Rattle.dcc_summaries.specs.Demands.{demand_of, with_wants}
use Rattle.dcc_summaries.proofs.DemandLaws.{each_more, each_end, argument_wants, argument_each}
use Rattle.dcc_summaries.proofs.demand.Demand.want_arguments.Goals as goal

pub loop-argument-preserved : goal.loop-argument-preserved
loop-argument-preserved c = each_more (argument_wants c.args.at) c.args.arguments.now c.loop-argument.argument-index c.argument-item.result (demand_of c.loop-argument.self) (demand_of c.want_argument.new.self) _
    (omega arith) c.argument-item.is c.in_ok-want_argument.ensures c.loop-argument.invariant

pub returns : goal.returns
returns c = each_end (argument_wants c.args.at) c.args.arguments.now c.loop-argument.argument-index (demand_of c.loop-argument.self) _ (omega arith) c.loop-argument.invariant
    ∙ ap (with_wants (demand_of c.args.self.now)) (argument_each c.args.at c.args.arguments.now)
