use Rattle.std.proofs.Common.{◌≡◌, drop, flat_map}
use Rattle.dcc_ir.specs.Views.{program_of}
use Rattle.dcc_summaries.specs.Demands.{demand_of, with_wants}
use Rattle.dcc_summaries.proofs.FollowLaws.{end_wants}
use Rattle.dcc_summaries.proofs.demand.Demand.follow_begin.Given as goal

abbrev pub invariant-loop-block : goal.invariant-loop-block
invariant-loop-block l =
    let f = end_wants (program_of l.setting.program.now) l.want.at.graph l.want.location in
    with_wants (demand_of l.self) (flat_map f (drop l.block-index l.block-items)) ≡ with_wants (demand_of l.initial.self) (flat_map f l.block-items)
