use Rattle.std.proofs.Common.{◌≡◌, drop}
use Rattle.dcc_ir.specs.Views.{program_of}
use Rattle.dcc_summaries.specs.Demands.{demand_of, with_wants, seeds}
use Rattle.dcc_summaries.proofs.demand.Demand.seed.Given as goal

abbrev pub invariant-loop-at : goal.invariant-loop-at
invariant-loop-at l = with_wants (demand_of l.self) (seeds (program_of l.p) (drop l.at-index l.points)) ≡ with_wants (demand_of l.initial.self) (seeds (program_of l.p) l.points)
