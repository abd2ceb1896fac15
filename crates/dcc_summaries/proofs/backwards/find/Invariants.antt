use Rattle.std.proofs.Common.{◌+◌}
use Rattle.dcc_ir.specs.Views.{program_of}
use Rattle.dcc_summaries.specs.Demands.{demand_of}
use Rattle.dcc_summaries.proofs.PendingLaws.{total}
use Rattle.dcc_summaries.proofs.KnownLaws.{left}
use Rattle.dcc_summaries.proofs.FindLaws.{universe, Going}
use Rattle.dcc_summaries.proofs.backwards.find.Given as goal

abbrev pub invariant-loop-want : goal.invariant-loop-want
invariant-loop-want l = Going l.setting l.demand

abbrev pub decreases-loop-want : goal.decreases-loop-want
decreases-loop-want l = left (universe (program_of l.setting.program.now)) (demand_of l.demand) + total (demand_of l.demand).pending
