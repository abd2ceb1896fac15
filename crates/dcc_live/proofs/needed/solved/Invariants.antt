use Rattle.std.proofs.Common.{◌≡◌}
use Rattle.dcc_ir.specs.Views.{graph_of}
use Rattle.dcc_flow.specs.Marks.{empty, members}
use Rattle.dcc_flow.specs.Work.{work_of}
use Rattle.dcc_live.proofs.WorkLaws.{Going, weight}
use Rattle.dcc_live.proofs.needed.solved.Given as goal

abbrev pub invariant-loop-block : goal.invariant-loop-block
invariant-loop-block g l = record {
  going : Going (graph_of l.g) l.places (work_of l.work);
  none : members l.marks ≡ empty;
}

abbrev pub decreases-loop-block : goal.decreases-loop-block
decreases-loop-block g l = weight (work_of l.work)
