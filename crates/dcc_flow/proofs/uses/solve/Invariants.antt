use Rattle.std.proofs.Common.{◌+◌, ◌*◌, ◌≤◌}
use Rattle.dcc_flow.specs.Edges.{rows, entries}
use Rattle.dcc_flow.specs.Bits.{words_for}
use Rattle.dcc_flow.specs.Work.{work_of}
use Rattle.dcc_flow.proofs.WorkLaws.{Going, rank, cost, weight}
use Rattle.dcc_flow.proofs.uses.solve.Given as goal

abbrev pub invariant-loop-block : goal.invariant-loop-block
invariant-loop-block g l = record {
  going : Going (rows l.next.items) l.used.items l.written.items l.len (work_of l.work);
  steps : l.steps
      + cost (rows l.next.items) l.used.items l.written.items l.len (weight (rows l.sources.items)) (work_of l.work)
      * words_for l.len
      ≤ l.initial.steps + entries (rows l.next.items) * (l.len + 1) * words_for l.len;
}

abbrev pub decreases-loop-block : goal.decreases-loop-block
decreases-loop-block g l = rank (rows l.next.items) l.used.items l.written.items l.len (work_of l.work)
