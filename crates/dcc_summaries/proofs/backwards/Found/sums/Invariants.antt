use Rattle.std.proofs.Common.{◌≡◌, length}
use Rattle.dcc_ir.specs.Views.{program_of}
use Rattle.dcc_summaries.proofs.FaultLaws.{AreFirst}
use Rattle.dcc_summaries.proofs.backwards.Found.sums.Given as goal

abbrev pub invariant-loop-place : goal.invariant-loop-place
invariant-loop-place l = record {
  count : length l.of.items ≡ l.place;
  first : AreFirst (program_of l.p) l.of.items;
}
