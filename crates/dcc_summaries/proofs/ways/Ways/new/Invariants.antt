use Rattle.std.proofs.Common.{◌≡◌, ◌++◌, drop}
use Rattle.dcc_ir.specs.Views.{program_of}
use Rattle.dcc_summaries.specs.Ways.{all_calls, all_returns}
use Rattle.dcc_summaries.proofs.ways.Ways.new.Given as goal

abbrev pub invariant-loop-at : goal.invariant-loop-at
invariant-loop-at l = record {
  preds : l.ways.preds ≡ l.initial.ways.preds;
  calls : l.ways.calls.items ++ all_calls (program_of l.p) (drop l.at-index l.points) ≡ all_calls (program_of l.p) l.points;
  returns : l.ways.returns.items ++ all_returns (program_of l.p) (drop l.at-index l.points) ≡ all_returns (program_of l.p) l.points;
}
