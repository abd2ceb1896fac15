use Rattle.std.proofs.Common.{◌≡◌, ◌+◌}
use Rattle.dcc_flow.proofs.WordLaws.{FlowedTo}
use Rattle.dcc_flow.proofs.bits.flow_words.Given as goal

abbrev pub invariant-loop-k : goal.invariant-loop-k
invariant-loop-k g l = record {
  words : FlowedTo l.words l.initial.words l.used l.out l.written l.k l.changed;
  count : l.steps ≡ l.initial.steps + l.k;
}
