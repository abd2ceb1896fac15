use Rattle.std.proofs.Common.{◌≡◌, length}
use Rattle.dcc_graph_rows.proofs.flows.bits.Given as goal

abbrev pub invariant-loop-place : goal.invariant-loop-place
invariant-loop-place g l = length l.bits ≡ l.len
