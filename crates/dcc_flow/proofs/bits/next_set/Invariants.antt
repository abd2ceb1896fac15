use Rattle.std.proofs.Common.{◌≡◌, ℕ, ◌+◌, ◌*◌, ◌<◌, ◌≤◌, false}
use Rattle.dcc_flow.specs.Words.{bit_in}
use Rattle.dcc_flow.proofs.bits.next_set.Given as goal

abbrev pub invariant-loop-k : goal.invariant-loop-k
invariant-loop-k l = record {
  small : l.skipped < 64;
  after : l.from ≤ 64 * l.k + l.skipped;
  none : (n : ℕ) → l.from ≤ n → n < 64 * l.k + l.skipped → bit_in l.words n ≡ false;
}
