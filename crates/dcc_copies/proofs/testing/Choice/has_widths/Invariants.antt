use Rattle.std.proofs.Common.{◌≡◌, ℕ, ◌<◌, length, get_or}
use Rattle.dcc_copies.proofs.testing.Choice.has_widths.Given as goal

abbrev pub invariant-loop-temporary : goal.invariant-loop-temporary
invariant-loop-temporary l = record {
  below : (n : ℕ) → n < l.temporary → get_or l.self.names.of.items n 0 < length l.bits;
  same : (n : ℕ) → n < l.temporary → get_or l.bits (get_or l.self.names.of.items n 0) 0 ≡ get_or l.bits n 0;
}
