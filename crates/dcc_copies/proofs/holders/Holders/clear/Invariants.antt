use Rattle.std.proofs.Common.{length}
use Rattle.dcc_copies.specs.Holders.{holders_of, IsPlain}
use Rattle.dcc_copies.proofs.holders.Holders.clear.Given as goal

abbrev pub invariant-loop-place : goal.invariant-loop-place
invariant-loop-place l = IsPlain (holders_of l.self)

abbrev pub decreases-loop-place : goal.decreases-loop-place
decreases-loop-place l = length l.self.noted.items
