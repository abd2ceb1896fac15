use Rattle.std.proofs.Common.{◌≡◌, ℕ, ◌<◌, true, get_or}
use Rattle.dcc_lex.specs.ByteViews.{has_kind}
use Rattle.dcc_lex.proofs.bytes.ByteKind.count.Given as goal

-- each byte so far is of the kind
abbrev pub invariant-loop-at : goal.invariant-loop-at
invariant-loop-at l = (k : ℕ) → k < l.at → has_kind l.self (get_or l.bytes k 0) ≡ true
