use Rattle.std.proofs.Common.{◌≡◌, ◌+◌, drop}
use Rattle.dcc_flags.specs.Sources.{rank_of}
use Rattle.dcc_flags.proofs.reaching.rank.Given as goal

abbrev pub invariant-loop-source : goal.invariant-loop-source
invariant-loop-source l = l.rank + rank_of (drop l.source-index l.table) ≡ rank_of l.table
