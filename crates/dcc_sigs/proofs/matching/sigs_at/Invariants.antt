use Rattle.std.proofs.Common.{◌≡◌, ◌≤◌, take}
use Rattle.std.specs.Prelude.{count_by}
use Rattle.dcc_sigs.specs.Recognised.{matches_at}
use Rattle.dcc_sigs.proofs.matching.sigs_at.Given as goal

-- how many of the signatures so far match
abbrev pub invariant-loop-sig : goal.invariant-loop-sig
invariant-loop-sig l = (l.count ≡ count_by (matches_at l.code l.entry) (take l.sig-index l.sigs)) × (l.count ≤ l.sig-index)
