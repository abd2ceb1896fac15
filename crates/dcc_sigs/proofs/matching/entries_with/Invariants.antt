use Rattle.std.proofs.Common.{◌≡◌, ◌≤◌, take}
use Rattle.std.specs.Prelude.{count_by}
use Rattle.dcc_sigs.specs.Recognised.{matches_at}
use Rattle.dcc_sigs.proofs.matching.entries_with.Given as goal

-- from how many of the entries so far the signature matches
abbrev pub invariant-loop-entry : goal.invariant-loop-entry
invariant-loop-entry l =
    (l.count ≡ count_by (λ entry. matches_at l.code entry l.sig) (take l.entry-index l.entries)) × (l.count ≤ l.entry-index)
