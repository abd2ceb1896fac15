use Rattle.std.proofs.Common.{◌≡◌, false, take}
use Rattle.dcc_copies.specs.Holders.{has_entry}
use Rattle.dcc_copies.proofs.holders.has_entry.Given as goal

abbrev pub invariant-loop-entry : goal.invariant-loop-entry
invariant-loop-entry l = has_entry (take l.entry-index l.entries) l.place ≡ false
