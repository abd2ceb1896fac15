use Rattle.std.proofs.Common.{◌≡◌, true, take}
use Rattle.std.specs.List.{list_all}
use Rattle.dcc_copies.specs.Holders.{holders_of, is_entry_held}
use Rattle.dcc_copies.proofs.holders.Holders.hold_entries.Given as goal

abbrev pub invariant-loop-entry : goal.invariant-loop-entry
invariant-loop-entry l = list_all (is_entry_held l.names.of.items (holders_of l.self)) (take l.entry-index l.entries) ≡ true
