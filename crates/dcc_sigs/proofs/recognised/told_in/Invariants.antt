use Rattle.std.proofs.Common.{◌≡◌, map, take}
use Rattle.std.specs.List.{flat_map}
use Rattle.dcc_sigs.specs.Recognised.{told_at, told_by}
use Rattle.dcc_sigs.proofs.recognised.told_in.Given as goal

-- the procedures with the entries so far that signatures tell
abbrev pub invariant-loop-entry : goal.invariant-loop-entry
invariant-loop-entry l =
    map told_by l.found.items ≡ flat_map (told_at l.code l.entries l.sigs) (take l.entry-index l.entries)
