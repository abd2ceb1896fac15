use Rattle.std.proofs.Common.{◌≡◌, ◌++◌, map, take}
use Rattle.std.specs.List.{flat_map}
use Rattle.dcc_sigs.specs.Recognised.{told_if, told_by}
use Rattle.dcc_sigs.proofs.recognised.push_alone.Given as goal

-- the procedure is added if one of the signatures so far tells it
abbrev pub invariant-loop-sig : goal.invariant-loop-sig
invariant-loop-sig l =
    map told_by l.found.items
    ≡ map told_by l.initial.found.items
    ++ flat_map (told_if l.code l.entries l.sigs l.entry) (take l.sig-index l.sigs)
