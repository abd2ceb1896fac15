use Rattle.std.proofs.Common.{◌≡◌, map, drop}
use Rattle.dcc_reader.specs.PartialViews.{variable_of}
use Rattle.dcc_check.proofs.PlaceLaws.{all_apart}
use Rattle.dcc_check.proofs.places.clashes.Given as goal

-- none of the variables so far clashes
abbrev pub invariant-loop-other : goal.invariant-loop-other
invariant-loop-other l =
    all_apart (variable_of l.variable) (map variable_of (drop l.other-index l.earlier)) ≡ all_apart (variable_of l.variable) (map variable_of l.earlier)
