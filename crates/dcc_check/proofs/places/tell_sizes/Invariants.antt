use Rattle.std.proofs.Common.{◌≡◌, map, drop}
use Rattle.dcc_c.specs.Kinds.{first_after}
use Rattle.dcc_c.specs.TextOffences.{sizes_of}
use Rattle.dcc_reader.specs.PartialViews.{variable_of}
use Rattle.dcc_reader.specs.Told.{told}
use Rattle.dcc_check.proofs.places.tell_sizes.Given as goal

-- the sizes that are left tell what all sizes do
abbrev pub invariant-loop-variable : goal.invariant-loop-variable
invariant-loop-variable l =
    first_after (told l.first) (sizes_of (map variable_of (drop l.variable-index l.variables)))
    ≡ first_after (told l.initial.first) (sizes_of (map variable_of l.variables))
