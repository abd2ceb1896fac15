use Rattle.std.proofs.Common.{◌≡◌, ◌++◌, length, reverse}
use Rattle.dcc_ir.specs.Trimmed.{kept}
use Rattle.dcc_localise.specs.Staying.{stays_in}
use Rattle.dcc_localise.proofs.trim.kept.Given as goal

abbrev pub invariant-loop-item : goal.invariant-loop-item
invariant-loop-item g l =
    kept (stays_in l.stays) l.rest.items ++ reverse l.left.items ≡ kept (stays_in l.stays) l.initial.rest.items

abbrev pub decreases-loop-item : goal.decreases-loop-item
decreases-loop-item g l = length l.rest.items
