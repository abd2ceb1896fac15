use Rattle.std.proofs.Common.{◌≡◌, length, reverse}
use Rattle.dcc_signatures.specs.Packed.{merged, one_param}
use Rattle.dcc_signatures.proofs.MergeLaws.{merged_onto}
use Rattle.dcc_signatures.proofs.program.pack_params.Given as goal

abbrev pub invariant-loop-param : goal.invariant-loop-param
invariant-loop-param l = merged_onto one_param l.rest.items (reverse l.packed.items) ≡ merged one_param l.initial.rest.items

abbrev pub decreases-loop-param : goal.decreases-loop-param
decreases-loop-param l = length l.rest.items
