use Rattle.std.proofs.Common.{◌≡◌, map, length, reverse}
use Rattle.dcc_ir.specs.Views.{expr_of}
use Rattle.dcc_signatures.specs.Packed.{merged, one_argument}
use Rattle.dcc_signatures.proofs.MergeLaws.{merged_onto}
use Rattle.dcc_signatures.proofs.program.pack_arguments.Given as goal

abbrev pub invariant-loop-argument : goal.invariant-loop-argument
invariant-loop-argument l =
    merged_onto one_argument (map expr_of l.rest.items) (map expr_of (reverse l.packed.items)) ≡ merged one_argument (map expr_of l.initial.rest.items)

abbrev pub decreases-loop-argument : goal.decreases-loop-argument
decreases-loop-argument l = length l.rest.items
