use Rattle.std.proofs.Common.{map, take}
use Rattle.dcc_ir.specs.Views.{expr_of}
use Rattle.dcc_available.specs.Known.{known_of}
use Rattle.dcc_available.specs.Within.{AreSubstitutesWithin}
use Rattle.dcc_available.proofs.known.Known.within_all.Given as goal

abbrev pub invariant-loop-e : goal.invariant-loop-e
invariant-loop-e l = AreSubstitutesWithin (known_of l.self) (map expr_of (take l.e-index l.es)) (map expr_of l.all.items)
