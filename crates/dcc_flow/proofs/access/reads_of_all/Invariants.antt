use Rattle.std.proofs.Common.{◌≡◌, map, flat_map, take}
use Rattle.dcc_ir.specs.Views.{expr_of}
use Rattle.dcc_ir.specs.Use.{reads_of}
use Rattle.dcc_flow.proofs.access.reads_of_all.Given as goal

abbrev pub invariant-loop-e : goal.invariant-loop-e
invariant-loop-e l = l.list.items ≡ flat_map reads_of (map expr_of (take l.e-index l.es))
