use Rattle.std.proofs.Common.{◌≡◌, map, flat_map, take}
use Rattle.dcc_ir.specs.Views.{expr_of}
use Rattle.dcc_ir.specs.Use.{got_by}
use Rattle.dcc_signatures.proofs.program.got_by.Given as goal

abbrev pub invariant-loop-value : goal.invariant-loop-value
invariant-loop-value l = l.got.items ≡ flat_map got_by (map expr_of (take l.value-index l.values))
