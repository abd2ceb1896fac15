-- The temporaries so far follow what passes.
use Rattle.std.proofs.Common.{◌≡◌, ◌++◌, map}
use Rattle.std.specs.List.{range_with_len}
use Rattle.dcc_ir.specs.Passing.{passed}
use Rattle.dcc_ops.specs.Temporaries.{returned_place}
use Rattle.dcc_lift.proofs.procedure.Procedure.results.Given as goal

abbrev pub invariant-loop-index : goal.invariant-loop-index
invariant-loop-index l = l.results.items ≡ passed ++ map returned_place (range_with_len 0 l.index)
