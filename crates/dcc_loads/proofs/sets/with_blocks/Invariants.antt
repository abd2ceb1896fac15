use Rattle.std.proofs.Common.{◌≡◌, map}
use Rattle.dcc_ir.specs.Views.{block_of}
use Rattle.dcc_loads.specs.Sets.{block_with_sets}
use Rattle.dcc_loads.proofs.sets.with_blocks.Given as goal

abbrev pub invariant-loop-block : goal.invariant-loop-block
invariant-loop-block l = map block_of l.after.items ≡ map block_with_sets (map block_of l.yielded)
