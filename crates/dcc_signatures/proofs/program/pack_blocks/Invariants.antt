use Rattle.std.proofs.Common.{◌≡◌, map}
use Rattle.dcc_ir.specs.Views.{block_of}
use Rattle.dcc_signatures.specs.Packed.{pack_block}
use Rattle.dcc_signatures.proofs.program.pack_blocks.Given as goal

abbrev pub invariant-loop-block : goal.invariant-loop-block
invariant-loop-block l = map block_of l.packed.items ≡ map (pack_block l.fresh) (map block_of l.yielded)
