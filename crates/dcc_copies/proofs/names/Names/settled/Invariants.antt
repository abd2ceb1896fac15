use Rattle.std.proofs.Common.{◌≡◌, map}
use Rattle.dcc_ir.specs.Views.{block_of}
use Rattle.dcc_copies.specs.Holders.{name_by}
use Rattle.dcc_copies.specs.Settled.{settled_block}
use Rattle.dcc_copies.proofs.names.Names.settled.Given as goal

abbrev pub invariant-loop-block : goal.invariant-loop-block
invariant-loop-block l = map block_of l.blocks.items ≡ map (settled_block (name_by l.self.of.items)) (map block_of l.yielded)
