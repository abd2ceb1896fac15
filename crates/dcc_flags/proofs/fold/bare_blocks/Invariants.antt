use Rattle.std.proofs.Common.{◌≡◌, map, take}
use Rattle.dcc_ir.specs.Views.{block_of}
use Rattle.dcc_flags.specs.Folding.{choices_of, bare_block}
use Rattle.dcc_flags.proofs.fold.bare_blocks.Given as goal

abbrev pub invariant-loop-block : goal.invariant-loop-block
invariant-loop-block l =
    map block_of l.bare.items ≡ map (bare_block l.kept (choices_of l.choices)) (map block_of (take l.block-index l.blocks.items))
