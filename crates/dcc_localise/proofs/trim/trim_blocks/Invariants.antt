use Rattle.std.proofs.Common.{◌≡◌, map}
use Rattle.dcc_ir.specs.Views.{block_of}
use Rattle.dcc_ir.specs.Trimmed.{trim_block}
use Rattle.dcc_localise.specs.Staying.{trim_in}
use Rattle.dcc_localise.proofs.trim.trim_blocks.Given as goal

abbrev pub invariant-loop-block : goal.invariant-loop-block
invariant-loop-block l =
    map block_of l.left.items ≡ map (trim_block (trim_in l.staying.by_entry.entries) l.entry) (map block_of l.yielded)
