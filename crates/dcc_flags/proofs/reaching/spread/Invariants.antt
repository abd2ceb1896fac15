use Rattle.std.proofs.Common.{◌≡◌, length, drop}
use Rattle.dcc_flags.specs.Sources.{spread}
use Rattle.dcc_flags.proofs.reaching.spread.Given as goal

abbrev pub invariant-loop-block : goal.invariant-loop-block
invariant-loop-block l = record {
  count : length l.table.items ≡ length l.initial.table.items;
  rest : spread l.source l.table.items (drop l.block-index l.blocks) ≡ spread l.source l.initial.table.items l.blocks;
}
