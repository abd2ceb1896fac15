use Rattle.std.proofs.Common.{◌≡◌, length, drop}
use Rattle.dcc_ir.specs.Views.{graph_of}
use Rattle.dcc_flags.specs.Sources.{swept}
use Rattle.dcc_flags.proofs.reaching.sweep.Given as goal

abbrev pub invariant-loop-block : goal.invariant-loop-block
invariant-loop-block l = record {
  count : length l.table.items ≡ length l.initial.table.items;
  rest : swept l.f (graph_of l.g) l.table.items (drop l.block-index l.blocks)
      ≡ swept l.f (graph_of l.g) l.initial.table.items l.blocks;
}
