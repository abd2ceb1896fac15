use Rattle.std.proofs.Common.{◌≡◌, map, length}
use Rattle.dcc_ir.specs.Views.{block_of}
use Rattle.dcc_webs.specs.Names.{names_of}
use Rattle.dcc_webs.specs.Walk.{facts_of}
use Rattle.dcc_webs.proofs.WalkLaws.{BlocksFrom}
use Rattle.dcc_webs.proofs.walk.Facts.rename_blocks.Given as goal

abbrev pub invariant-loop-place : goal.invariant-loop-place
invariant-loop-place l = record {
  count : length l.blocks.items ≡ length l.initial.blocks.items;
  from : BlocksFrom l.temps (facts_of l.self) (map block_of l.initial.blocks.items) l.blocks.items (names_of l.names) l.place;
}

abbrev pub decreases-loop-place : goal.decreases-loop-place
decreases-loop-place l = l.place
