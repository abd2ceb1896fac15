use Rattle.std.proofs.Common.{◌≡◌, ◌-◌, ◌<◌, suc, length, map, ap, ◌∙◌, arith}
use Rattle.std.proofs.lemmas.List.{length-map, length-set}
use Rattle.dcc_ir.specs.Views.{block_of}
use Rattle.dcc_flow.specs.Access.{block_access_of}
use Rattle.dcc_webs.specs.Names.{names_of}
use Rattle.dcc_webs.specs.Walk.{facts_of}
use Rattle.dcc_webs.proofs.WalkLaws.{block_there, block_access_there, blocks_turn}
use Rattle.dcc_webs.proofs.walk.Facts.rename_blocks.Goals as goal

pub rename_block-requires-clause-access : goal.rename_block-requires-clause-access
rename_block-requires-clause-access c =
    let ys = map block_of c.args.blocks.now.items in
    let k = c.loop-place.place - 1 in
    let e : c.loop-place.place ≡ suc k = omega arith in
    let inv = c.loop-place.invariant in
    let inside : k < length ys = omega (arith, e, inv.from.inside) in
    let within : k < length c.loop-place.blocks.items = omega (arith, inside, inv.count, length-map c.args.blocks.now.items block_of) in
    let there = block_there c.args.temps.now (facts_of c.args.self.now) ys c.loop-place.blocks.items (names_of c.loop-place.names) c.loop-place.place k c.index_mut.result.now e within c.index_mut.ensures.value inv.from in
    block_access_there (facts_of c.args.self.now).accesses ys k c.index_mut.result.now c.requires.accesses inside there

pub loop-place-preserved : goal.loop-place-preserved
loop-place-preserved c =
    let facts = facts_of c.args.self.now in
    let ys = map block_of c.args.blocks.now.items in
    let k = c.loop-place.place - 1 in
    let e : c.loop-place.place ≡ suc k = omega arith in
    let inv = c.loop-place.invariant in
    let inside : k < length ys = omega (arith, e, inv.from.inside) in
    let within : k < length c.loop-place.blocks.items = omega (arith, inside, inv.count, length-map c.args.blocks.now.items block_of) in
    let base_in : k < length facts.accesses = omega (arith, inside, ap length c.requires.accesses, length-map ys block_access_of) in
    record {
      count = length-set c.loop-place.blocks.items k c.rename_block.new.block ∙ inv.count;
      from = blocks_turn c.args.temps.now facts ys c.loop-place.blocks.items (names_of c.loop-place.names) (names_of c.rename_block.new.names) _ c.loop-place.place k c.index_mut.result.now c.rename_block.new.block e within
          c.index_mut.ensures.value (c.requires.bases.are k base_in) c.in_ok-rename_block.ensures.block c.in_ok-rename_block.ensures.names inv.from;
    }
