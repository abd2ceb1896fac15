use Rattle.std.proofs.Common.{◌≡◌, Some, sym, ap, ◌∙◌, slice_get}
use Rattle.std.proofs.lemmas.List.{length-set}
use Rattle.std.proofs.lemmas.Option.{slice_get-get_or}
use Rattle.dcc_ir.specs.Views.{block_of, graph_of}
use Rattle.dcc_available.specs.Known.{known_of}
use Rattle.dcc_available.proofs.GraphLaws.{get-mapped}
use Rattle.dcc_available.proofs.ChainLaws.{begins_there, goes_there, rows_set}
use Rattle.dcc_available.proofs.substitution.Setting.rewrite_chain.Goals as goal

pub chain-init : goal.chain-init
chain-init c = record {
  within = c.requires.head;
  there = begins_there (graph_of c.args.self.now.graph.now) c.args.head (known_of c.args.known.now) (known_of c.begin.new.self) c.begin.ensures;
  count = c.requires.count;
  rewritten = c.requires.rewritten;
}

pub chain-preserved : goal.chain-preserved
chain-preserved c =
    let g = c.args.self.now.graph.now in
    let block = c.index.result.now in
    let place = c.chain.place in
    let inv = c.chain.invariant in
    let got : slice_get g.blocks.items place ≡ Some block = slice_get-get_or g.blocks.items place block inv.within ∙ ap Some (sym c.index.ensures) in
    let found = get-mapped g.blocks.items place block got in
    record {
      within = c.in-Some.ensures.within;
      there = goes_there (graph_of g) place c.in-Some.to (block_of block) (known_of c.chain.known) (known_of c.block.new.self) (known_of c.pass_edge.new.self) found inv.there c.in_ok-block.ensures.sound
          c.pass_edge.ensures c.in-Some.ensures.next;
      count = length-set c.chain.blocks.items place (Some c.in_ok-block.field-0) ∙ inv.count;
      rewritten = rows_set (graph_of g) c.chain.blocks.items place (known_of c.chain.known) (block_of block) c.in_ok-block.field-0 found inv.there c.in_ok-block.ensures.rewritten inv.rewritten;
    }

pub returns-in-None-clause-rewritten : goal.returns-in-None-clause-rewritten
returns-in-None-clause-rewritten c =
    let g = c.args.self.now.graph.now in
    let block = c.index.result.now in
    let place = c.chain.place in
    let inv = c.chain.invariant in
    let got : slice_get g.blocks.items place ≡ Some block = slice_get-get_or g.blocks.items place block inv.within ∙ ap Some (sym c.index.ensures) in
    rows_set (graph_of g) c.chain.blocks.items place (known_of c.chain.known) (block_of block) c.in_ok-block.field-0 (get-mapped g.blocks.items place block got) inv.there c.in_ok-block.ensures.rewritten inv.rewritten
