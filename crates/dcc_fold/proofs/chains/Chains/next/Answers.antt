use Rattle.std.proofs.Common.{◌≡◌, Some, sym, ap, ◌∙◌, arith}
use Rattle.std.proofs.lemmas.List.{length-map}
use Rattle.std.proofs.lemmas.Option.{slice_get-get_or}
use Rattle.dcc_ir.specs.Views.{exit_of, block_of, graph_of}
use Rattle.dcc_flow.specs.Edges.{rows}
use Rattle.dcc_available.proofs.GraphLaws.{get-mapped}
use Rattle.dcc_fold.proofs.NextLaws.{goto-within, in-lists, none-next, list-next}
use Rattle.dcc_fold.proofs.chains.Chains.next.Goals as goal

pub index-from-requires : goal.index-from-requires
index-from-requires c =
    let g = c.args.self.now.graph.now in
    let block = c.index.result.now in
    let preds = c.args.self.now.preds.now.items in
    let place = c.args.place in
    let to = c.in-Goto.to in
    let found = get-mapped g.blocks.items place block (slice_get-get_or g.blocks.items place block c.requires.place ∙ ap Some (sym c.index.ensures)) in
    omega (
      arith,
      in-lists (graph_of g) c.requires.graph preds c.requires.preds place to (block_of block) found (ap exit_of c.in-Goto.is),
      c.args.self.now.preds.now.ok.0,
    )

pub returns-then-len-ne1-clause-next : goal.returns-then-len-ne1-clause-next
returns-then-len-ne1-clause-next c =
    let g = c.args.self.now.graph.now in
    let block = c.index.result.now in
    let preds = c.args.self.now.preds.now.items in
    let place = c.args.place in
    let to = c.in-Goto.to in
    let found = get-mapped g.blocks.items place block (slice_get-get_or g.blocks.items place block c.requires.place ∙ ap Some (sym c.index.ensures)) in
    let goes = ap exit_of c.in-Goto.is in
    none-next (graph_of g) c.requires.graph preds c.requires.preds place to (block_of block) c.index-from.result.now found goes
    (in-lists (graph_of g) c.requires.graph preds c.requires.preds place to (block_of block) found goes) c.index-from.ensures (λ one. c.if-len-ne1.true (omega (arith, one, c.len.ensures, c.index-from.result.now.ok.0)))

pub returns-clause-next : goal.returns-clause-next
returns-clause-next c =
    let g = c.args.self.now.graph.now in
    let block = c.index.result.now in
    let preds = c.args.self.now.preds.now.items in
    let place = c.args.place in
    let to = c.in-Goto.to in
    let found = get-mapped g.blocks.items place block (slice_get-get_or g.blocks.items place block c.requires.place ∙ ap Some (sym c.index.ensures)) in
    let goes = ap exit_of c.in-Goto.is in
    list-next (graph_of g) c.requires.graph preds c.requires.preds place to (block_of block) c.index-from.result.now found goes
    (in-lists (graph_of g) c.requires.graph preds c.requires.preds place to (block_of block) found goes) c.index-from.ensures c.if-to-eq0.false (omega (arith, c.len.ensures, c.if-len-ne1.false, c.index-from.result.now.ok.0))

pub returns-clause-within : goal.returns-clause-within
returns-clause-within c =
    let g = c.args.self.now.graph.now in
    let block = c.index.result.now in
    let preds = c.args.self.now.preds.now.items in
    let place = c.args.place in
    let to = c.in-Goto.to in
    let found = get-mapped g.blocks.items place block (slice_get-get_or g.blocks.items place block c.requires.place ∙ ap Some (sym c.index.ensures)) in
    omega (arith, goto-within (graph_of g) c.requires.graph (rows preds) c.requires.preds place to (block_of block) found (ap exit_of c.in-Goto.is), length-map g.blocks.items block_of)
