use Rattle.std.proofs.Common.{◌≡◌, ◌<◌, ◌≢◌, ℕ, Bool, true, false, length, sym, ap, ◌∙◌, subst, arith, eqb-true, true≢false}
use Rattle.std.specs.Prelude.{MatchBool, ◌==◌, not}
use Rattle.std.proofs.lemmas.List.{length-map}
use Rattle.dcc_ir.proofs.PathLaws.{decided}
use Rattle.dcc_ir.specs.Views.{block_of, graph_of}
use Rattle.dcc_available.specs.Rows.{IsNext}
use Rattle.dcc_fold.specs.Chain.{IsFirst}
use Rattle.dcc_fold.proofs.ChainLaws.{one-behind, not-first}
use Rattle.dcc_fold.proofs.NextLaws.{list-first, item-within, item-first, first-told}
use Rattle.dcc_fold.proofs.chains.Chains.is_first.Goals as goal

pub returns-then-len-ne1 : goal.returns-then-len-ne1
returns-then-len-ne1 c =
    let g = c.args.self.now.graph.now in
    let preds = c.args.self.now.preds.now.items in
    let less : c.args.place < length (graph_of g).blocks = omega (arith, c.requires.place, length-map g.blocks.items block_of) in
    list-first (graph_of g) c.requires.graph preds c.requires.preds c.args.place c.index-from.result.now less c.index-from.ensures (λ one. c.if-len-ne1.true (omega (arith, one, c.len.ensures, c.index-from.result.now.ok.0)))

pub next-requires-clause-place : goal.next-requires-clause-place
next-requires-clause-place c =
    let g = c.args.self.now.graph.now in
    let preds = c.args.self.now.preds.now.items in
    let less : c.args.place < length (graph_of g).blocks = omega (arith, c.requires.place, length-map g.blocks.items block_of) in
    omega (
      arith,
      item-within (graph_of g) c.requires.graph preds c.requires.preds c.args.place c.index-from.result.now c.index.result.now less c.index-from.ensures (omega (arith, c.len.ensures, c.if-len-ne1.false, c.index-from.result.now.ok.0)) c.index.ensures,
      length-map g.blocks.items block_of,
    )

pub returns-in_default : goal.returns-in_default
returns-in_default c =
    let g = c.args.self.now.graph.now in
    let preds = c.args.self.now.preds.now.items in
    let less : c.args.place < length (graph_of g).blocks = omega (arith, c.requires.place, length-map g.blocks.items block_of) in
    item-first (graph_of g) c.requires.graph preds c.requires.preds c.args.place c.index-from.result.now c.index.result.now less c.index-from.ensures (omega (arith, c.len.ensures, c.if-len-ne1.false, c.index-from.result.now.ok.0)) c.index.ensures
    (c.in_default.ensures.next c.args.place)

pub returns : goal.returns
returns c =
    let g = c.args.self.now.graph.now in
    let preds = c.args.self.now.preds.now.items in
    let less : c.args.place < length (graph_of g).blocks = omega (arith, c.requires.place, length-map g.blocks.items block_of) in
    first-told (graph_of g) c.args.place c.index.result.now c.in-Some.to c.in-Some.ensures.next
    (item-first (graph_of g) c.requires.graph preds c.requires.preds c.args.place c.index-from.result.now c.index.result.now less c.index-from.ensures (omega (arith, c.len.ensures, c.if-len-ne1.false, c.index-from.result.now.ok.0)) c.index.ensures)
