use Rattle.std.proofs.Common.{◌≡◌, ◌<◌, length, get_or, sym, ap, ◌∙◌, arith, below_more}
use Rattle.std.proofs.lemmas.List.{length-map, get_or_read}
use Rattle.dcc_ir.specs.Tree.{Block}
use Rattle.dcc_ir.specs.Views.{block_of, graph_of}
use Rattle.dcc_flags.specs.declared.sources.Source.TheVariants.{Nothing}
use Rattle.dcc_flags.specs.Sources.{mixes}
use Rattle.dcc_flags.proofs.TableLaws.{block_read}
use Rattle.dcc_flags.proofs.ToldLaws.{mixed_in, kept_if_passed, kept_if_mixed, not_kept}
use Rattle.dcc_flags.proofs.kept.is_kept.Goals.{After-mixes}
use Rattle.dcc_flags.proofs.kept.is_kept.Goals as goal

pub returns-then-is_passed : goal.returns-then-is_passed
returns-then-is_passed c =
    kept_if_passed (graph_of c.args.walk.now.graph.now) c.args.f (sym c.is_passed.ensures ∙ c.if-is_passed.true)

-- what the code looked at
looked : (c : After-mixes) → c.mixes.result ≡ mixed_in (graph_of c.args.walk.now.graph.now) c.args.f c.in_ok-table.table.items c.loop-place.place
looked c =
    let graph = graph_of c.args.walk.now.graph.now in
    let f = c.args.f in
    let table = c.in_ok-table.table.items in
    let place = c.loop-place.place in
    let inside : place < length table = omega arith in
    let size = length-map c.args.walk.now.graph.now.blocks.items block_of in
    let within : place < length c.args.walk.now.graph.now.blocks.items = omega (arith, inside, size, c.in_ok-table.ensures.count) in
    let entry = get_or_read table place c.index.result.now inside c.index.ensures Nothing in
    let block = block_read c.args.walk.now.graph.now place c.index-in-loop-place.result.now within c.index-in-loop-place.ensures in
    c.mixes.ensures
    ∙ ap (λ s. mixes f s place 0 (block_of c.index-in-loop-place.result.now).stmts (block_of c.index-in-loop-place.result.now).exit) entry
    ∙ ap (λ (b : Block). mixes f (get_or table place Nothing) place 0 b.stmts b.exit) block

pub returns-then-mixes : goal.returns-then-mixes
returns-then-mixes c =
    kept_if_mixed (graph_of c.args.walk.now.graph.now) c.args.f c.in_ok-table.table.items c.in_ok-table.ensures c.loop-place.place
    (sym (looked (goal.at.returns-then-mixes c).After-mixes) ∙ c.if-mixes.true)

pub loop-place-preserved : goal.loop-place-preserved
loop-place-preserved c =
    below_more _ _ c.loop-place.invariant (sym (looked (goal.at.loop-place-preserved c).After-mixes) ∙ c.if-mixes.false)

pub returns : goal.returns
returns c =
    not_kept (graph_of c.args.walk.now.graph.now) c.args.f c.in_ok-table.table.items c.in_ok-table.ensures
    (sym c.is_passed.ensures ∙ c.if-is_passed.false)
    (λ k inside. c.loop-place.invariant k (omega arith))
