use Rattle.std.proofs.Common.{◌≡◌, ℕ, ◌<◌, ◌++◌, length, map, Option, Some, sym, ap, ◌∙◌, subst, arith}
use Rattle.std.specs.Prelude.{MatchOption}
use Rattle.std.proofs.lemmas.List.{length-map}
use Rattle.std.proofs.lemmas.Option.{slice_get-get_or}
use Rattle.dcc_ir.specs.Views.{expr_of, stmt_of, exit_of, block_of, graph_of}
use Rattle.dcc_fold.specs.Known.{known_of}
use Rattle.dcc_available.proofs.GraphLaws.{get-mapped}
use Rattle.dcc_fold.specs.Carried.{IsTrue}
use Rattle.dcc_fold.specs.Chain.{statement}
use Rattle.dcc_fold.specs.Found.{JoinsIn}
use Rattle.dcc_fold.proofs.SeenLaws.{comes-first, comes-next, seen-marked, none-along, some-along}
use Rattle.dcc_fold.proofs.search.Search.in_chain.Goals as goal

pub chain-init : goal.chain-init
chain-init c =
    let g = c.args.self.now.chains.graph.now in
    let less : c.args.first < length (graph_of g).blocks = omega (arith, c.requires.first, length-map g.blocks.items block_of) in
    comes-first (graph_of g) c.args.first (known_of c.args.known.now) (known_of c.begin.new.self) c.args.seen.now.items less c.requires.begins c.requires.seen c.requires.bounded c.begin.ensures

pub returns-in-Some : goal.returns-in-Some
returns-in-Some c =
    let g = c.args.self.now.chains.graph.now in
    let graph = graph_of g in
    let place = c.chain.place in
    let known = known_of c.chain.known in
    let seen = c.chain.seen.items in
    let comes = c.chain.invariant in
    let b = c.index.result.now in
    let block = block_of b in
    let long = length-map g.blocks.items block_of in
    let within : place < length g.blocks.items = omega (arith, comes.within, long) in
    let found = get-mapped g.blocks.items place b (slice_get-get_or g.blocks.items place b within ∙ ap Some (sym c.index.ensures)) in
    let last = known_of c.in_block.new.known in
    let told = c.in_ok-temporary.ensures comes.lead comes.is_true in
    let joins = subst (λ (o : Option ℕ). MatchOption o (IsTrue last (comes.lead ++ map statement block.stmts) × ((n : ℕ) → ¬ JoinsIn graph comes.lead block n)) (JoinsIn graph comes.lead block)) c.in-Some.is told in
    some-along graph c.args.first place known seen comes block c.in-Some.temporary found joins

pub returns-in_default-next : goal.returns-in_default-next
returns-in_default-next c =
    let g = c.args.self.now.chains.graph.now in
    let graph = graph_of g in
    let place = c.chain.place in
    let known = known_of c.chain.known in
    let seen = c.chain.seen.items in
    let comes = c.chain.invariant in
    let b = c.index.result.now in
    let block = block_of b in
    let long = length-map g.blocks.items block_of in
    let within : place < length g.blocks.items = omega (arith, comes.within, long) in
    let found = get-mapped g.blocks.items place b (slice_get-get_or g.blocks.items place b within ∙ ap Some (sym c.index.ensures)) in
    let last = known_of c.in_block.new.known in
    let told = c.in_ok-temporary.ensures comes.lead comes.is_true in
    let both = subst (λ (o : Option ℕ). MatchOption o (IsTrue last (comes.lead ++ map statement block.stmts) × ((n : ℕ) → ¬ JoinsIn graph comes.lead block n)) (JoinsIn graph comes.lead block)) c.in_default.is told in
    (both.0.bounded, seen-marked graph c.args.first place known seen comes, none-along graph c.args.first place known seen comes block found c.in_default-next.ensures.next both.1)

pub chain-preserved : goal.chain-preserved
chain-preserved c =
    let g = c.args.self.now.chains.graph.now in
    let graph = graph_of g in
    let place = c.chain.place in
    let known = known_of c.chain.known in
    let seen = c.chain.seen.items in
    let comes = c.chain.invariant in
    let b = c.index.result.now in
    let block = block_of b in
    let long = length-map g.blocks.items block_of in
    let within : place < length g.blocks.items = omega (arith, comes.within, long) in
    let found = get-mapped g.blocks.items place b (slice_get-get_or g.blocks.items place b within ∙ ap Some (sym c.index.ensures)) in
    let last = known_of c.in_block.new.known in
    let told = c.in_ok-temporary.ensures comes.lead comes.is_true in
    let both = subst (λ (o : Option ℕ). MatchOption o (IsTrue last (comes.lead ++ map statement block.stmts) × ((n : ℕ) → ¬ JoinsIn graph comes.lead block n)) (JoinsIn graph comes.lead block)) c.in_default.is told in
    let to = c.in-Some-next.to in
    let less : to < length graph.blocks = omega (arith, c.in-Some-next.ensures.within, long) in
    comes-next graph c.args.first place known seen comes block last (known_of c.cross.new.self) to found c.in-Some-next.ensures.next less both.0 both.1 c.cross.ensures
