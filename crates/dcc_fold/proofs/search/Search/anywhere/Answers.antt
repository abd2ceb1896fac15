use Rattle.std.proofs.Common.{◌≡◌, ℕ, ◌+◌, ◌<◌, false, length, replicate, Option, sym, ap, ◌∙◌, subst, arith}
use Rattle.std.specs.Prelude.{MatchOption}
use Rattle.std.proofs.lemmas.List.{length-map}
use Rattle.dcc_ir.specs.Views.{expr_of, stmt_of, exit_of, block_of, graph_of}
use Rattle.dcc_fold.specs.Known.{known_of}
use Rattle.dcc_fold.specs.Found.{JoinsAlong, AreSeen}
use Rattle.dcc_fold.specs.Known.{IsBounded}
use Rattle.dcc_fold.proofs.FoundLaws.{along-joinable}
use Rattle.dcc_fold.proofs.KnownLaws.{empty-bounded}
use Rattle.dcc_fold.proofs.SearchLaws.{none-joinable, none-past}
use Rattle.dcc_fold.proofs.SeenLaws.{none-seen, seen-past}
use Rattle.dcc_fold.proofs.search.Search.anywhere.Goals as goal

pub loop-place-init : goal.loop-place-init
loop-place-init c =
    let g = c.args.self.now.chains.graph.now in
    let graph = graph_of g in
    let items : c.in_ok-seen.seen.items ≡ replicate c.len-count.result false = c.in_ok-seen.ensures.items_if_clones_equal (λ y same. same) in
    let count : c.len-count.result ≡ length graph.blocks = omega (arith, c.len-count.ensures, g.blocks.ok.0, length-map g.blocks.items block_of) in
    record {
      bounded = empty-bounded (known_of c.new-known.result) c.new-known.ensures;
      seen = subst (AreSeen graph 0) (sym (items ∙ ap (λ n. replicate n false) count)) (none-seen graph);
      none = λ first t less. absurd (omega (arith, less));
    }

pub loop-place-preserved-then-not-is_first : goal.loop-place-preserved-then-not-is_first
loop-place-preserved-then-not-is_first c =
    let g = c.args.self.now.chains.graph.now in
    let graph = graph_of g in
    let place = c.loop-place.place in
    let inv = c.loop-place.invariant in
    record {
      bounded = inv.bounded;
      seen = seen-past graph place c.loop-place.seen.items inv.seen;
      none = none-past graph place inv.none (λ is t. absurd (c.if-not-is_first.ensures is));
    }

pub in_chain-requires-clause-bounded : goal.in_chain-requires-clause-bounded
in_chain-requires-clause-bounded c = c.loop-place.invariant.bounded

pub in_chain-requires-clause-seen : goal.in_chain-requires-clause-seen
in_chain-requires-clause-seen c = c.loop-place.invariant.seen

pub returns-in-Some : goal.returns-in-Some
returns-in-Some c =
    let g = c.args.self.now.chains.graph.now in
    let graph = graph_of g in
    let place = c.loop-place.place in
    let inv = c.loop-place.invariant in
    let joins = subst (λ (o : Option ℕ). MatchOption o (IsBounded (known_of c.in_chain.new.known) × AreSeen graph (place + 1) c.in_chain.new.seen.items × ((n : ℕ) → ¬ JoinsAlong graph place n)) (JoinsAlong graph place)) c.in-Some.is c.in_ok-temporary.ensures in
    along-joinable graph c.in-Some.temporary place c.if-not-is_first.ensures joins

pub loop-place-preserved : goal.loop-place-preserved
loop-place-preserved c =
    let g = c.args.self.now.chains.graph.now in
    let graph = graph_of g in
    let place = c.loop-place.place in
    let inv = c.loop-place.invariant in
    let both = subst (λ (o : Option ℕ). MatchOption o (IsBounded (known_of c.in_chain.new.known) × AreSeen graph (place + 1) c.in_chain.new.seen.items × ((n : ℕ) → ¬ JoinsAlong graph place n)) (JoinsAlong graph place)) c.in_default.is c.in_ok-temporary.ensures in
    record {
      bounded = both.0;
      seen = both.1;
      none = none-past graph place inv.none (λ is. both.2);
    }

pub returns : goal.returns
returns c =
    let g = c.args.self.now.chains.graph.now in
    let graph = graph_of g in
    let place = c.loop-place.place in
    let inv = c.loop-place.invariant in
    none-joinable graph (λ first t less. inv.none first t (omega (arith, less, c.loop-place-test.false, c.len-count.ensures, length-map g.blocks.items block_of)))
