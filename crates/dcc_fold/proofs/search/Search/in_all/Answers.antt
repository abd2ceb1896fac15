use Rattle.std.proofs.Common.{ℕ, map, subst}
use Rattle.std.proofs.lemmas.List.{take_all}
use Rattle.dcc_ir.specs.Views.{expr_of, stmt_of, exit_of, block_of, graph_of}
use Rattle.dcc_fold.specs.Known.{known_of}
use Rattle.dcc_fold.specs.Found.{IsFoundAmong}
use Rattle.dcc_fold.proofs.PartLaws.{none-taken}
use Rattle.dcc_fold.proofs.search.Search.in_all.Goals as goal

pub loop-e-preserved : goal.loop-e-preserved
loop-e-preserved c =
    let graph = graph_of c.args.self.now.chains.graph.now in
    let known = known_of c.args.known.now in
    none-taken graph known expr_of c.args.es.now c.loop-e.e-index c.e-item.result c.e-item.is c.loop-e-test.true c.loop-e.invariant c.in_default.ensures

pub returns : goal.returns
returns c =
    let graph = graph_of c.args.self.now.chains.graph.now in
    let known = known_of c.args.known.now in
    subst (λ xs. (n : ℕ) → ¬ IsFoundAmong graph known (map expr_of xs) n) (take_all c.loop-e.e-index c.args.es.now c.loop-e-test.false) c.loop-e.invariant
