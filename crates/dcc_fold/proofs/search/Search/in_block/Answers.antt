use Rattle.std.proofs.Common.{◌≡◌, ◌<◌, ◌≤◌, length, get_or, refl, ap, ◌∙◌, arith}
use Rattle.dcc_ir.specs.Views.{expr_of, stmt_of, exit_of, block_of, graph_of}
use Rattle.dcc_fold.specs.Known.{known_of}
use Rattle.dcc_fold.proofs.BlockLaws.{comes-on, found-here}
use Rattle.dcc_fold.proofs.SearchLaws.{end-found}
use Rattle.dcc_fold.proofs.search.Search.in_block.Goals as goal

pub returns-in-Some : goal.returns-in-Some
returns-in-Some c =
    let graph = graph_of c.args.self.now.chains.graph.now in
    let stmts = c.args.block.now.stmts.items in
    let block = block_of c.args.block.now in
    let first = known_of c.args.known.now in
    let known = known_of c.loop-stmt.known in
    let i = c.loop-stmt.stmt-index in
    let same = c.deref-stmt-items.ensures.value in
    let s = c.stmt-item.result in
    let got = c.stmt-item.is ∙ ap (λ xs. get_or xs i s) same in
    let less : i < length stmts = omega (arith, c.loop-stmt-test.true, ap length same) in
    found-here graph stmt_of stmts block refl first known i s got less c.loop-stmt.invariant c.in-Some.temporary c.in-Some.ensures

pub loop-stmt-preserved : goal.loop-stmt-preserved
loop-stmt-preserved c =
    let graph = graph_of c.args.self.now.chains.graph.now in
    let stmts = c.args.block.now.stmts.items in
    let block = block_of c.args.block.now in
    let first = known_of c.args.known.now in
    let known = known_of c.loop-stmt.known in
    let i = c.loop-stmt.stmt-index in
    let same = c.deref-stmt-items.ensures.value in
    let s = c.stmt-item.result in
    let got = c.stmt-item.is ∙ ap (λ xs. get_or xs i s) same in
    let less : i < length stmts = omega (arith, c.loop-stmt-test.true, ap length same) in
    comes-on graph stmt_of stmts block refl first known i s got less c.loop-stmt.invariant (known_of c.pass.new.self) c.in_default.ensures c.in_ok-pass.ensures

pub returns : goal.returns
returns c =
    let graph = graph_of c.args.self.now.chains.graph.now in
    let stmts = c.args.block.now.stmts.items in
    let block = block_of c.args.block.now in
    let first = known_of c.args.known.now in
    let known = known_of c.loop-stmt.known in
    let i = c.loop-stmt.stmt-index in
    let same = c.deref-stmt-items.ensures.value in
    let all : length stmts ≤ i = omega (arith, c.loop-stmt-test.false, ap length same) in
    end-found graph stmt_of stmts block refl first known i all c.loop-stmt.invariant c.in_end.result c.in_end.ensures
