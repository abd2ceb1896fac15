use Rattle.std.proofs.Common.{sym}
use Rattle.dcc_ir.specs.Views.{expr_of, stmt_of, exit_of, block_of, graph_of}
use Rattle.dcc_fold.specs.Known.{known_of}
use Rattle.dcc_fold.proofs.PartLaws.{one-read, too-deep, read-found}
use Rattle.dcc_fold.proofs.search.Search.at_read.Goals as goal

pub returns-then-not-has : goal.returns-then-not-has
returns-then-not-has c =
    let graph = graph_of c.args.self.now.chains.graph.now in
    let known = known_of c.args.known.now in
    one-read graph known (expr_of c.args.whole.now) c.args.location c.in-Temp.temporary c.in-Temp.is (λ found. c.if-not-has.ensures graph c.requires found.alone)

pub returns-then-not-is_within_with : goal.returns-then-not-is_within_with
returns-then-not-is_within_with c =
    let graph = graph_of c.args.self.now.chains.graph.now in
    let known = known_of c.args.known.now in
    let whole = expr_of c.args.whole.now in
    one-read graph known whole c.args.location c.in-Temp.temporary c.in-Temp.is
    (too-deep graph known whole c.in-Temp.temporary (expr_of c.in-Some.value.now) (sym c.in-Some.ensures) (sym c.if-not-is_within_with.ensures))

pub returns : goal.returns
returns c =
    let graph = graph_of c.args.self.now.chains.graph.now in
    let known = known_of c.args.known.now in
    read-found graph known (expr_of c.args.whole.now) c.args.location c.in-Temp.temporary (expr_of c.in-Some.value.now) c.in-Temp.is (c.if-not-has.ensures graph c.requires) (sym c.in-Some.ensures)
    (sym c.if-not-is_within_with.ensures)
