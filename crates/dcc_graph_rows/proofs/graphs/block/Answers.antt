use Rattle.std.proofs.Common.{◌<◌, [], map, refl, ap, ◌∙◌, arith}
use Rattle.std.specs.List.{list_all}
use Rattle.std.proofs.lemmas.Bool.{and_from, lt-ltb}
use Rattle.std.proofs.lemmas.List.{map_push}
use Rattle.dcc_ir.specs.Tree.{Goto}
use Rattle.dcc_ir.specs.Views.{stmt_of, exit_of}
use Rattle.dcc_ir.specs.WellFormed.{is_stmt, is_exit, jumps_after_call}
use Rattle.dcc_graph_rows.proofs.FineGraphs.{all_push, jumps_none, jumps_call}
use Rattle.dcc_graph_rows.proofs.graphs.block.Goals as goal

pub returns-in_ok-push-in-Call-clause-jumps : goal.returns-in_ok-push-in-Call-clause-jumps
returns-in_ok-push-in-Call-clause-jumps g c =
    let stmts = c.in_ok-stmts.stmts.items in
    let last = c.in_ok-last-in-Call.last in
    let is = ap (map stmt_of) c.in_ok-push-in-Call.ensures.items ∙ map_push stmt_of stmts last in
    ap (λ l. jumps_after_call l (Goto c.in-Call.next)) is
    ∙ jumps_call (map stmt_of stmts) (stmt_of last) (Goto c.in-Call.next) c.in_ok-stmts.ensures.plain refl

pub returns-in_ok-push-in-Call-clause-fine : goal.returns-in_ok-push-in-Call-clause-fine
returns-in_ok-push-in-Call-clause-fine g c =
    let stmts = c.in_ok-stmts.stmts.items in
    let last = c.in_ok-last-in-Call.last in
    let is = ap (map stmt_of) c.in_ok-push-in-Call.ensures.items ∙ map_push stmt_of stmts last in
    let inside : c.in-Call.next < c.args.count = omega arith in
    and_from _ _ (ap (list_all (is_stmt [])) is
    ∙ all_push (is_stmt []) (map stmt_of stmts) (stmt_of last) c.in_ok-stmts.ensures.fine c.in_ok-last-in-Call.ensures)
    (lt-ltb c.in-Call.next c.args.count inside)

pub returns-in_ok-end-in_default-clause-jumps : goal.returns-in_ok-end-in_default-clause-jumps
returns-in_ok-end-in_default-clause-jumps g c =
    jumps_none (map stmt_of c.in_ok-stmts.stmts.items) (exit_of c.in_ok-end-in_default.end) c.in_ok-stmts.ensures.plain

pub returns-in_ok-end-in_default-clause-fine : goal.returns-in_ok-end-in_default-clause-fine
returns-in_ok-end-in_default-clause-fine g c =
    and_from (list_all (is_stmt []) (map stmt_of c.in_ok-stmts.stmts.items)) (is_exit [] c.args.count (exit_of c.in_ok-end-in_default.end))
    c.in_ok-stmts.ensures.fine c.in_ok-end-in_default.ensures
