use Rattle.std.proofs.Common.{◌≡◌, [], ◌∷◌, ◌++◌, map, true, false, sym, ap, ◌∙◌, subst}
use Rattle.std.specs.List.{list_all, list_any}
use Rattle.std.proofs.lemmas.List.{map_push}
use Rattle.dcc_ir.specs.Run.{is_call}
use Rattle.dcc_ir.specs.Views.{stmt_of}
use Rattle.dcc_ir.specs.WellFormed.{is_stmt}
use Rattle.dcc_graph_rows.proofs.FineGraphs.{all_push, none_push}
use Rattle.dcc_graph_rows.proofs.graphs.stmts.Goals as goal

pub loop-op-preserved : goal.loop-op-preserved
loop-op-preserved c =
    let stmts = c.loop-op.stmts.items in
    let one = c.in_ok-stmt.field-0 in
    let is = ap (map stmt_of) c.in_ok-push.ensures.items ∙ map_push stmt_of stmts one in
    record {
      fine = ap (list_all (is_stmt [])) is ∙ all_push (is_stmt []) (map stmt_of stmts) (stmt_of one) c.loop-op.invariant.fine c.in_ok-stmt.ensures.fine;
      plain = ap (list_any is_call) is ∙ none_push is_call (map stmt_of stmts) (stmt_of one) c.loop-op.invariant.plain c.in_ok-stmt.ensures.plain;
    }
