use Rattle.std.proofs.Common.{◌≡◌, [], map, true, false}
use Rattle.std.specs.List.{list_all, list_any}
use Rattle.dcc_ir.specs.Run.{is_call}
use Rattle.dcc_ir.specs.Views.{stmt_of}
use Rattle.dcc_ir.specs.WellFormed.{is_stmt}
use Rattle.dcc_graph_rows.proofs.graphs.stmts.Given as goal

abbrev pub invariant-loop-op : goal.invariant-loop-op
invariant-loop-op l = record {
  fine : list_all (is_stmt []) (map stmt_of l.stmts.items) ≡ true;
  plain : list_any is_call (map stmt_of l.stmts.items) ≡ false;
}
