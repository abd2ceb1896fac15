use Rattle.std.proofs.Common.{List, ◌++◌, map, take}
use Rattle.dcc_ir.specs.Tree.{Stmt}
use Rattle.dcc_ir.specs.Views.{stmt_of}
use Rattle.dcc_available.specs.Known.{known_of}
use Rattle.dcc_available.specs.Rewritten.{IsSound, AreRewritten}
use Rattle.dcc_available.proofs.known.Known.steps.Given as goal

abbrev pub invariant-loop-stmt : goal.invariant-loop-stmt
invariant-loop-stmt l = record {
  rewritten : (history : List Stmt) → IsSound (known_of l.initial.self) history → AreRewritten history (map stmt_of (take l.stmt-index l.stmts)) (map stmt_of l.news.items);
  sound : (history : List Stmt) → IsSound (known_of l.initial.self) history → IsSound (known_of l.self) (history ++ map stmt_of (take l.stmt-index l.stmts));
}
