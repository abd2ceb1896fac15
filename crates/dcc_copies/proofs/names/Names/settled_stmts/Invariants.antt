use Rattle.std.proofs.Common.{◌≡◌, map}
use Rattle.dcc_ir.specs.Views.{stmt_of}
use Rattle.dcc_copies.specs.Holders.{name_by}
use Rattle.dcc_copies.specs.Settled.{settled_stmts}
use Rattle.dcc_copies.proofs.names.Names.settled_stmts.Given as goal

abbrev pub invariant-loop-stmt : goal.invariant-loop-stmt
invariant-loop-stmt l = map stmt_of l.news.items ≡ settled_stmts (name_by l.self.of.items) (map stmt_of l.yielded)
