-- What the writer of statements has written.
use Rattle.std.specs.Prelude.{List, map}
use Rattle.dcc_ir.specs.Tree.{Stmt}
use Rattle.dcc_ir.specs.Views.{stmt_of}
use Rattle.dcc_ops.specs.declared.writer.Writer.{Writer}

-- the statements so far
abbrev pub written : Writer → List Stmt
written writer = map stmt_of writer.stmts.items
