-- Which locations a graph mentions: those that it reads or writes.
use Rattle.std.specs.Prelude.{List, ◌++◌, flat_map}
use Rattle.dcc_ir.specs.declared.syntax.Loc.{Loc}
use Rattle.dcc_ir.specs.Tree.{Stmt, Block, Graph}
use Rattle.dcc_ir.specs.Use.{reads_of, exprs_of, writes_of, exit_exprs}
use Rattle.dcc_flow.specs.Access.{Access, BlockAccess}

-- the locations that a statement reads and writes, as often as it does
abbrev pub stmt_mentions : Stmt → List Loc
stmt_mentions stmt = flat_map reads_of (exprs_of stmt) ++ writes_of stmt

abbrev pub block_mentions : Block → List Loc
block_mentions b = flat_map stmt_mentions b.stmts ++ flat_map reads_of (exit_exprs b.exit)

abbrev pub graph_mentions : Graph → List Loc
graph_mentions g = flat_map block_mentions g.blocks

-- the locations that a statement mentions, by what is told of its reads and writes
abbrev pub access_mentions : Access → List Loc
access_mentions a = a.reads ++ a.writes

abbrev pub block_access_mentions : BlockAccess → List Loc
block_access_mentions b = flat_map access_mentions b.stmts ++ b.last
