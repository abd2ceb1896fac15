use Rattle.std.proofs.Common.{map}
use Rattle.dcc_ir.specs.Views.{stmt_of}
use Rattle.dcc_webs.specs.Names.{names_of}
use Rattle.dcc_webs.proofs.WalkLaws.{StmtsFrom}
use Rattle.dcc_webs.proofs.splitting.rename_stmts.Given as goal

abbrev pub invariant-loop-at : goal.invariant-loop-at
invariant-loop-at l = StmtsFrom l.temps l.base (names_of l.initial.names) (map stmt_of l.initial.stmts.items) l.stmts.items (names_of l.names) l.at

abbrev pub decreases-loop-at : goal.decreases-loop-at
decreases-loop-at l = l.at
