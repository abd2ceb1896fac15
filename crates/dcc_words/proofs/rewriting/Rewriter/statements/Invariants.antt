use Rattle.std.proofs.Common.{◌≡◌, ◌++◌, List, length, map, reverse}
use Rattle.dcc_ir.specs.Tree.{Stmt}
use Rattle.dcc_ir.specs.Views.{stmt_of}
use Rattle.dcc_words.specs.Words.{AreInWords}
use Rattle.dcc_words.specs.Roles.{role_of}
use Rattle.dcc_words.proofs.rewriting.Rewriter.statements.Given as goal

abbrev pub invariant-loop-stmt : goal.invariant-loop-stmt
invariant-loop-stmt l =
    (written : List Stmt) × (map stmt_of l.initial.rest.items ≡ map stmt_of l.rest.items ++ written)
    × AreInWords (role_of l.self.roles.now) written (map stmt_of (reverse l.after.items))

abbrev pub decreases-loop-stmt : goal.decreases-loop-stmt
decreases-loop-stmt l = length l.rest.items
