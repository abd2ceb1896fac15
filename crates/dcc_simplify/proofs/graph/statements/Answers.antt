use Rattle.dcc_ir.specs.Views.{stmt_of}
use Rattle.dcc_rules.specs.Views.{numbers_of}
use Rattle.dcc_simplify.specs.Reshaped.{IsStmtAs}
use Rattle.dcc_simplify.specs.Simplified.{IsSimplified}
use Rattle.dcc_simplify.proofs.ZipLaws.{zip-pushed}
use Rattle.dcc_simplify.proofs.graph.statements.Goals as goal

pub loop-stmt-preserved : goal.loop-stmt-preserved
loop-stmt-preserved g c =
    zip-pushed stmt_of (IsStmtAs (IsSimplified (numbers_of c.args.by.now.rules.now) c.args.by.now.bits.now)) c.loop-stmt.yielded c.loop-stmt.done.items
    c.in-Some.stmt c.in_ok-statement.field-0 c.push.new.self.items c.in_ok-push.ensures.items c.loop-stmt.invariant c.in_ok-statement.ensures
