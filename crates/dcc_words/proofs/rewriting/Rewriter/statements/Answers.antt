use Rattle.std.proofs.Common.{◌≡◌, ◌-◌, ◌++◌, [], map, take, sym, ap, subst, ◌∙◌}
use Rattle.dcc_ir.specs.Views.{stmt_of}
use Rattle.dcc_words.specs.Words.{AreInWords}
use Rattle.dcc_words.specs.Roles.{role_of}
use Rattle.dcc_words.proofs.StepLaws.{AreWritten, none-written, last-written, fewer-left, all-written}
use Rattle.dcc_words.proofs.rewriting.Rewriter.statements.Goals as goal

pub loop-stmt-init : goal.loop-stmt-init
loop-stmt-init c =
    subst (AreWritten (role_of c.args.self.now.roles.now) (map stmt_of c.args.stmts.items) c.args.stmts.items) (sym c.new-after.ensures.items)
    (none-written (role_of c.args.self.now.roles.now) c.args.stmts.items)

pub loop-stmt-preserved : goal.loop-stmt-preserved
loop-stmt-preserved c =
    last-written (role_of c.args.self.now.roles.now) (map stmt_of c.args.stmts.items) c.loop-stmt.rest.items c.pop.new.self.items c.last.new.rest.items
    c.in-Some.stmt c.in_ok-last.field-0 c.loop-stmt.after.items c.push.new.self.items c.in-Some.ensures.items c.in_ok-push.ensures.items c.in_ok-last.ensures
    c.loop-stmt.invariant

pub loop-stmt-smaller : goal.loop-stmt-smaller
loop-stmt-smaller c =
    fewer-left (role_of c.args.self.now.roles.now) c.loop-stmt.rest.items c.pop.new.self.items c.last.new.rest.items c.in-Some.stmt
    c.in_ok-last.field-0 c.in-Some.ensures.items c.in_ok-last.ensures

pub returns : goal.returns
returns c =
    let last : c.pop.new.self.items ≡ [] = c.in_default.ensures.rest ∙ ap (λ n. take (n - 1) c.loop-stmt.rest.items) c.in_default.ensures.cases.0 in
    let none : c.loop-stmt.rest.items ≡ [] = c.in_default.ensures.items ∙ ap (λ l. l ++ []) last in
    subst (λ l. AreInWords (role_of c.args.self.now.roles.now) (map stmt_of c.args.stmts.items) (map stmt_of l)) (sym c.reverse.ensures.items)
    (all-written (role_of c.args.self.now.roles.now) (map stmt_of c.args.stmts.items) c.loop-stmt.rest.items c.loop-stmt.after.items none c.loop-stmt.invariant)
