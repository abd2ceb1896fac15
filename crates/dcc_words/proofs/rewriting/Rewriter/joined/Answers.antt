use Rattle.std.proofs.Common.{◌≡◌, sym, subst}
use Rattle.std.specs.Prelude.{IfOk}
use Rattle.dcc_ir.specs.declared.syntax.Stmt.TheVariants.{Set as SetOf}
use Rattle.dcc_ir.specs.Tree.{Set}
use Rattle.dcc_ir.specs.Views.{expr_of, stmt_of}
use Rattle.dcc_words.specs.Roles.{role_of}
use Rattle.dcc_words.specs.Rewriting.{IsJoined}
use Rattle.dcc_words.proofs.rewriting.Rewriter.joined.Goals as goal

pub returns-in-Set-Set : goal.returns-in-Set-Set
returns-in-Set-Set c =
    let role = role_of c.args.self.now.roles.now in
    let one : c.args.first ≡ SetOf c.in-Set-Set.place c.in-Set-Set.value = (let a = c.in-Set-Set.is-0 in cc) in
    let other : c.args.second ≡ SetOf c.in-Set-Set.next c.in-Set-Set.f = (let a = c.in-Set-Set.is-1 in cc) in
    subst (λ s. IfOk c.joined_sets.result (IsJoined role (stmt_of s) (stmt_of c.args.second))) (sym one)
    (subst (λ s. IfOk c.joined_sets.result (IsJoined role (Set c.in-Set-Set.place (expr_of c.in-Set-Set.value)) (stmt_of s))) (sym other)
    c.joined_sets.ensures)
