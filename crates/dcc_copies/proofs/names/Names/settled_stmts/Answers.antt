use Rattle.std.proofs.Common.{List, [], ◌∷◌, ◌++◌, map, sym, ap, ap₂, ◌∙◌}
use Rattle.std.proofs.lemmas.List.{map-append}
use Rattle.dcc_ir.specs.Tree.{Stmt}
use Rattle.dcc_ir.specs.Views.{stmt_of}
use Rattle.dcc_copies.specs.Holders.{name_by}
use Rattle.dcc_copies.specs.Settled.{settled_stmts}
use Rattle.dcc_copies.proofs.LoopLaws.{settled-stays, settled-goes}
use Rattle.dcc_copies.proofs.names.Names.settled_stmts.Goals as goal

pub loop-stmt-preserved-in-Continue-1 : goal.loop-stmt-preserved-in-Continue-1
loop-stmt-preserved-in-Continue-1 c =
    let name = name_by c.args.self.now.of.items in
    let stmt = c.in-Some.stmt in
    let given = c.loop-stmt.yielded in
    ap (map stmt_of) c.in_ok-push.ensures.items ∙ map-append stmt_of c.loop-stmt.news.items (c.rename_stmt.new.stmt ∷ [])
    ∙ ap₂ (λ (xs : List Stmt) (x : Stmt). xs ++ x ∷ []) c.loop-stmt.invariant c.rename_stmt.ensures
    ∙ sym (settled-stays name (map stmt_of given) (stmt_of stmt) (sym c.is_own_copy.ensures ∙ c.if-not-is_own_copy.true))
    ∙ ap (settled_stmts name) (sym (map-append stmt_of given (stmt ∷ [])))

pub loop-stmt-preserved-else-not-is_own_copy-8 : goal.loop-stmt-preserved-else-not-is_own_copy-8
loop-stmt-preserved-else-not-is_own_copy-8 c =
    let name = name_by c.args.self.now.of.items in
    let stmt = c.in-Some.stmt in
    let given = c.loop-stmt.yielded in
    c.loop-stmt.invariant
    ∙ sym (settled-goes name (map stmt_of given) (stmt_of stmt) (sym c.is_own_copy.ensures ∙ c.if-not-is_own_copy.false))
    ∙ ap (settled_stmts name) (sym (map-append stmt_of given (stmt ∷ [])))
