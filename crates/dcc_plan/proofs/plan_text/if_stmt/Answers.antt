use Rattle.std.proofs.Common.{sym, ap, ◌∙◌}
use Rattle.std.specs.Prelude.{if◌then◌else◌}
use Rattle.dcc_c.specs.Tree.{If}
use Rattle.dcc_c.specs.Views.{expr_of, lines_of}
use Rattle.dcc_c.proofs.RowLaws.{if-tree}
use Rattle.dcc_plan.proofs.plan_text.if_stmt.Goals as goal

pub returns-then-truth : goal.returns-then-truth
returns-then-truth c =
    let body = lines_of c.args.body.items in
    let otherwise = lines_of c.args.otherwise.items in
    if-tree c.args.test c.args.body c.args.otherwise
    ∙ ap (λ on. If (expr_of c.args.test) (if on then body else otherwise) (if on then otherwise else body)) (sym c.if-truth.true)

pub returns-else-truth : goal.returns-else-truth
returns-else-truth c =
    let body = lines_of c.args.body.items in
    let otherwise = lines_of c.args.otherwise.items in
    if-tree c.args.test c.args.otherwise c.args.body
    ∙ ap (λ on. If (expr_of c.args.test) (if on then body else otherwise) (if on then otherwise else body)) (sym c.if-truth.false)
