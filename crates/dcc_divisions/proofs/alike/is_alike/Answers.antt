use Rattle.std.proofs.Common.{◌∷◌, sym, ◌∙◌, subst}
use Rattle.dcc_ir.specs.Views.{expr_of, stmt_of}
use Rattle.dcc_divisions.specs.Divisions.{DividesFirst, first}
use Rattle.dcc_divisions.proofs.WalkLaws.{told-alike}
use Rattle.dcc_divisions.proofs.alike.is_alike.Goals as goal

pub returns-in-Div : goal.returns-in-Div
returns-in-Div c = λ told rest.
    let e = expr_of c.args.e.now in
    subst (λ s. DividesFirst e (stmt_of s ∷ rest)) (sym c.in-Div.is)
    (first (told-alike e (expr_of c.in-Div.division) (sym c.fault_alike.ensures ∙ told)))
