use Rattle.std.proofs.Common.{◌∷◌, not, sym, ap, ◌∙◌, subst}
use Rattle.dcc_ir.specs.Live.{is_among}
use Rattle.dcc_ir.specs.Views.{expr_of, stmt_of}
use Rattle.dcc_divisions.specs.Divisions.{IsDivided, here}
use Rattle.dcc_divisions.proofs.WalkLaws.{told-alike, unread}
use Rattle.dcc_divisions.proofs.alike.divides.Goals as goal

pub returns-then-fault_alike : goal.returns-then-fault_alike
returns-then-fault_alike c = λ apart passed.
    let e = expr_of c.args.e.now in
    let place = c.in-Div.place in
    let among = c.is_among.ensures ∙ ap (λ ls. is_among ls place) c.requires in
    subst (λ s. IsDivided e (stmt_of s ∷ passed)) (sym c.in-Div.is)
    (here (told-alike e (expr_of c.in-Div.division) (sym c.fault_alike.ensures ∙ c.if-fault_alike.true))
    (unread e place (sym (ap not among) ∙ apart)))
