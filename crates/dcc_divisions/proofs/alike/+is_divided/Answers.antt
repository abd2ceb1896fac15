use Rattle.std.proofs.Common.{sym, ap, ◌∙◌, subst}
use Rattle.dcc_ir.specs.Views.{expr_of}
use Rattle.dcc_divisions.specs.Divisions.{IsDivided, before}
use Rattle.dcc_divisions.specs.Walk.{backward}
use Rattle.dcc_divisions.proofs.WalkLaws.{backward-push}
use Rattle.dcc_divisions.proofs.alike.+is_divided.Goals as goal

pub returns-then-leaves : goal.returns-then-leaves
returns-then-leaves t c = λ told.
    let is = ap backward c.in-Some.ensures.cases.0 ∙ backward-push c.in-Some.earlier.now c.in-Some.last.now in
    subst (IsDivided (expr_of c.args.e.now)) (sym is) (before (c.leaves.ensures c.if-leaves.true) (c.is_divided.ensures told))
