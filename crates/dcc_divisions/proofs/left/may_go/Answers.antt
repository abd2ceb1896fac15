use Rattle.std.proofs.Common.{inl, inr, sym, ◌∙◌, subst}
use Rattle.dcc_ir.specs.Views.{stmt_of}
use Rattle.dcc_flow.specs.Marks.{members}
use Rattle.dcc_divisions.specs.Walk.{backward, MayGo, may}
use Rattle.dcc_divisions.proofs.left.may_go.Goals as goal

pub returns-then-divides_last : goal.returns-then-divides_last
returns-then-divides_last c = λ told.
    subst (λ s. MayGo (members c.args.live.now) (backward c.args.passed.now) (backward c.args.left.now) (stmt_of s)) (sym c.in-Div.is)
    (may (sym c.contains.ensures ∙ c.if-not-contains.true) (inr (c.divides_last.ensures told)))

pub returns-else-divides_last : goal.returns-else-divides_last
returns-else-divides_last c = λ told.
    subst (λ s. MayGo (members c.args.live.now) (backward c.args.passed.now) (backward c.args.left.now) (stmt_of s)) (sym c.in-Div.is)
    (may (sym c.contains.ensures ∙ c.if-not-contains.true) (inl (c.is_divided.ensures told)))
