use Rattle.std.proofs.Common.{None, sym, ap, ◌∙◌}
use Rattle.std.specs.Prelude.{if◌then◌else◌}
use Rattle.std.proofs.lemmas.Result.{IfOk-weaker}
use Rattle.dcc_c.specs.Views.{expr_of}
use Rattle.dcc_named.specs.Named as spec
use Rattle.dcc_named.proofs.expression.pointed_by.Goals as goal

pub returns-then-ty : goal.returns-then-ty
returns-then-ty c = λ globals ds knows known.
    let type = c.in-Cast.ty in
    IfOk-weaker c.accessed.result _ _
    (λ o own. own
    ∙ ap (λ x. spec.accessed globals ds type.base (expr_of x)) c.deref.ensures
    ∙ ap (λ b. if b then spec.accessed globals ds type.base (expr_of c.in-Cast.address.value) else None) (sym c.if-ty.true)
    ∙ ap (λ x. spec.pointed_by globals ds (expr_of x)) (sym c.in-Cast.is))
    (c.accessed.ensures globals ds knows known)
