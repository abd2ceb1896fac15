use Rattle.std.proofs.Common.{sym, ap, ◌∙◌}
use Rattle.std.proofs.lemmas.Result.{IfOk-weaker}
use Rattle.dcc_c.specs.Views.{expr_of}
use Rattle.dcc_named.specs.Named as spec
use Rattle.dcc_named.proofs.access.accessed.Goals as goal

pub returns-in-Num : goal.returns-in-Num
returns-in-Num c = λ globals ds knows known.
    IfOk-weaker c.direct.result _ _ (λ o own. own ∙ ap (spec.direct globals ds c.args.base) c.offset_of.ensures.value ∙ ap (λ x. spec.accessed globals ds c.args.base (expr_of x)) (sym c.in-Num.is))
    (c.direct.ensures globals ds knows)

pub returns-in-Bin : goal.returns-in-Bin
returns-in-Bin c = λ globals ds knows known.
    let base = c.args.base in
    let operator = c.in-Bin.operator in
    IfOk-weaker c.moved.result _ _
    (λ o own. own
    ∙ ap (λ x. spec.moved globals ds base operator (expr_of x) (expr_of c.deref-in-Bin.result.now)) c.deref.ensures
    ∙ ap (λ x. spec.moved globals ds base operator (expr_of c.in-Bin.index.value) (expr_of x)) c.deref-in-Bin.ensures
    ∙ ap (λ x. spec.accessed globals ds base (expr_of x)) (sym c.in-Bin.is))
    (c.moved.ensures globals ds knows known)
