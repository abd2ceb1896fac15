use Rattle.std.proofs.Common.{sym, ap, ◌∙◌}
use Rattle.std.proofs.lemmas.Result.{IfOk-weaker}
use Rattle.dcc_c.specs.Views.{expr_of}
use Rattle.dcc_named.specs.Named as spec
use Rattle.dcc_named.proofs.access.moved.Goals as goal

pub returns-in-Num : goal.returns-in-Num
returns-in-Num c = λ globals ds knows known.
    let index = expr_of c.args.index.now in
    IfOk-weaker c.moved_by.result _ _ (λ o own. own ∙ ap (spec.moved_by globals ds c.args.base c.args.operator index) c.offset_of.ensures.value ∙ ap (λ x. spec.moved globals ds c.args.base c.args.operator index (expr_of x)) (sym c.in-Num.is))
    (c.moved_by.ensures globals ds knows known)
