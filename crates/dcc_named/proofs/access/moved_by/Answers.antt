use Rattle.std.proofs.Common.{sym, ap, ◌∙◌}
use Rattle.std.proofs.lemmas.Result.{IfOk-weaker}
use Rattle.dcc_c.specs.Views.{expr_of}
use Rattle.dcc_named.specs.Named as spec
use Rattle.dcc_named.proofs.access.moved_by.Goals as goal

pub returns-in-Add : goal.returns-in-Add
returns-in-Add c = λ globals ds knows known.
    IfOk-weaker c.indexed.result _ _ (λ o own. own ∙ ap (λ operator. spec.moved_by globals ds c.args.base operator (expr_of c.args.index.now) c.args.at) (sym c.in-Add.is))
    (c.indexed.ensures globals ds knows known)

pub returns-in-Sub : goal.returns-in-Sub
returns-in-Sub c = λ globals ds knows known.
    IfOk-weaker c.indexed-in-Sub.result _ _ (λ o own. own ∙ ap (λ operator. spec.moved_by globals ds c.args.base operator (expr_of c.args.index.now) c.args.at) (sym c.in-Sub.is))
    (c.indexed-in-Sub.ensures globals ds knows known)
