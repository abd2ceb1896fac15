use Rattle.std.proofs.Common.{map, sym, ap, ◌∙◌}
use Rattle.std.specs.Prelude.{option_map}
use Rattle.std.proofs.lemmas.Result.{IfOk-weaker}
use Rattle.dcc_c.specs.Rules.{declared_in}
use Rattle.dcc_c.specs.Views.{expr_of}
use Rattle.dcc_casts.specs.Casts as spec
use Rattle.dcc_casts.proofs.Callees.{known-function, unknown-function}
use Rattle.dcc_casts.proofs.statement.arguments.Goals as goal

pub returns-in-Some : goal.returns-in-Some
returns-in-Some c = λ tree f of.
    let functions = c.args.scene.now.functions.now in
    let word = c.args.function.now in
    let es = map expr_of c.args.es.now in
    let known = known-function functions tree f word es c.in-Some.params.now of.functions (sym c.get.ensures.value ∙ ap (λ o. option_map (λ b. b.now) o) c.in-Some.is) in
    IfOk-weaker c.passed.result _ _ (λ after is. is ∙ ap (λ types. spec.passed (declared_in tree f) types es) c.as_slice.ensures.value ∙ sym known) (c.passed.ensures (declared_in tree f) of.names)

pub returns-in-None : goal.returns-in-None
returns-in-None c = λ tree f of.
    let functions = c.args.scene.now.functions.now in
    let word = c.args.function.now in
    let es = map expr_of c.args.es.now in
    let unknown = unknown-function functions tree f word es of.functions (sym c.get.ensures.value ∙ ap (λ o. option_map (λ b. b.now) o) c.in-None.is) in
    IfOk-weaker c.all_copied.result _ _ (λ after is. is ∙ sym unknown) c.all_copied.ensures
