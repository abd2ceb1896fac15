use Rattle.std.proofs.Common.{◌≡◌, [], ◌∷◌, Ok, Err, true, false, ap, ◌∙◌}
use Rattle.std.specs.Prelude.{is_some}
use Rattle.dcc_crun.proofs.DosLaws.{argument_is, sole_err, result_missed}
use Rattle.dcc_crun.proofs.moment.Moment.sole_value.Goals as goal

pub returns-in_err-v : goal.returns-in_err-v
returns-in_err-v c dos takes =
    sole_err c.args.globals.now c.args.self.now dos c.args.target c.args.arguments.now c.from_residual.result c.in_err-v.field-0.0 c.from_residual.ensures.1
    (argument_is c.args.globals.now c.args.self.now dos c.args.arguments.now (Err c.in_err-v.field-0.0) _ _ c.scene.ensures (ap (λ t. t ∷ []) c.plain.ensures ∙ takes) c.in_err-v.ensures.value)

pub returns-then-is_some : goal.returns-then-is_some
returns-then-is_some c dos takes line tree points s now call =
    let flag : is_some c.args.target ≡ true = cc in
    result_missed c.args.globals.now c.args.self.now dos c.args.target c.args.arguments.now line tree points s now call c.in_ok-v.v
    (argument_is c.args.globals.now c.args.self.now dos c.args.arguments.now (Ok c.in_ok-v.v) _ _ c.scene.ensures (ap (λ t. t ∷ []) c.plain.ensures ∙ takes) c.in_ok-v.ensures.value) flag

pub returns : goal.returns
returns c dos takes =
    let flag : is_some c.args.target ≡ false = cc in
    (argument_is c.args.globals.now c.args.self.now dos c.args.arguments.now (Ok c.in_ok-v.v) _ _ c.scene.ensures (ap (λ t. t ∷ []) c.plain.ensures ∙ takes) c.in_ok-v.ensures.value, flag)
