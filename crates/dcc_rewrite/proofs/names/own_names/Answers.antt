use Rattle.std.proofs.Common.{map, sym, ap, ◌∙◌}
use Rattle.std.specs.Prelude.{option_map}
use Rattle.dcc_c.specs.Typing.{declared_as}
use Rattle.dcc_c.specs.Rules.{declared_param, declared_local}
use Rattle.dcc_c.specs.Views.{variable_of}
use Rattle.dcc_ctypes.specs.NameViews.{unnamed}
use Rattle.dcc_check.specs.Declarations.{first_found}
use Rattle.dcc_check.proofs.MapLaws.{none-held, declared-append, map-found}
use Rattle.dcc_rewrite.proofs.names.own_names.Goals as goal

pub returns : goal.returns
returns c = λ word.
    let params = map declared_param (map variable_of c.args.params.now) in
    let locals = map declared_local (map variable_of c.args.locals.now) in
    c.in_ok-add_locals.ensures word
    ∙ ap (λ o. first_found o (option_map unnamed (declared_as locals word)))
    (c.in_ok-add_params.ensures word ∙ ap (λ o. first_found o (option_map unnamed (declared_as params word))) (none-held c.new-own.result word c.new-own.ensures.empty))
    ∙ sym (ap (option_map unnamed) (declared-append params locals word) ∙ map-found unnamed (declared_as params word) (declared_as locals word))
