use Rattle.std.proofs.Common.{map, ap, ◌∙◌}
use Rattle.std.specs.Prelude.{string_bytes}
use Rattle.dcc_c.specs.Views.{variable_of, function_of, lines_of}
use Rattle.dcc_respell.specs.Writing.{lines_by}
use Rattle.dcc_rewrite.proofs.Known.{same-function}
use Rattle.dcc_rewrite.proofs.walk.function_after.Goals as goal

pub returns : goal.returns
returns g c = λ w is.
    let f = function_of c.args.f.now in
    same-function f.result f.last (string_bytes c.in_ok-clone.field-0) f.name (map variable_of c.in_ok-copied_variables.field-0.items) f.params (map variable_of c.in_ok-copied_variables-2.field-0.items) f.locals (lines_of c.in_ok-body.body.items) (lines_by w f.body)
    c.in_ok-clone.ensures.cases
    (c.in_ok-copied_variables.ensures ∙ ap (map variable_of) c.deref-2.ensures.value)
    (c.in_ok-copied_variables-2.ensures ∙ ap (map variable_of) c.deref-3.ensures.value)
    (c.in_ok-body.ensures w is ∙ ap (λ ls. lines_by w (lines_of ls)) c.deref.ensures.value)
