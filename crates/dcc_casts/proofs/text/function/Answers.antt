use Rattle.std.proofs.Common.{◌++◌, map, refl, ap, ◌∙◌}
use Rattle.std.specs.Prelude.{option_map, string_bytes}
use Rattle.dcc_c.specs.Rules.{declared_param, declared_local, declared_global}
use Rattle.dcc_c.specs.Tree.{Word}
use Rattle.dcc_c.specs.Typing as typing
use Rattle.dcc_c.specs.Views.{variable_of, function_of, lines_of}
use Rattle.dcc_check.specs.Contexts.{held}
use Rattle.dcc_ctypes.specs.NameViews.{unnamed}
use Rattle.dcc_respell.specs.Writing.{lines_by}
use Rattle.dcc_casts.specs.Casts as spec
use Rattle.dcc_casts.proofs.Whole.{known-variable, same-function}
use Rattle.dcc_casts.proofs.text.function.Goals as goal

pub returns : goal.returns
returns c = λ tree knows.
    let f = function_of c.args.f.now in
    let params = map declared_param f.params in
    let locals = map declared_local f.locals in
    let own = λ (word : Word).
    c.in_ok-own.ensures word
    ∙ ap (λ vs. option_map unnamed (typing.declared_as (map declared_param (map variable_of vs) ++ map declared_local (map variable_of c.deref-2.result.now)) word)) c.deref.ensures.value
    ∙ ap (λ vs. option_map unnamed (typing.declared_as (params ++ map declared_local (map variable_of vs)) word)) c.deref-2.ensures.value in
    let body = c.in_ok-body.ensures tree f (record {
      names = λ word. known-variable (held c.in_ok-own.own word) (held c.args.known.now.globals.now word) params locals (map declared_global tree.globals) word (own word) (knows.globals word);
      functions = knows.functions;
      result = refl;
    }) ∙ ap (λ ls. lines_by (spec.writing tree f) (lines_of ls)) c.deref-3.ensures.value in
    same-function f.result f.last (string_bytes c.in_ok-clone.field-0) f.name (map variable_of c.in_ok-variables.field-0.items) f.params (map variable_of c.in_ok-variables-2.field-0.items) f.locals (lines_of c.in_ok-body.body.items) (lines_by (spec.writing tree f) f.body)
    c.in_ok-clone.ensures.cases
    (c.in_ok-variables.ensures ∙ ap (map variable_of) c.deref-4.ensures.value)
    (c.in_ok-variables-2.ensures ∙ ap (map variable_of) c.deref-5.ensures.value)
    body
