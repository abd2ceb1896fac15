use Rattle.std.proofs.Common.{◌++◌, map, refl, ap, ◌∙◌}
use Rattle.std.specs.Prelude.{option_map}
use Rattle.std.proofs.lemmas.Result.{IfOk-weaker}
use Rattle.dcc_c.specs.Rules.{declared_param, declared_local, declared_global}
use Rattle.dcc_c.specs.Tree.{Word}
use Rattle.dcc_c.specs.Typing as typing
use Rattle.dcc_c.specs.Views.{variable_of, function_of}
use Rattle.dcc_check.specs.Contexts.{held}
use Rattle.dcc_ctypes.specs.NameViews.{unnamed}
use Rattle.dcc_rewrite.proofs.Known.{known-variable}
use Rattle.dcc_named.specs.Named as spec
use Rattle.dcc_named.proofs.text.function.Goals as goal

pub returns : goal.returns
returns c = λ tree knows.
    let f = function_of c.args.f.now in
    let params = map declared_param f.params in
    let locals = map declared_local f.locals in
    let own = λ (word : Word).
    c.in_ok-own.ensures word
    ∙ ap (λ vs. option_map unnamed (typing.declared_as (map declared_param (map variable_of vs) ++ map declared_local (map variable_of c.deref-2.result.now)) word)) c.deref.ensures.value
    ∙ ap (λ vs. option_map unnamed (typing.declared_as (params ++ map declared_local (map variable_of vs)) word)) c.deref-2.ensures.value in
    c.function_after.ensures (spec.writing tree f) (record {
      tree = tree;
      function = f;
      known = record {
        names = λ word. known-variable (held c.in_ok-own.own word) (held c.args.known.now.globals.now word) params locals (map declared_global tree.globals) word (own word) (knows.globals word);
        places = knows.places;
      };
      is = refl;
    })
