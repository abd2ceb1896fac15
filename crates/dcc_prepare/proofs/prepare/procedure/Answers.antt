use Rattle.std.proofs.Common.{◌≡◌, ◌++◌, List, map, false, refl, sym, ap, ◌∙◌, subst, string_bytes}
use Rattle.std.specs.Prelude.{codes}
use Rattle.dcc_c.proofs.NameLaws.{same_bytes-answer}
use Rattle.dcc_c.specs.declared.syntax.Line.{Line}
use Rattle.dcc_c.specs.declared.syntax.Var.{Var}
use Rattle.dcc_c.specs.Typing.{Declared}
use Rattle.dcc_c.specs.Tree.{Function}
use Rattle.dcc_c.specs.Placement.{param_places, local_places, params_of_call, locals_of_call}
use Rattle.dcc_c.specs.Views.{variable_of, lines_of, function_of}
use Rattle.dcc_prepare.specs.declared.program.Variable.{Variable}
use Rattle.dcc_value.specs.declared.variable.Declared.{Declared as Named}
use Rattle.dcc_value.specs.Evaluation.{declared_of}
use Rattle.dcc_value.specs.Resolved.{Names}
use Rattle.dcc_prepare.specs.Points.{declared_with, locals_declared}
use Rattle.dcc_prepare.specs.Programs.{AreVariables}
use Rattle.dcc_prepare.specs.Prepared.{names_declared, IsBody}
use Rattle.dcc_prepare.proofs.PrepareLaws.{names_are}
use Rattle.dcc_prepare.proofs.prepare.procedure.Goals as goal

pub returns : goal.returns
returns c tree globals functions =
    let function = c.args.function.now in
    let f : Function = function_of function in
    let ps = c.in_ok-params.params.items in
    let ls = c.in_ok-locals.locals.items in
    let params_now = c.deref-2.result.now in
    let of_params : AreVariables (map variable_of params_now) (λ base. param_places (lines_of function.body.items) base 0 false (map variable_of params_now)) ps =
    subst (λ (body : List Line). AreVariables (map variable_of params_now) (λ base. param_places (lines_of body) base 0 false (map variable_of params_now)) ps)
    c.deref.ensures.value c.in_ok-params.ensures in
    let params : AreVariables f.params (params_of_call f) ps =
    subst (λ (vs : List Var). AreVariables (map variable_of vs) (λ base. param_places (lines_of function.body.items) base 0 false (map variable_of vs)) ps)
    c.deref-2.ensures.value of_params in
    let locals : AreVariables f.locals (locals_of_call f) ls =
    subst (λ (vs : List Var). AreVariables (map variable_of vs) (λ base. local_places base 4 (map variable_of vs)) ls) c.deref-3.ensures.value c.in_ok-locals.ensures in
    let first : names_declared c.deref-4.result.now c.deref-5.result.now ≡ declared_with f.params (params_of_call f 0) =
    ap (λ (vs : List Var). names_declared vs c.deref-5.result.now) c.deref-4.ensures.value
    ∙ ap (λ (xs : List Variable). names_declared function.params.items xs) c.deref-5.ensures.value
    ∙ names_are function.params.items ps (params_of_call f 0) params.kinds (params.places 0) in
    let second : names_declared c.deref-6.result.now c.deref-7.result.now ≡ declared_with f.locals (locals_of_call f 0) =
    ap (λ (vs : List Var). names_declared vs c.deref-7.result.now) c.deref-6.ensures.value
    ∙ ap (λ (xs : List Variable). names_declared function.locals.items xs) c.deref-7.ensures.value
    ∙ names_are function.locals.items ls (locals_of_call f 0) locals.kinds (locals.places 0) in
    let names : map declared_of c.declare-2.new.names.items ≡ locals_declared f =
    c.in_ok-declare-2.ensures
    ∙ ap (λ l. l ++ names_declared c.deref-6.result.now c.deref-7.result.now)
    (c.in_ok-declare.ensures ∙ ap (λ (l : List Named). map declared_of l ++ names_declared c.deref-4.result.now c.deref-5.result.now) c.new-names.ensures.items ∙ first)
    ∙ ap (λ l. declared_with f.params (params_of_call f 0) ++ l) second in
    let make : List Declared → List Declared → Names = λ own others. record { locals = own; globals = others } in
    let made : IsBody tree f c.body.new.code c.in_ok-entry.entry =
    c.in_ok-entry.ensures tree
    (record {
      names =
          ap (λ (l : List Named). make (map declared_of l) (map declared_of c.args.globals.now.list.now)) (c.in_ok-own.ensures ∙ c.deref-8.ensures.value)
          ∙ ap (λ l. make l (map declared_of c.args.globals.now.list.now)) names
          ∙ ap (make (locals_declared f)) globals;
      functions = functions;
    })
    c.new-code.ensures.rows c.new-code.ensures.labels in
    record {
      points = made.points;
      is = record {
        is_start = sym (same_bytes-answer (string_bytes function.name) c.as_str.result.now (codes "start") c.as_str.ensures.value c.eq.ensures refl);
        result = refl;
        params = params;
        locals = locals;
        rows = made.rows;
        labels = made.labels;
        entry = made.begins;
      };
    }
