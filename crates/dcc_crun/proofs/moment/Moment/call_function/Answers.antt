use Rattle.std.proofs.Common.{◌≡◌, ◌<◌, List, length, map, refl, sym, ap, ◌∙◌, subst, arith}
use Rattle.std.specs.Prelude.{option_map}
use Rattle.dcc_c.specs.Value.{Value, Outcome, Gives}
use Rattle.dcc_c.specs.Run.{State, on, enter_step}
use Rattle.dcc_value.specs.declared.value.Value.{Value as Held}
use Rattle.dcc_value.specs.declared.variable.Binding.{Binding as Bound}
use Rattle.dcc_value.specs.declared.expression.Resolved.{Resolved}
use Rattle.dcc_prepare.specs.declared.program.Variable.{Variable}
use Rattle.dcc_value.specs.Evaluation.{typed}
use Rattle.dcc_value.specs.Resolved.{Contents, contents_of, target_named}
use Rattle.dcc_prepare.specs.Points.{locals_declared}
use Rattle.dcc_crun.specs.Doing.{scene_in, resolved_arguments, IsLed}
use Rattle.dcc_crun.proofs.FunctionLaws.{called, not_called, function_arguments, values_stop, begins}
use Rattle.dcc_crun.proofs.ComingLaws.{does_stood}
use Rattle.dcc_crun.proofs.moment.Moment.call_function.Goals as goal

pub returns-then-number-len-clause-comes : goal.returns-then-number-len-clause-comes
returns-then-number-len-clause-comes c line left taken = record {
  ends = λ tree points s now call.
      absurd (not_called c.args.self.now c.args.program.now c.args.row.now c.args.number c.args.target line tree points s now call
      (omega (arith, c.args.program.now.procedures.ok.0, c.len.ensures)));
  same_left = refl;
  same_taken = refl;
}

pub returns-in_err-values-clause-comes : goal.returns-in_err-values-clause-comes
returns-in_err-values-clause-comes c line left taken =
    let procedure = c.index-procedure.result.now in
    let within : c.args.number < length c.args.program.now.procedures.items = omega (arith, c.args.program.now.procedures.ok.0, c.len.ensures) in
    values_stop line c.from_residual.result _ _ left taken c.in_err-values.field-0.0 _ c.from_residual.ensures.1 c.in_err-values.ensures
    (λ tree points s now call.
    let is = called c.args.self.now c.args.program.now c.args.row.now c.args.number c.args.target line procedure tree points s now call c.index-procedure.ensures within in
    let next : List Value → State = λ vs. enter_step call.f c.args.row.now.depth (option_map (target_named (locals_declared s.frame.function)) c.args.target) vs s in (
      next,
      call.is ∙ ap (λ (o : Outcome (List Value)). on o line s next)
          (function_arguments c.args.self.now c.args.program.now c.args.row.now c.args.number c.args.target line procedure tree points s now call is
          ∙ ap (λ (g : List Bound). resolved_arguments (scene_in c.args.self.now g) (map (λ (p : Variable). p.ty) procedure.params.items) c.args.row.now.arguments.items) (sym c.deref.ensures.value)
          ∙ ap (λ (sc : Contents). resolved_arguments sc (map (λ (p : Variable). p.ty) procedure.params.items) c.args.row.now.arguments.items) (sym c.scene.ensures)
          ∙ ap (λ (rs : List Resolved). resolved_arguments (contents_of c.scene.result) (map (λ (p : Variable). p.ty) procedure.params.items) rs) (sym c.deref-2.ensures.value)),
    ))

pub returns-clause-comes : goal.returns-clause-comes
returns-clause-comes c line left taken =
    let procedure = c.index-procedure.result.now in
    let types = map (λ (p : Variable). p.ty) procedure.params.items in
    let within : c.args.number < length c.args.program.now.procedures.items = omega (arith, c.args.program.now.procedures.ok.0, c.len.ensures) in
    let given : resolved_arguments (scene_in c.args.self.now c.args.program.now.globals.items) types c.args.row.now.arguments.items ≡ Gives (map typed c.in_ok-values.values.items) =
    ap (λ (g : List Bound). resolved_arguments (scene_in c.args.self.now g) types c.args.row.now.arguments.items) (sym c.deref.ensures.value)
    ∙ ap (λ (sc : Contents). resolved_arguments sc types c.args.row.now.arguments.items) (sym c.scene.ensures)
    ∙ ap (λ (rs : List Resolved). resolved_arguments (contents_of c.scene.result) types rs) (sym
    c.deref-2.ensures.value)
    ∙ c.in_ok-values.ensures in
    does_stood _ c.enter.new.self left taken
    (λ tree points s now call.
    let is = called c.args.self.now c.args.program.now c.args.row.now c.args.number c.args.target line procedure tree points s now call c.index-procedure.ensures within in
    begins c.args.self.now c.enter.new.self c.args.program.now c.args.row.now c.args.number c.args.target line procedure c.in_ok-values.values.items tree points s now call is given
    (λ long.
    subst (λ (vs : List Held). IsLed tree points c.enter.new.self s (enter_step call.f c.args.row.now.depth (option_map (target_named (locals_declared s.frame.function)) c.args.target) (map typed vs) s)) c.deref-3.ensures.value
    (c.in_ok-enter.ensures.state tree points s call.f call.at.state call.at.goes call.here is call.lands (ap length c.deref-3.ensures.value ∙ long))))
