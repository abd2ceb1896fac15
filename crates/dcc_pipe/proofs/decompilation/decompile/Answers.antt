use Rattle.std.proofs.Common.{sym, subst}
use Rattle.std.proofs.lemmas.Result.{IfOk-weaker, IfErr-weaker, err_from_is_err_and}
use Rattle.dcc_prog.specs.Analysed.{IsProgramOf}
use Rattle.dcc_machine_demand.specs.Refused.{by_analysis}
use Rattle.dcc_machine_demand.proofs.RefusedLaws.{accepted-is_not_refused}
use Rattle.dcc_c.specs.Views.{tree_of}
use Rattle.dcc_c.specs.Written.{written_form}
use Rattle.dcc_pipe.specs.Agreement.{IsTextOf}
use Rattle.dcc_pipe.specs.GlobalData.{HasGlobals}
use Rattle.dcc_pipe.proofs.GlobalLaws.{are-as}
use Rattle.dcc_shape.specs.Shape.{HaveShape}
use Rattle.dcc_pipe.specs.Shaped.{asked_of, HasShape}
use Rattle.dcc_pipe.specs.TypedFrames.{HasTypedFrames}
use Rattle.dcc_pipe.proofs.RefusedLaws.{fault-refuses}
use Rattle.dcc_pipe.proofs.ShapedLaws.{frames-as_many, lacking-unshaped}
use Rattle.dcc_pipe.proofs.decompilation.decompile.Goals as goal

pub returns-in_err-program-clause-refused : goal.returns-in_err-program-clause-refused
returns-in_err-program-clause-refused g c =
    let p = err_from_is_err_and c.from_residual.result c.from_residual.ensures.1 in
    rw (p.1, p.2) (by_analysis c.in_err-program.ensures.refused)

pub text_of-requires : goal.text_of-requires
text_of-requires g c =
    let image = c.args.image.now in
    let program = c.in_ok-program.program in
    let is = c.in_ok-program.ensures.program in record {
      loaded = c.requires;
      program = subst (λ cpu. IsProgramOf cpu image program) (sym is.runs_on) is;
    }

pub shaped-requires : goal.shaped-requires
shaped-requires g c = record {
  functions = c.in-Ok.ensures.as_many;
  frames = frames-as_many c.args.cpu c.args.image.now c.in_ok-program.program c.in_ok-program.ensures.program;
}

pub returns-in-Ok-clause-text : goal.returns-in-Ok-clause-text
returns-in-Ok-clause-text g c =
    let image = c.args.image.now in
    let unit = tree_of c.in-Ok.unit in
    let text = subst (λ cpu. IsTextOf cpu image (written_form unit) unit) c.in_ok-program.ensures.program.runs_on
    c.in-Ok.ensures.text in
    IfOk-weaker c.shaped.result _ _
    (λ after is. subst (λ unit. IsTextOf c.args.cpu image (written_form (tree_of unit)) (tree_of unit)) (sym is.0) text)
    c.shaped.ensures.has

pub returns-in-Ok-clause-typed : goal.returns-in-Ok-clause-typed
returns-in-Ok-clause-typed g c =
    let typed : HaveShape (asked_of c.in_ok-program.program) (tree_of c.in-Ok.unit).functions
    → HasTypedFrames c.args.cpu c.args.image.now (tree_of c.in-Ok.unit) = λ shaped. record {
      program = c.in_ok-program.program;
      is_program = c.in_ok-program.ensures.program;
      functions = c.in-Ok.ensures.typed shaped;
    } in
    IfOk-weaker c.shaped.result _ _
    (λ after is.
    subst (λ unit. HaveShape (asked_of c.in_ok-program.program) (tree_of unit).functions
    → HasTypedFrames c.args.cpu c.args.image.now (tree_of unit)) (sym is.0) typed is.1)
    c.shaped.ensures.has

pub returns-in-Ok-clause-globals : goal.returns-in-Ok-clause-globals
returns-in-Ok-clause-globals g c =
    let has : HasGlobals c.args.cpu c.args.image.now (tree_of c.in-Ok.unit) = record {
      program = c.in_ok-program.program;
      is_program = c.in_ok-program.ensures.program;
      globals = are-as _ _ c.in-Ok.ensures.globals;
    } in
    IfOk-weaker c.shaped.result _ _
    (λ after is. subst (λ unit. HasGlobals c.args.cpu c.args.image.now (tree_of unit)) (sym is.0) has)
    c.shaped.ensures.has

pub returns-in-Ok-clause-shaped : goal.returns-in-Ok-clause-shaped
returns-in-Ok-clause-shaped g c =
    IfOk-weaker c.shaped.result _ (λ after. HasShape c.args.cpu c.args.image.now (tree_of after))
    (λ after is. record {
      program = c.in_ok-program.program;
      is_program = c.in_ok-program.ensures.program;
      functions = is.1;
    })
    c.shaped.ensures.has

pub returns-in-Ok-clause-accepted : goal.returns-in-Ok-clause-accepted
returns-in-Ok-clause-accepted g c =
    IfOk-weaker c.shaped.result _ _
    (λ after is. accepted-is_not_refused.accepted c.args.cpu c.args.image.now c.in_ok-program.program
    c.in_ok-program.ensures.program c.in-Ok.ensures.none)
    c.shaped.ensures.has

pub returns-in-Ok-clause-refused : goal.returns-in-Ok-clause-refused
returns-in-Ok-clause-refused g c =
    let image = c.args.image.now in
    let program = c.in_ok-program.program in
    let is = c.in_ok-program.ensures.program in
    let unit = tree_of c.in-Ok.unit in
    let text = subst (λ cpu. IsTextOf cpu image (written_form unit) unit) is.runs_on c.in-Ok.ensures.text in
    let accepted = accepted-is_not_refused.accepted c.args.cpu image program is c.in-Ok.ensures.none in
    IfErr-weaker c.shaped.result _ _ (lacking-unshaped c.args.cpu image program unit accepted is c.in-Ok.ensures.made text)
    c.shaped.ensures.lacks

pub returns-clause-refused : goal.returns-clause-refused
returns-clause-refused g c =
    rw (c.refusal_of.ensures) (fault-refuses c.args.cpu c.args.image.now c.in_ok-program.program
    c.in_ok-program.ensures.program c.in_ok-program.ensures.accepted c.in-Err.fault c.in-Err.ensures.fault)
