use Rattle.std.proofs.Common.{Ok, Err, refl, ap, ◌∙◌}
use Rattle.std.specs.Prelude.{Result}
use Rattle.dcc_crun.specs.declared.ending.Stop.{Stop}
use Rattle.dcc_value.specs.Resolved.{contents_of}
use Rattle.dcc_crun.specs.Doing.{scene_in, Kept, Stood, CallsDos, CallsFunction, CallsAny}
use Rattle.dcc_crun.proofs.StepLaws.{comes_err, nothing_faults, no_faults, made_faults, same_faults}
use Rattle.dcc_crun.proofs.ActLaws.{moved}
use Rattle.dcc_crun.proofs.ComingLaws.{comes_from, does_from}
use Rattle.dcc_crun.proofs.CallingLaws.{comes_on, target_place, target_lands, target_ended, dos_from, function_from, nothing_called}
use Rattle.dcc_crun.proofs.moment.Moment.call.Goals as goal

pub returns-in_err-target-clause-comes : goal.returns-in_err-target-clause-comes
returns-in_err-target-clause-comes g c line =
    let scene = c.scene.ensures ∙ ap (scene_in c.args.self.now) c.deref.ensures.value in
    comes_err line c.from_residual.result _ _ _ _ c.in_err-target.field-0.0 c.from_residual.ensures.1
    (λ tree points s now call.
    target_ended c.args.self.now c.args.program.now c.args.row.now line tree points s now call c.in_err-target.field-0.0
    (target_place c.args.self.now c.args.program.now c.args.row.now line tree points s now call (contents_of c.scene.result) (Err c.in_err-target.field-0.0) scene c.in_err-target.ensures.value))

pub returns-in_err-dos-in-Dos-clause-comes : goal.returns-in_err-dos-in-Dos-clause-comes
returns-in_err-dos-in-Dos-clause-comes g c line =
    let m = c.args.self.now in
    let program = c.args.program.now in
    let row = c.args.row.now in
    let scene = c.scene.ensures ∙ ap (scene_in m) c.deref.ensures.value in
    let e : Result (Unit {0}) Stop = Err c.in_err-dos-in-Dos.field-0.0 in
    comes_on line c.from_residual-in_err-dos-in-Dos.result (CallsAny m program row line) (Stood (moved c.dos.new.self row.next)) (Stood c.dos.new.self)
    (g.I.Source.left c.args.input.now) (g.O.Sink.taken c.args.out.now) (g.I.Source.left c.dos.new.input) (g.O.Sink.taken c.dos.new.out)
    c.in_err-dos-in-Dos.field-0.0 c.from_residual-in_err-dos-in-Dos.ensures.1
    (comes_from line e (CallsDos m c.deref-in-Dos.result.now c.in-Dos.dos c.in_ok-target.target c.deref-in-Dos-2.result.now line) (Kept c.dos.new.self) (CallsAny m program row line) (Stood (moved c.dos.new.self row.next))
    (g.I.Source.left c.args.input.now) (g.O.Sink.taken c.args.out.now) (g.I.Source.left c.dos.new.input) (g.O.Sink.taken c.dos.new.out)
    (dos_from m c.dos.new.self program row c.in-Dos.dos c.in_ok-target.target line c.deref-in-Dos.result.now c.deref-in-Dos-2.result.now c.deref-in-Dos.ensures.value c.deref-in-Dos-2.ensures.value c.in-Dos.is c.dos.ensures.at
    (λ tree points s now call. target_place m program row line tree points s now call (contents_of c.scene.result) (Ok c.in_ok-target.target) scene c.in_ok-target.ensures.value)
    (λ tree points s now call. target_lands m program row line tree points s now call (contents_of c.scene.result) c.in_ok-target.target scene c.in_ok-target.ensures.lands))
    (c.in_err-dos-in-Dos.ensures.comes line))

pub returns-in_ok-dos-in-Dos-clause-comes : goal.returns-in_ok-dos-in-Dos-clause-comes
returns-in_ok-dos-in-Dos-clause-comes g c line =
    let m = c.args.self.now in
    let program = c.args.program.now in
    let row = c.args.row.now in
    let scene = c.scene.ensures ∙ ap (scene_in m) c.deref.ensures.value in
    does_from (CallsDos m c.deref-in-Dos.result.now c.in-Dos.dos c.in_ok-target.target c.deref-in-Dos-2.result.now line) (Kept c.dos.new.self) (CallsAny m program row line) (Stood (moved c.dos.new.self row.next))
    (g.I.Source.left c.args.input.now) (g.O.Sink.taken c.args.out.now) (g.I.Source.left c.dos.new.input) (g.O.Sink.taken c.dos.new.out)
    (dos_from m c.dos.new.self program row c.in-Dos.dos c.in_ok-target.target line c.deref-in-Dos.result.now c.deref-in-Dos-2.result.now c.deref-in-Dos.ensures.value c.deref-in-Dos-2.ensures.value c.in-Dos.is c.dos.ensures.at
    (λ tree points s now call. target_place m program row line tree points s now call (contents_of c.scene.result) (Ok c.in_ok-target.target) scene c.in_ok-target.ensures.value)
    (λ tree points s now call. target_lands m program row line tree points s now call (contents_of c.scene.result) c.in_ok-target.target scene c.in_ok-target.ensures.lands))
    (c.in_ok-dos-in-Dos.ensures.comes line)

pub returns-in-Function-clause-comes : goal.returns-in-Function-clause-comes
returns-in-Function-clause-comes g c line =
    let m = c.args.self.now in
    let program = c.args.program.now in
    let row = c.args.row.now in
    let scene = c.scene.ensures ∙ ap (scene_in m) c.deref.ensures.value in
    comes_from line c.call_function.result (CallsFunction m program row c.in-Function.number c.in_ok-target.target line) (Stood c.call_function.new.self) (CallsAny m program row line) (Stood c.call_function.new.self) _ _ _ _
    (function_from m c.call_function.new.self program row c.in-Function.number c.in_ok-target.target line c.in-Function.is
    (λ tree points s now call. target_place m program row line tree points s now call (contents_of c.scene.result) (Ok c.in_ok-target.target) scene c.in_ok-target.ensures.value)
    (λ tree points s now call. target_lands m program row line tree points s now call (contents_of c.scene.result) c.in_ok-target.target scene c.in_ok-target.ensures.lands))
    (c.call_function.ensures.comes line _ _)

pub returns-in-Unknown-clause-comes : goal.returns-in-Unknown-clause-comes
returns-in-Unknown-clause-comes g c line =
    let m = c.args.self.now in
    let program = c.args.program.now in
    let row = c.args.row.now in
    let scene = c.scene.ensures ∙ ap (scene_in m) c.deref.ensures.value in
    nothing_called m program row c.in_ok-target.target line _ _ c.in-Unknown.is
    (λ tree points s now call. target_place m program row line tree points s now call (contents_of c.scene.result) (Ok c.in_ok-target.target) scene c.in_ok-target.ensures.value)

pub returns-in_err-target-clause-faults : goal.returns-in_err-target-clause-faults
returns-in_err-target-clause-faults g c = nothing_faults c.from_residual.result c.in_err-target.field-0.0 c.from_residual.ensures.1

pub returns-in_err-dos-in-Dos-clause-faults : goal.returns-in_err-dos-in-Dos-clause-faults
returns-in_err-dos-in-Dos-clause-faults g c =
    same_faults c.from_residual-in_err-dos-in-Dos.result c.in_err-dos-in-Dos.field-0.0 c.from_residual-in_err-dos-in-Dos.ensures.1 c.in_err-dos-in-Dos.ensures.faults

pub returns-in_ok-dos-in-Dos-clause-faults : goal.returns-in_ok-dos-in-Dos-clause-faults
returns-in_ok-dos-in-Dos-clause-faults g c = made_faults _ refl c.in_ok-dos-in-Dos.ensures.faults.input_faults c.in_ok-dos-in-Dos.ensures.faults.output_faults

pub returns-in-Function-clause-faults : goal.returns-in-Function-clause-faults
returns-in-Function-clause-faults g c = no_faults c.call_function.result c.call_function.ensures.no_fault c.call_function.ensures.no_write

pub returns-in-Unknown-clause-faults : goal.returns-in-Unknown-clause-faults
returns-in-Unknown-clause-faults g c = no_faults _ (λ failed. cc) (λ failed. cc)
