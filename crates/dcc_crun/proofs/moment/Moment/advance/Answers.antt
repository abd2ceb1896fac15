use Rattle.std.proofs.Common.{Err, refl, subst, arith}
use Rattle.std.specs.Prelude.{Result}
use Rattle.dcc_run.specs.End.{Divide as divided, Stuck as stuck}
use Rattle.dcc_crun.specs.declared.ending.Ending.TheVariants.{Divide as kept_divide, Stuck as kept_stuck}
use Rattle.dcc_crun.specs.declared.ending.Stop.{Stop}
use Rattle.dcc_crun.specs.declared.moment.Moment.{Moment}
use Rattle.dcc_crun.specs.Doing.{Halts, Refuses, ComesTo, Stood, Performs, Steps}
use Rattle.dcc_crun.proofs.StepLaws.{unfailed, refused_faults}
use Rattle.dcc_crun.proofs.ComingLaws.{does_from, halts_from, refuses_from, does_never, does_halting, step_performs, no_procedure, no_row}
use Rattle.dcc_crun.proofs.moment.Moment.advance.Goals as goal

pub returns-then-number-len-clause-made : goal.returns-then-number-len-clause-made
returns-then-number-len-clause-made g c =
    does_never _ _ _ _
    (λ tree points s now call.
    no_procedure c.args.program.now c.args.self.now tree points s now call
    (omega (arith, c.args.program.now.procedures.ok.0, c.len.ensures, c.if-number-len.true)))

pub returns-then-at-len-clause-made : goal.returns-then-at-len-clause-made
returns-then-at-len-clause-made g c =
    let procedure = c.index-procedure.result.now in
    does_never _ _ _ _
    (λ tree points s now call.
    no_row c.args.program.now c.args.self.now procedure tree points s now call c.index-procedure.ensures
    (omega (arith, c.args.program.now.procedures.ok.0, c.len.ensures, c.if-number-len.false))
    (omega (arith, procedure.rows.ok.0, c.len-2.ensures, c.if-at-len.true)))

pub returns-in-Ok-clause-made : goal.returns-in-Ok-clause-made
returns-in-Ok-clause-made g c =
    let m = c.args.self.now in
    let program = c.args.program.now in
    let procedure = c.index-procedure.result.now in
    let row = c.index-row.result.now in
    does_from (Performs program procedure row.line row.action m) (Stood c.perform.new.self) (Steps program m) (Stood c.perform.new.self) _ _ _ _
    (step_performs program m procedure row c.index-procedure.ensures
    (omega (arith, program.procedures.ok.0, c.len.ensures, c.if-number-len.false)) c.index-row.ensures
    (omega (arith, procedure.rows.ok.0, c.len-2.ensures, c.if-at-len.false)) (Stood c.perform.new.self))
    (c.in-Ok.ensures.comes row.line)

pub returns-in-Err-Divides-clause-made : goal.returns-in-Err-Divides-clause-made
returns-in-Err-Divides-clause-made g c =
    let m = c.args.self.now in
    let program = c.args.program.now in
    let procedure = c.index-procedure.result.now in
    let row = c.index-row.result.now in
    let now : Moment = record c.perform.new.self { end = kept_divide } in
    let l = g.I.Source.left c.args.input.now in
    let t = g.O.Sink.taken c.args.out.now in
    let l_now = g.I.Source.left c.perform.new.input in
    let t_now = g.O.Sink.taken c.perform.new.out in
    let comes : Halts (Performs program procedure row.line row.action m) divided l t l_now t_now =
    subst (λ (x : Stop). let e : Result (Unit {0}) Stop = Err x in ComesTo row.line e (Performs program procedure row.line row.action m) (Stood c.perform.new.self) l t l_now t_now)
    c.in-Err-Divides.field-0-is (c.in-Err-Divides.ensures.comes row.line) in
    does_halting (Steps program m) now divided l t l_now t_now refl (λ same. cc)
    (halts_from (Performs program procedure row.line row.action m) (Stood now) (Steps program m) (Stood now) divided l t l_now t_now
    (step_performs program m procedure row c.index-procedure.ensures
    (omega (arith, program.procedures.ok.0, c.len.ensures, c.if-number-len.false)) c.index-row.ensures
    (omega (arith, procedure.rows.ok.0, c.len-2.ensures, c.if-at-len.false)) (Stood now))
    comes)

pub returns-in-Err-Undefined-clause-made : goal.returns-in-Err-Undefined-clause-made
returns-in-Err-Undefined-clause-made g c =
    let m = c.args.self.now in
    let program = c.args.program.now in
    let procedure = c.index-procedure.result.now in
    let row = c.index-row.result.now in
    let now : Moment = record c.perform.new.self { end = kept_stuck row.line } in
    let l = g.I.Source.left c.args.input.now in
    let t = g.O.Sink.taken c.args.out.now in
    let l_now = g.I.Source.left c.perform.new.input in
    let t_now = g.O.Sink.taken c.perform.new.out in
    let comes : Halts (Performs program procedure row.line row.action m) (stuck row.line) l t l_now t_now =
    subst (λ (x : Stop). let e : Result (Unit {0}) Stop = Err x in ComesTo row.line e (Performs program procedure row.line row.action m) (Stood c.perform.new.self) l t l_now t_now)
    c.in-Err-Undefined.field-0-is (c.in-Err-Undefined.ensures.comes row.line) in
    does_halting (Steps program m) now (stuck row.line) l t l_now t_now refl (λ same. cc)
    (halts_from (Performs program procedure row.line row.action m) (Stood now) (Steps program m) (Stood now) (stuck row.line) l t l_now t_now
    (step_performs program m procedure row c.index-procedure.ensures
    (omega (arith, program.procedures.ok.0, c.len.ensures, c.if-number-len.false)) c.index-row.ensures
    (omega (arith, procedure.rows.ok.0, c.len-2.ensures, c.if-at-len.false)) (Stood now))
    comes)

pub returns-in-Err-Refused-clause-refused : goal.returns-in-Err-Refused-clause-refused
returns-in-Err-Refused-clause-refused g c =
    let m = c.args.self.now in
    let program = c.args.program.now in
    let procedure = c.index-procedure.result.now in
    let row = c.index-row.result.now in
    let l = g.I.Source.left c.args.input.now in
    let t = g.O.Sink.taken c.args.out.now in
    let l_now = g.I.Source.left c.perform.new.input in
    let t_now = g.O.Sink.taken c.perform.new.out in
    let comes : Refuses c.in-Err-Refused.fault (Performs program procedure row.line row.action m) l t l_now t_now =
    subst (λ (x : Stop). let e : Result (Unit {0}) Stop = Err x in ComesTo row.line e (Performs program procedure row.line row.action m) (Stood c.perform.new.self) l t l_now t_now)
    c.in-Err-Refused.field-0-is (c.in-Err-Refused.ensures.comes row.line) in
    refuses_from c.in-Err-Refused.fault (Performs program procedure row.line row.action m) (Stood m) (Steps program m) (Stood m) l t l_now t_now
    (step_performs program m procedure row c.index-procedure.ensures
    (omega (arith, program.procedures.ok.0, c.len.ensures, c.if-number-len.false)) c.index-row.ensures
    (omega (arith, procedure.rows.ok.0, c.len-2.ensures, c.if-at-len.false)) (Stood m))
    comes

pub returns-then-number-len-clause-faults : goal.returns-then-number-len-clause-faults
returns-then-number-len-clause-faults g c = unfailed (omega arith) (omega arith) (λ failed. cc) (λ failed. cc)

pub returns-then-at-len-clause-faults : goal.returns-then-at-len-clause-faults
returns-then-at-len-clause-faults g c = unfailed (omega arith) (omega arith) (λ failed. cc) (λ failed. cc)

pub returns-in-Ok-clause-faults : goal.returns-in-Ok-clause-faults
returns-in-Ok-clause-faults g c = unfailed c.in-Ok.ensures.faults.input_faults c.in-Ok.ensures.faults.output_faults (λ failed. cc) (λ failed. cc)

pub returns-in-Err-Divides-clause-faults : goal.returns-in-Err-Divides-clause-faults
returns-in-Err-Divides-clause-faults g c =
    unfailed c.in-Err-Divides.ensures.faults.input_faults c.in-Err-Divides.ensures.faults.output_faults (λ failed. cc) (λ failed. cc)

pub returns-in-Err-Undefined-clause-faults : goal.returns-in-Err-Undefined-clause-faults
returns-in-Err-Undefined-clause-faults g c =
    unfailed c.in-Err-Undefined.ensures.faults.input_faults c.in-Err-Undefined.ensures.faults.output_faults (λ failed. cc) (λ failed. cc)

pub returns-in-Err-Refused-clause-faults : goal.returns-in-Err-Refused-clause-faults
returns-in-Err-Refused-clause-faults g c = refused_faults _ c.in-Err-Refused.fault c.in-Err-Refused.field-0-is c.in-Err-Refused.ensures.faults
