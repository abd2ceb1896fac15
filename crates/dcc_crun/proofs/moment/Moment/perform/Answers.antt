use Rattle.dcc_crun.specs.Doing.{Stood, CallsAny, Performs}
use Rattle.dcc_crun.proofs.StepLaws.{comes_err, stays_unless, nothing_faults, no_faults}
use Rattle.dcc_crun.proofs.ComingLaws.{comes_from, does_stood, call_performs}
use Rattle.dcc_crun.proofs.CallingLaws.{no_call}
use Rattle.dcc_crun.proofs.moment.Moment.perform.Goals as goal

pub returns-in-Call-clause-comes : goal.returns-in-Call-clause-comes
returns-in-Call-clause-comes g c line =
    comes_from line c.call.result (CallsAny c.args.self.now c.args.program.now c.in-Call.row line) (Stood c.call.new.self)
    (Performs c.args.program.now c.args.procedure.now line c.args.action.now c.args.self.now) (Stood c.call.new.self) _ _ _ _
    (call_performs c.args.program.now c.args.procedure.now line c.args.action.now c.args.self.now c.call.new.self c.in-Call.row c.in-Call.is)
    (c.call.ensures.comes line)

pub returns-in_err-act-in_default : goal.returns-in_err-act-in_default
returns-in_err-act-in_default g c =
    let why = c.in_err-act-in_default.field-0.0 in
    let is = c.from_residual.ensures.1 in
    record {
      comes = λ line. comes_err line c.from_residual.result _ _ _ _ why is
          (λ tree points s now call. c.in_err-act-in_default.ensures tree points s now line (no_call c.args.action.now c.in_default.not-Call) call);
      stays = stays_unless c.from_residual.result why c.args.self.now c.act.new.self is;
      faults = nothing_faults c.from_residual.result why is;
    }

pub returns-in_ok-act-in_default : goal.returns-in_ok-act-in_default
returns-in_ok-act-in_default g c = record {
  comes = λ line. does_stood _ c.act.new.self _ _
      (λ tree points s now call. c.in_ok-act-in_default.ensures tree points s now line (no_call c.args.action.now c.in_default.not-Call) call);
  stays = tt;
  faults = no_faults _ (λ failed. cc) (λ failed. cc);
}

pub returns-in-Call-clause-faults : goal.returns-in-Call-clause-faults
returns-in-Call-clause-faults g c = c.call.ensures.faults
