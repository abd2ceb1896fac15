use Rattle.std.proofs.Common.{sym, ap, ◌∙◌}
use Rattle.dcc_step.specs.Stepped as step_told
use Rattle.dcc_step.proofs.Steps.{answer_made, answer_tells}
use Rattle.dcc_watch.specs.Watching.{Watching, stage_of}
use Rattle.dcc_watch.specs.Executor.{outcome_of, is_stopped}
use Rattle.dcc_watch.proofs.KeptLaws.{foul_tells}
use Rattle.dcc_watch.proofs.RunProofs.{unstopped_of, not_in_fault, not_out_fault}
use Rattle.dcc_watch.proofs.watch.Watch.answer.Goals as goal

pub returns-in-Stopped-clause-made : goal.returns-in-Stopped-clause-made
returns-in-Stopped-clause-made c = ap outcome_of c.answer.ensures

pub returns-in-Stopped-clause-tells : goal.returns-in-Stopped-clause-tells
returns-in-Stopped-clause-tells c =
    let i = c.self.inside in
    foul_tells c.in-Stopped.foul c.answer.result c.args.self.now c.answer.ensures
    (sym (ap (λ (k : Watching). k.stage) c.self.view_is) ∙ ap (λ p. stage_of p i.stack.frames.live i.stack.written) c.in-Stopped.is)

pub returns-in_default : goal.returns-in_default
returns-in_default c =
    let i = c.self.inside in
    record {
      made = ap step_told.outcome_of c.answer-in_default.ensures ∙ answer_made c.ending.result;
      tells = (
        sym (ap (λ (k : Watching). k.machine.end) c.self.view_is) ∙ c.ending.ensures
            ∙ sym (ap step_told.end_told c.answer-in_default.ensures ∙ answer_tells c.ending.result),
        sym (ap (λ (k : Watching). is_stopped k.stage) c.self.view_is) ∙ unstopped_of i.progress i.stack.frames.live i.stack.written c.in_default.not-Stopped,
      );
      read_faults = λ e. not_in_fault c.ending.result (sym c.answer-in_default.ensures ∙ (cc));
      write_faults = λ e. not_out_fault c.ending.result (sym c.answer-in_default.ensures ∙ (cc));
    }
