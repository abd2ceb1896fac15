use Rattle.std.proofs.Common.{◌∙◌, subst, sym}
use Rattle.dcc_trial.specs.declared.found.NoTrial.TheVariants.{Memory as TrialMemory}
use Rattle.dcc_trial.specs.Trial.{IsWithout}
use Rattle.dcc_top.specs.declared.reply.Reply.TheVariants.{Memory}
use Rattle.dcc_top.specs.Answer.{AllowsTrial, tried, untried}
use Rattle.dcc_top.proofs.AnswerLaws.{answers-nothing, lines-of_trial}
use Rattle.dcc_top.proofs.trial_job.write_trial.Goals as goal

pub returns-in-Err-clause-answers : goal.returns-in-Err-clause-answers
returns-in-Err-clause-answers g c =
    let a = c.args.attempt in
    answers-nothing (AllowsTrial a.seed a.size a.steps) _ c.from.result
    (subst (λ reply. AllowsTrial a.seed a.size a.steps reply _) (sym c.from.ensures)
    (untried c.in-Err.reason c.in-Err.ensures.without))

pub returns-in_default-clause-answers : goal.returns-in_default-clause-answers
returns-in_default-clause-answers g c =
    let a = c.args.attempt in
    answers-nothing (AllowsTrial a.seed a.size a.steps) _ Memory (untried TrialMemory IsWithout.no_memory)

pub returns-in-Ok-put_all-clause-answers : goal.returns-in-Ok-put_all-clause-answers
returns-in-Ok-put_all-clause-answers g c =
    let a = c.args.attempt in
    record {
      output = c.as_bytes.result.now;
      wrote = c.in-Ok-put_all.ensures.whole;
      is_answer = tried (lines-of_trial a.seed a.size a.steps c.in-Ok.found _ c.as_bytes.result.now
          c.in-Ok.ensures.trial c.in-Ok-lines.ensures c.as_bytes.ensures.value);
    }

pub returns-clause-cut_short : goal.returns-clause-cut_short
returns-clause-cut_short g c =
    let a = c.args.attempt in
    record {
      due = c.as_bytes.result.now;
      is_due = lines-of_trial a.seed a.size a.steps c.in-Ok.found _ c.as_bytes.result.now
          c.in-Ok.ensures.trial c.in-Ok-lines.ensures c.as_bytes.ensures.value;
      part = c.in-Err-put_all.ensures.part;
    }
