use Rattle.std.proofs.Common.{◌≡◌, refl, subst, arith}
use Rattle.dcc_io.proofs.CountLemmas.{Rose-since}
use Rattle.dcc_console.specs.WithConsole.{WithConsole, beside_console}
use Rattle.dcc_console.specs.Steps.{MakesSteps}
use Rattle.dcc_console.proofs.Runs.{no_steps, one_more, last_step}
use Rattle.dcc_crun.specs.declared.run.CRun.{CRun}
use Rattle.dcc_crun.specs.Stepped.{texts, outcome_of, end_told}
use Rattle.dcc_crun.proofs.RunLaws.{texts_execute, answer_over, answered_run, answers}
use Rattle.dcc_crun.proofs.run.CRun.run.Goals as goal

pub loop-count-init : goal.loop-count-init
loop-count-init g c = record {
  made = no_steps texts _;
  input_faults = omega arith;
  output_faults = omega arith;
}

pub loop-count-preserved : goal.loop-count-preserved
loop-count-preserved g c = record {
  made = one_more texts c.loop-count._count _ _ _ c.loop-count.invariant.made c.in-Running.ensures.step;
  input_faults = omega arith;
  output_faults = omega arith;
}

pub returns-in_default : goal.returns-in_default
returns-in_default g c = record {
  run =
      last_step texts texts_execute (outcome_of c.step.result) c.loop-count._count c.args.most _ _ _ (end_told c.step.result)
      c.loop-count-test.true (answer_over c.step.result c.in_default.not-Running) c.loop-count.invariant.made c.step.ensures.step c.step.ensures.answer;
  answer = c.step.ensures.answer;
  input_faults = omega arith;
  output_faults = omega arith;
  read_failed = λ failed. Rose-since _ _ _ c.loop-count.invariant.input_faults (c.step.ensures.read_failed failed);
  write_failed = λ failed. Rose-since _ _ _ c.loop-count.invariant.output_faults (c.step.ensures.write_failed failed);
}

pub returns-clause-run : goal.returns-clause-run
returns-clause-run g c =
    let all : c.loop-count._count ≡ c.args.most = omega arith in
    let before : WithConsole CRun = beside_console c.args.self.now (g.I.Source.left c.args.input.now) (g.O.Sink.taken c.args.out.now) in
    let now : WithConsole CRun = beside_console c.loop-count.self (g.I.Source.left c.loop-count.input) (g.O.Sink.taken c.loop-count.out) in
    answered_run c.loop-count.self.moment.end c.answer.result c.args.most before now c.answer.ensures
    (subst (λ n. MakesSteps texts n before now) all c.loop-count.invariant.made)

pub returns-clause-answer : goal.returns-clause-answer
returns-clause-answer g c = answers c.loop-count.self.moment.end c.answer.result c.loop-count.self c.answer.ensures refl
