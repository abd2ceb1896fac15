use Rattle.std.proofs.Common.{◌≡◌, arith, subst, sym, ap}
use Rattle.dcc_io.proofs.CountLemmas.{Rose-since}
use Rattle.dcc_console.specs.WithConsole.{WithConsole, beside_console}
use Rattle.dcc_console.specs.Steps.{MakesSteps}
use Rattle.dcc_console.proofs.Runs.{no_steps, one_more, last_step}
use Rattle.dcc_step.specs.Core.{Core}
use Rattle.dcc_step.specs.Ending.{end_of}
use Rattle.dcc_step.specs.Stepped.{machine, outcome_of, end_told}
use Rattle.dcc_step.proofs.Laws.{machine_executes}
use Rattle.dcc_step.proofs.Steps.{answer_over, answered_run, answers}
use Rattle.dcc_step.proofs.machine.Machine.run.Goals as goal

pub loop-count-init : goal.loop-count-init
loop-count-init g c = record {
  made = no_steps machine _;
  input_faults = omega arith;
  output_faults = omega arith;
}

pub loop-count-preserved : goal.loop-count-preserved
loop-count-preserved g c = record {
  made = one_more machine c.loop-count._count _ _ _ c.loop-count.invariant.made c.in-Running.ensures.step;
  input_faults = omega (arith, c.in-Running.ensures.faults.input_faults);
  output_faults = omega (arith, c.in-Running.ensures.faults.output_faults);
}

pub returns-in_default : goal.returns-in_default
returns-in_default g c = record {
  run =
      last_step machine machine_executes (outcome_of c.step.result) c.loop-count._count c.args.most _ _ _ (end_told c.step.result)
      c.loop-count-test.true (answer_over c.step.result c.in_default.not-Running) c.loop-count.invariant.made c.step.ensures.step c.step.ensures.answer;
  answer = c.step.ensures.answer;
  faults = record {
    input_faults = omega (arith, c.step.ensures.faults.input_faults);
    output_faults = omega (arith, c.step.ensures.faults.output_faults);
    read_failed = λ failed. Rose-since _ _ _ c.loop-count.invariant.input_faults (c.step.ensures.faults.read_failed failed);
    write_failed = λ failed. Rose-since _ _ _ c.loop-count.invariant.output_faults (c.step.ensures.faults.write_failed failed);
  };
}

pub returns-clause-run : goal.returns-clause-run
returns-clause-run g c =
    let all : c.loop-count._count ≡ c.args.most = omega arith in
    let before : WithConsole Core = beside_console c.args.self.now (g.I.Source.left c.args.input.now) (g.O.Sink.taken c.args.out.now) in
    let now : WithConsole Core = beside_console c.loop-count.self (g.I.Source.left c.loop-count.input) (g.O.Sink.taken c.loop-count.out) in
    answered_run c.self.inside.end c.answer.result c.args.most before now c.answer.ensures
    (subst (λ n. MakesSteps machine n before now) all c.loop-count.invariant.made)

pub returns-clause-answer : goal.returns-clause-answer
returns-clause-answer g c =
    let m : Core = c.loop-count.self in
    let end : m.end ≡ end_of c.self.inside.end = sym (ap (λ (k : Core). k.end) c.self.view_is) in
    answers c.self.inside.end c.answer.result m c.answer.ensures end
