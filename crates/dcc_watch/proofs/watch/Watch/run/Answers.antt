use Rattle.std.proofs.Common.{◌≡◌, arith, subst, sym, ◌∙◌}
use Rattle.dcc_io.proofs.CountLemmas.{Rose-since}
use Rattle.dcc_console.specs.WithConsole.{WithConsole, beside_console}
use Rattle.dcc_console.specs.Steps.{MakesSteps, Steps, Runs}
use Rattle.dcc_console.proofs.Runs.{no_steps, one_more}
use Rattle.dcc_watch.specs.Watching.{Watching}
use Rattle.dcc_watch.specs.Executor.{watched}
use Rattle.dcc_watch.proofs.RunProofs.{on_made, run_stops}
use Rattle.dcc_watch.proofs.watch.Watch.run.Goals as goal

pub loop-count-init : goal.loop-count-init
loop-count-init g c = record {
  made = no_steps watched _;
  input_faults = omega arith;
  output_faults = omega arith;
}

pub loop-count-preserved : goal.loop-count-preserved
loop-count-preserved g c = record {
  made =
      one_more watched c.loop-count._count _ _ _ c.loop-count.invariant.made
      (subst (λ o. Steps watched o
      (beside_console c.loop-count.self (g.I.Source.left c.loop-count.input) (g.O.Sink.taken c.loop-count.out))
      (beside_console c.step-answer.new.self (g.I.Source.left c.step-answer.new.input) (g.O.Sink.taken
      c.step-answer.new.out)))
      (on_made c.step-answer.result (sym c.goes_on.ensures ∙ c.if-not-goes_on.false)) c.step-answer.ensures.step);
  input_faults = omega (arith, c.step-answer.ensures.faults.input_faults);
  output_faults = omega (arith, c.step-answer.ensures.faults.output_faults);
}

pub returns-then-not-goes_on : goal.returns-then-not-goes_on
returns-then-not-goes_on g c = record {
  run =
      run_stops c.step-answer.result c.loop-count._count c.args.most _ _ c.step-answer.new.self _ _ c.loop-count-test.true
      (sym c.goes_on.ensures ∙ c.if-not-goes_on.true) c.loop-count.invariant.made c.step-answer.ensures.step c.step-answer.ensures.tells;
  tells = c.step-answer.ensures.tells;
  faults = record {
    input_faults = omega (arith, c.step-answer.ensures.faults.input_faults);
    output_faults = omega (arith, c.step-answer.ensures.faults.output_faults);
    read_failed = λ failed. Rose-since _ _ _ c.loop-count.invariant.input_faults (c.step-answer.ensures.faults.read_failed failed);
    write_failed = λ failed. Rose-since _ _ _ c.loop-count.invariant.output_faults (c.step-answer.ensures.faults.write_failed failed);
  };
}

pub returns-clause-run : goal.returns-clause-run
returns-clause-run g c =
    let all : c.loop-count._count ≡ c.args.most = omega arith in
    let before : WithConsole Watching = beside_console c.args.self.now (g.I.Source.left c.args.input.now) (g.O.Sink.taken c.args.out.now) in
    let now : WithConsole Watching = beside_console c.loop-count.self (g.I.Source.left c.loop-count.input) (g.O.Sink.taken c.loop-count.out) in
    subst (λ o. Runs watched c.args.most o before now) (sym c.answer.ensures.made)
    (subst (λ n. MakesSteps watched n before now) all c.loop-count.invariant.made)

pub returns-clause-tells : goal.returns-clause-tells
returns-clause-tells g c = c.answer.ensures.tells

pub returns-clause-faults : goal.returns-clause-faults
returns-clause-faults g c = record {
  input_faults = c.loop-count.invariant.input_faults;
  output_faults = c.loop-count.invariant.output_faults;
  read_failed = λ e. absurd (c.answer.ensures.read_faults e);
  write_failed = λ e. absurd (c.answer.ensures.write_faults e);
}
