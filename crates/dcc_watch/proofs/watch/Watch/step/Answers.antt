use Rattle.std.proofs.Common.{sym, ◌∙◌, subst, arith}
use Rattle.dcc_console.specs.WithConsole.{beside_console}
use Rattle.dcc_console.specs.Steps.{Steps}
use Rattle.dcc_watch.specs.Executor.{watched}
use Rattle.dcc_watch.proofs.StepLaws.{stays}
use Rattle.dcc_watch.proofs.RunProofs.{going_runs, going_first, not_going}
use Rattle.dcc_watch.proofs.watch.Watch.step.Goals as goal

pub returns-then-not-is_going : goal.returns-then-not-is_going
returns-then-not-is_going g c = record {
  step =
      subst (λ o. Steps watched o (beside_console c.args.self.now (g.I.Source.left c.args.input.now) (g.O.Sink.taken c.args.out.now)) (beside_console c.args.self.now (g.I.Source.left c.args.input.now) (g.O.Sink.taken c.args.out.now))) (sym c.answer.ensures.made)
      (stays c.args.self.now (g.I.Source.left c.args.input.now) (g.O.Sink.taken c.args.out.now) (not_going c.args.self.now (sym c.is_going.ensures ∙ c.if-not-is_going.true)));
  tells = c.answer.ensures.tells;
  faults = record {
    input_faults = omega arith;
    output_faults = omega arith;
    read_failed = λ e. absurd (c.answer.ensures.read_faults e);
    write_failed = λ e. absurd (c.answer.ensures.write_faults e);
  };
}

pub step_in_procedures-requires : goal.step_in_procedures-requires
step_in_procedures-requires g c = record {
  runs = going_runs c.args.self.now (sym c.is_going.ensures ∙ c.if-not-is_going.false);
  inside = sym c.is_inside.ensures ∙ c.if-is_inside.true;
}

pub step_in_prelude-requires : goal.step_in_prelude-requires
step_in_prelude-requires g c = record {
  runs = going_runs c.args.self.now (sym c.is_going.ensures ∙ c.if-not-is_going.false);
  first = going_first c.args.self.now (sym c.is_going.ensures ∙ c.if-not-is_going.false) (sym c.is_inside.ensures ∙ c.if-is_inside.false);
}
