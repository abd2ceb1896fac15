use Rattle.std.proofs.Common.{refl, sym, ap, ◌∙◌, arith}
use Rattle.dcc_crun.specs.Ending.{end_of}
use Rattle.dcc_console.specs.WithConsole.{WithConsole, beside_console}
use Rattle.dcc_crun.specs.declared.run.CRun.{CRun}
use Rattle.dcc_console.proofs.Runs.{ended_step}
use Rattle.dcc_crun.specs.Stepped.{texts}
use Rattle.dcc_crun.proofs.RunLaws.{texts_execute, answered, answers, ended, over, no_fault, no_write_fault}
use Rattle.dcc_crun.proofs.StandingLaws.{step_made, step_refused, refused, refused_ends}
use Rattle.dcc_crun.proofs.run.CRun.step.Goals as goal

pub returns-in_default : goal.returns-in_default
returns-in_default g c =
    let end = c.args.self.now.moment.end in
    let now : WithConsole CRun = beside_console c.args.self.now (g.I.Source.left c.args.input.now) (g.O.Sink.taken
    c.args.out.now) in
    record {
      step =
          answered end c.answer.result now now c.answer.ensures
          (ended_step texts texts_execute now (end_of end) (ended c.args.self.now) (over end c.in_default.not-Running));
      answer = answers end c.answer.result c.args.self.now c.answer.ensures refl;
      input_faults = omega arith;
      output_faults = omega arith;
      read_failed = λ failed. absurd (no_fault end (sym c.answer.ensures ∙ failed));
      write_failed = λ failed. absurd (no_write_fault end (sym c.answer.ensures ∙ failed));
    }

pub returns-in-Ok-clause-step : goal.returns-in-Ok-clause-step
returns-in-Ok-clause-step g c =
    let before : WithConsole CRun = beside_console c.args.self.now (g.I.Source.left c.args.input.now) (g.O.Sink.taken c.args.out.now) in
    let run : CRun = record { program = c.args.self.now.program; moment = c.advance.new.self } in
    let now : WithConsole CRun = beside_console run (g.I.Source.left c.advance.new.input) (g.O.Sink.taken
    c.advance.new.out) in
    answered c.advance.new.self.end c.answer-in-Ok.result before now c.answer-in-Ok.ensures
    (step_made c.args.self.now c.advance.new.self (g.I.Source.left c.args.input.now) (g.O.Sink.taken c.args.out.now)
    (g.I.Source.left c.advance.new.input) (g.O.Sink.taken c.advance.new.out) (ap end_of c.in-Running.is) c.in-Ok.ensures.made)

pub returns-in-Ok-clause-answer : goal.returns-in-Ok-clause-answer
returns-in-Ok-clause-answer g c =
    answers c.advance.new.self.end c.answer-in-Ok.result (record { program = c.args.self.now.program; moment = c.advance.new.self }) c.answer-in-Ok.ensures refl

pub returns-in-Err-clause-step : goal.returns-in-Err-clause-step
returns-in-Err-clause-step g c =
    let before : WithConsole CRun = beside_console c.args.self.now (g.I.Source.left c.args.input.now) (g.O.Sink.taken c.args.out.now) in
    let run : CRun = record { program = c.args.self.now.program; moment = c.advance.new.self } in
    let now : WithConsole CRun = beside_console run (g.I.Source.left c.advance.new.input) (g.O.Sink.taken
    c.advance.new.out) in
    refused c.in-Err.fault c.answer-in-Err.result before now c.answer-in-Err.ensures
    (step_refused c.in-Err.fault c.args.self.now c.advance.new.self (g.I.Source.left c.args.input.now) (g.O.Sink.taken c.args.out.now)
    (g.I.Source.left c.advance.new.input) (g.O.Sink.taken c.advance.new.out) (ap end_of c.in-Running.is) c.in-Err.ensures.refused c.in-Err.ensures.stays)

pub returns-in-Err-clause-answer : goal.returns-in-Err-clause-answer
returns-in-Err-clause-answer g c =
    refused_ends c.in-Err.fault c.answer-in-Err.result c.args.self.now (record { program = c.args.self.now.program; moment = c.advance.new.self })
    c.answer-in-Err.ensures c.in-Err.ensures.stays (ap end_of c.in-Running.is)
