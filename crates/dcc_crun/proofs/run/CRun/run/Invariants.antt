use Rattle.std.proofs.Common.{◌≤◌}
use Rattle.dcc_console.specs.WithConsole.{beside_console}
use Rattle.dcc_console.specs.Steps.{MakesSteps}
use Rattle.dcc_crun.specs.Stepped.{texts}
use Rattle.dcc_crun.proofs.run.CRun.run.Given as goal

abbrev pub invariant-loop-count : goal.invariant-loop-count
invariant-loop-count g l = record {
  made : MakesSteps texts l._count
      (beside_console l.initial.self (g.I.Source.left l.initial.input) (g.O.Sink.taken l.initial.out))
      (beside_console l.self (g.I.Source.left l.input) (g.O.Sink.taken l.out));
  input_faults : g.I.Source.faults l.initial.input ≤ g.I.Source.faults l.input;
  output_faults : g.O.Sink.faults l.initial.out ≤ g.O.Sink.faults l.out;
}
