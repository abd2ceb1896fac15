use Rattle.std.proofs.Common.{◌≡◌, ◌-◌, ◌≤◌}
use Rattle.dcc_run.specs.System.{after}
use Rattle.dcc_ir.specs.Run.{step, first_state}
use Rattle.dcc_ir.specs.Views.{program_of}
use Rattle.dcc_ir.specs.Plain.{state_of}
use Rattle.dcc_ir.proofs.plain.run.Given as goal

-- the state is that after the steps that are done
abbrev pub invariant-loop-done : goal.invariant-loop-done
invariant-loop-done l = record {
  within : l.done ≤ l.steps;
  stands : state_of l.run ≡ after (step (program_of l.program) l.fill) l.done (first_state (program_of l.program) l.fill l.input);
  fill : l.run.fill ≡ l.fill;
}

abbrev pub decreases-loop-done : goal.decreases-loop-done
decreases-loop-done l = l.steps - l.done
