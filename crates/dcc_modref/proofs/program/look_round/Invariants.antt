use Rattle.std.proofs.Common.{◌<◌}
use Rattle.dcc_ir.specs.Views.{program_of}
use Rattle.dcc_modref.specs.Programs.{AreTelling, HasLooked}
use Rattle.dcc_modref.proofs.program.look_round.Given as goal

abbrev pub invariant-loop-at : goal.invariant-loop-at
invariant-loop-at l = record {
  telling : AreTelling (program_of l.p) l.location l.changed.items;
  looked : HasLooked (program_of l.p) l.location l.initial.changed.items l.changed.items l.new (λ place. place < l.at);
}
