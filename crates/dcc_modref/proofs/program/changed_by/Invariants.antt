use Rattle.dcc_ir.specs.Views.{program_of}
use Rattle.dcc_modref.specs.Programs.{untold, AreTelling}
use Rattle.dcc_modref.proofs.program.changed_by.Given as goal

abbrev pub invariant-loop-changed : goal.invariant-loop-changed
invariant-loop-changed l = AreTelling (program_of l.p) l.location l.changed.items

abbrev pub decreases-loop-changed : goal.decreases-loop-changed
decreases-loop-changed l = untold l.changed.items
