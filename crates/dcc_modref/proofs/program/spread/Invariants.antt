use Rattle.dcc_ir.specs.Views.{program_of}
use Rattle.dcc_modref.specs.Programs.{untold, AreTelling}
use Rattle.dcc_modref.proofs.program.spread.Given as goal

abbrev pub invariant-loop-places : goal.invariant-loop-places
invariant-loop-places l = AreTelling (program_of l.p) l.location l.changed.items

abbrev pub decreases-loop-places : goal.decreases-loop-places
decreases-loop-places l = untold l.changed.items
