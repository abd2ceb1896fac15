use Rattle.dcc_interval.specs.Reducing.{regions_of, AreAlone}
use Rattle.dcc_interval.proofs.regions.Regions.new.Given as goal

abbrev pub invariant-loop-node : goal.invariant-loop-node
invariant-loop-node l = AreAlone l.node (regions_of l.regions)
