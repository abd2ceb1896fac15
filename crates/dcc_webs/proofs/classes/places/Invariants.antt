use Rattle.dcc_webs.proofs.ClassLaws.{PlacesBelow}
use Rattle.dcc_webs.proofs.classes.places.Given as goal

abbrev pub invariant-loop-x : goal.invariant-loop-x
invariant-loop-x l = PlacesBelow l.bits l.origins l.class l.temps.of.items l.temps.bits.items l.x
