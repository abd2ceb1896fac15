use Rattle.std.proofs.Common.{◌≡◌, get_or, map, take}
use Rattle.dcc_webs.proofs.classes.number_classes.Given as goal

abbrev pub invariant-loop-x : goal.invariant-loop-x
invariant-loop-x l = l.of.items ≡ map (λ c. get_or l.places.of.items c 0) (take l.x-index l.class)
