-- the addresses so far
use Rattle.std.proofs.Common.{◌≡◌, map, take}
use Rattle.dcc_shape.proofs.asked.addresses.Given as goal

abbrev pub invariant-loop-point : goal.invariant-loop-point
invariant-loop-point l = l.ats.items ≡ map (λ p. p.at) (take l.point-index l.points)
