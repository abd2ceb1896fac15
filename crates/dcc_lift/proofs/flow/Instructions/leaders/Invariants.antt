-- The offsets so far at which blocks begin.
use Rattle.std.proofs.Common.{◌≡◌, ◌∷◌, not, ◌==◌, ◌&&◌, map, filter}
use Rattle.std.specs.Map.Iter.{deref}
use Rattle.dcc_lift.specs.Blocks.{joins}
use Rattle.dcc_lift.specs.Known.{nodes_of}
use Rattle.dcc_lift.proofs.flow.Instructions.leaders.Given as goal

abbrev pub invariant-loop-at : goal.invariant-loop-at
invariant-loop-at l =
    l.leaders.items ≡ l.self.start ∷ filter
    (λ at. not (at == l.self.start) && not (joins (nodes_of l.self) l.self.start at)) (map deref l.yielded)
