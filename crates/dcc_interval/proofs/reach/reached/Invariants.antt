use Rattle.std.proofs.Common.{◌-◌, length}
use Rattle.dcc_flow.specs.Edges.{rows}
use Rattle.dcc_interval.specs.Noted.{noted_of}
use Rattle.dcc_interval.proofs.ReachLaws.{Reaching}
use Rattle.dcc_interval.proofs.reach.reached.Given as goal

abbrev pub invariant-loop-turn : goal.invariant-loop-turn
invariant-loop-turn l = Reaching (rows l.next.items) l.entry (noted_of l.found) l.turn

abbrev pub decreases-loop-turn : goal.decreases-loop-turn
decreases-loop-turn l = length l.next.items - l.turn
