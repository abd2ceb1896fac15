use Rattle.std.proofs.Common.{◌≡◌, ◌-◌, length}
use Rattle.dcc_flow.specs.Work.{work_of}
use Rattle.dcc_flow.proofs.uses.Work.next_turn.Given as goal

abbrev pub invariant-loop-self : goal.invariant-loop-self
invariant-loop-self l = work_of l.self ≡ work_of l.initial.self

abbrev pub decreases-loop-self : goal.decreases-loop-self
decreases-loop-self l = length l.self.turns.items - l.self.at
