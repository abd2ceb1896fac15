use Rattle.std.proofs.Common.{take}
use Rattle.dcc_procs.specs.Known.{successors_by}
use Rattle.dcc_procs.specs.Search.{work_of, Extends, IsSound, AreTold}
use Rattle.dcc_procs.proofs.search.Search.follow.Given as goal

abbrev pub invariant-loop-place : goal.invariant-loop-place
invariant-loop-place l =
    IsSound l.image l.layout l.entry (work_of l.self)
    × Extends (work_of l.fn.self) (work_of l.self)
    × AreTold (work_of l.self) l.at l.instr l.known (take l.place (successors_by l.image l.at l.instr l.known))
