use Rattle.std.proofs.Common.{take}
use Rattle.dcc_heights.specs.Search.{searched_procedure, IsGoing}
use Rattle.dcc_heights.proofs.search.follow.Given as goal

abbrev pub invariant-loop-to : goal.invariant-loop-to
invariant-loop-to l =
    IsGoing (searched_procedure l.proc l.framed l.removed.entries) l.initial.heights.entries l.heights.entries l.after
    (take l.to-index l.to-items)
