use Rattle.std.proofs.Common.{◌-◌}
use Rattle.dcc_heights.specs.Search.{searched_procedure, IsSearched}
use Rattle.dcc_heights.proofs.search.search.Given as goal

abbrev pub invariant-loop-next : goal.invariant-loop-next
invariant-loop-next l = IsSearched (searched_procedure l.proc l.framed l.removed.entries) l.heights.entries l.next

abbrev pub decreases-loop-next : goal.decreases-loop-next
decreases-loop-next l = 65536 - l.next
