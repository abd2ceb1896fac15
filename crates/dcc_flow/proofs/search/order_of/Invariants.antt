use Rattle.dcc_flow.specs.Edges.{rows}
use Rattle.dcc_flow.specs.Search.{search_of}
use Rattle.dcc_flow.proofs.SearchLaws.{StandsAt, left}
use Rattle.dcc_flow.proofs.search.order_of.Given as goal

abbrev pub invariant-loop-last : goal.invariant-loop-last
invariant-loop-last l = StandsAt (rows l.next.items) (search_of l.search)

abbrev pub decreases-loop-last : goal.decreases-loop-last
decreases-loop-last l = left (rows l.next.items) (search_of l.search)
