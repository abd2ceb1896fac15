use Rattle.std.proofs.Common.{◌≡◌, drop}
use Rattle.std.specs.List.{list_any}
use Rattle.dcc_flow.specs.Edges.{rows, leads}
use Rattle.dcc_interval.proofs.loops.has_edge_back.Given as goal

abbrev pub invariant-loop-member : goal.invariant-loop-member
invariant-loop-member l = list_any (λ m. leads (rows l.next.items) m l.interval.header) (drop l.member-index l.member-items)
    ≡ list_any (λ m. leads (rows l.next.items) m l.interval.header) l.member-items
