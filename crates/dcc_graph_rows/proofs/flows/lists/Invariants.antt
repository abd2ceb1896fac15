use Rattle.dcc_flow.specs.Uses.{AreLists}
use Rattle.dcc_graph_rows.proofs.flows.lists.Given as goal

abbrev pub invariant-loop-row : goal.invariant-loop-row
invariant-loop-row g l = AreLists l.row-index l.len l.lists.items
