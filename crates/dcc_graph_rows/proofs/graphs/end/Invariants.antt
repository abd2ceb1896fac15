use Rattle.std.proofs.Common.{◌≡◌, nat_lt, true, take}
use Rattle.std.specs.List.{list_all}
use Rattle.dcc_graph_rows.proofs.graphs.end.Given as goal

abbrev pub invariant-loop-block : goal.invariant-loop-block
invariant-loop-block g l = list_all (λ place. nat_lt place l.count) (take l.block-index l.blocks) ≡ true
