use Rattle.std.proofs.Common.{◌≡◌, drop}
use Rattle.std.specs.Prelude.{◌==◌}
use Rattle.std.specs.List.{list_any}
use Rattle.dcc_interval.specs.Reducing.{regions_of, region_at}
use Rattle.dcc_interval.proofs.regions.Regions.has_one.Given as goal

abbrev pub invariant-loop-node : goal.invariant-loop-node
invariant-loop-node l = list_any (λ n. region_at (regions_of l.self) n == l.region) (drop l.node-index l.nodes)
    ≡ list_any (λ n. region_at (regions_of l.self) n == l.region) l.nodes
