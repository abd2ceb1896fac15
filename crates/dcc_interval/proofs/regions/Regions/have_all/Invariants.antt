use Rattle.std.proofs.Common.{◌≡◌, drop}
use Rattle.std.specs.Prelude.{◌==◌, ◌||◌}
use Rattle.std.specs.List.{list_all}
use Rattle.dcc_interval.specs.Reducing.{regions_of, region_at}
use Rattle.dcc_interval.proofs.regions.Regions.have_all.Given as goal

abbrev pub invariant-loop-node : goal.invariant-loop-node
invariant-loop-node l =
    list_all (λ n. region_at (regions_of l.self) n == l.one || region_at (regions_of l.self) n == l.other) (drop l.node-index l.nodes)
    ≡ list_all (λ n. region_at (regions_of l.self) n == l.one || region_at (regions_of l.self) n == l.other) l.nodes
