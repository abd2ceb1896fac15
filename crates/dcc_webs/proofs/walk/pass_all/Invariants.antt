use Rattle.std.proofs.Common.{◌≡◌, ◌≤◌, length, map, drop}
use Rattle.dcc_flow.specs.Access.{access_in}
use Rattle.dcc_webs.specs.Names.{names_of, before_all}
use Rattle.dcc_webs.proofs.walk.pass_all.Given as goal

abbrev pub invariant-loop-at : goal.invariant-loop-at
invariant-loop-at l = record {
  inside : l.at ≤ length l.accesses;
  names : names_of l.names ≡ before_all (drop l.at (map access_in l.accesses)) (names_of l.initial.names);
}

abbrev pub decreases-loop-at : goal.decreases-loop-at
decreases-loop-at l = l.at
