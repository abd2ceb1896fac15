-- the last statements go on or round, and their labels are known
use Rattle.std.proofs.Common.{◌≡◌, ◌≤◌, true, map, drop, length}
use Rattle.dcc_shape.specs.Seen.{seen_in, may_all_go, AreLabels}
use Rattle.dcc_shape.proofs.jumps.go_on_or_round.Given as goal

abbrev pub invariant-loop-i : goal.invariant-loop-i
invariant-loop-i l = record {
  within : l.i ≤ length l.list;
  go : may_all_go (map seen_in (drop l.i l.list)) ≡ true;
  labels : AreLabels l.later (map seen_in (drop l.i l.list));
}

abbrev pub decreases-loop-i : goal.decreases-loop-i
decreases-loop-i l = l.i
