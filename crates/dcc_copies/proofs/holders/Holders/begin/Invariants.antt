use Rattle.std.proofs.Common.{◌≤◌, length, drop}
use Rattle.dcc_copies.specs.Holders.{holders_of, held_by, IsPlain, IsSound}
use Rattle.dcc_copies.proofs.holders.Holders.begin.Given as goal

abbrev pub invariant-loop-at : goal.invariant-loop-at
invariant-loop-at l = record {
  inside : l.at ≤ length l.entries;
  plain : IsPlain (holders_of l.self);
  sound : IsSound l.names.of.items (holders_of l.self) (held_by l.names.of.items (drop l.at l.entries));
}

abbrev pub decreases-loop-at : goal.decreases-loop-at
decreases-loop-at l = l.at
