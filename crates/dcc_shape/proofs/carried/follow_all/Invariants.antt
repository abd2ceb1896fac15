use Rattle.std.proofs.Common.{◌≡◌, ◌<◌, Bool, true, false, take}
use Rattle.dcc_c.specs.Tree.{Word}
use Rattle.dcc_shape.specs.Carrying.{holds, Within, all_settle, all_keep, strangers}
use Rattle.dcc_shape.proofs.carried.follow_all.Given as goal

-- while no name is new, the statements so far settle; once one is, fewer statements assign to none of the names
abbrev pub invariant-loop-seen : goal.invariant-loop-seen
invariant-loop-seen l = record {
  more : Within (holds l.initial.names) (holds l.names);
  forced : (all : Word → Bool) → Within (holds l.initial.names) all → all_keep (holds l.unplaced) all l.list ≡ true
      → Within (holds l.names) all;
  settled : l.grown ≡ false → (l.names ≡ l.initial.names)
      × (all_settle (holds l.unplaced) (holds l.names) (take l.seen-index l.list) ≡ true);
  fewer : l.grown ≡ true → strangers (holds l.names) l.list < strangers (holds l.initial.names) l.list;
}
