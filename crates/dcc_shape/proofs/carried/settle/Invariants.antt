use Rattle.std.proofs.Common.{◌≡◌, ◌+◌, Bool, true, false}
use Rattle.std.specs.Prelude.{if◌then◌else◌}
use Rattle.dcc_c.specs.Tree.{Word}
use Rattle.dcc_shape.specs.Carrying.{holds, Within, all_settle, all_keep, strangers}
use Rattle.dcc_shape.proofs.carried.settle.Given as goal

-- the names are those of every family that keeps what the first ones carry, and settled after a round without a new one
abbrev pub invariant-loop-grown : goal.invariant-loop-grown
invariant-loop-grown l = record {
  more : Within (holds l.initial.names) (holds l.names);
  forced : (all : Word → Bool) → Within (holds l.initial.names) all → all_keep (holds l.unplaced) all l.list ≡ true
      → Within (holds l.names) all;
  settled : l.grown ≡ false → all_settle (holds l.unplaced) (holds l.names) l.list ≡ true;
}

abbrev pub decreases-loop-grown : goal.decreases-loop-grown
decreases-loop-grown l = strangers (holds l.names) l.list + (if l.grown then 1 else 0)
