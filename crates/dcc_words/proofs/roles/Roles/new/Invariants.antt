use Rattle.std.proofs.Common.{◌≡◌, ◌≤◌, ◌+◌, length, drop}
use Rattle.dcc_ir.specs.declared.syntax.Loc.{Loc}
use Rattle.dcc_words.specs.Words.{role_among}
use Rattle.dcc_words.specs.Roles.{role_at}
use Rattle.dcc_words.proofs.roles.Roles.new.Given as goal

abbrev pub invariant-loop-k : goal.invariant-loop-k
invariant-loop-k l = record {
  count : length l.of.items ≡ length l.bits;
  inside : l.k ≤ length l.pairs;
  are : (x : Loc) → role_at l.of.items x ≡ role_among (drop l.k l.pairs) (length l.bits + l.k) x;
}

abbrev pub decreases-loop-k : goal.decreases-loop-k
decreases-loop-k l = l.k
