use Rattle.std.proofs.Common.{◌≡◌, [], ℕ, ◌<◌, length, get_or}
use Rattle.dcc_flow.specs.Edges.{rows}
use Rattle.dcc_webs.proofs.classes.Classes.new.Given as goal

abbrev pub invariant-loop-x : goal.invariant-loop-x
invariant-loop-x l = record {
  count : length l.class.items ≡ l.x;
  others_count : length (rows l.others.items) ≡ l.x;
  own : (k : ℕ) → k < l.x → get_or l.class.items k 0 ≡ k;
  others : (k : ℕ) → get_or (rows l.others.items) k [] ≡ [];
}
