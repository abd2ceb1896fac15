use Rattle.std.proofs.Common.{◌≡◌, ◌<◌, ◌^◌, ℕ, true}
use Rattle.std.specs.Vec.{vec_len}
use Rattle.dcc_step.specs.Cache.{is_marked, code_address}
use Rattle.dcc_step.proofs.marks.Marks.mark_from.Given as goal

abbrev pub invariant-loop-k : goal.invariant-loop-k
invariant-loop-k l = record {
  count : vec_len l.self-inside.items ≡ 2 ^ 20;
  more : (a : ℕ) → is_marked l.initial.self-inside.items.items a ≡ true → is_marked l.self-inside.items.items a ≡ true;
  marked : (j : ℕ) → j < l.k → is_marked l.self-inside.items.items (code_address l.segment l.at j) ≡ true;
}
