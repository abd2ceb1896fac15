use Rattle.std.proofs.Common.{◌≡◌, ◌-◌, ◌≤◌}
use Rattle.std.specs.Vec.{vec_len}
use Rattle.dcc_watch.proofs.MarkLaws.{cleared}
use Rattle.dcc_watch.proofs.marks.Marks.clear.Given as goal

abbrev pub invariant-loop-place : goal.invariant-loop-place
invariant-loop-place l = record {
  within : l.place - l.from ≤ l.to - l.from;
  items : l.self-inside.items.items ≡ cleared l.from l.place l.initial.self-inside.items.items;
  lowest : l.self-inside.lowest ≡ l.initial.self-inside.lowest;
  count : vec_len l.self-inside.items ≡ 65536;
}
