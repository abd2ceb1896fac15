use Rattle.std.proofs.Common.{◌≡◌, ◌-◌, ◌≤◌, [], length, take}
use Rattle.dcc_io.specs.Told.{append_told}
use Rattle.dcc_io.proofs.outside.put_all.Given as goal

abbrev pub invariant-loop-written : goal.invariant-loop-written
invariant-loop-written g l = record {
  within : l.written ≤ length l.piece;
  taken : g.O.Sink.taken l.sink ≡ append_told (g.O.Sink.taken l.initial.sink) (take l.written l.piece);
  faults : g.O.Sink.faults l.initial.sink ≤ g.O.Sink.faults l.sink;
  empty : l.piece ≡ [] → l.sink ≡ l.initial.sink;
}

abbrev pub decreases-loop-written : goal.decreases-loop-written
decreases-loop-written g l = length l.piece - l.written
