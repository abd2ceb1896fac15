use Rattle.std.proofs.Common.{◌≡◌, ◌-◌, ◌≤◌, take}
use Rattle.dcc_io.specs.Told.{append_told}
use Rattle.dcc_console.specs.Strings.{string_in}
use Rattle.dcc_console.proofs.string.put_string.Given as goal

abbrev pub invariant-loop-written : goal.invariant-loop-written
invariant-loop-written g l = record {
  within : l.written ≤ l.size;
  wrote : g.O.Sink.taken l.out ≡ append_told (g.O.Sink.taken l.initial.out) (take l.written (string_in l.memory l.segment l.start));
  faults : g.O.Sink.faults l.initial.out ≤ g.O.Sink.faults l.out;
}

abbrev pub decreases-loop-written : goal.decreases-loop-written
decreases-loop-written g l = l.size - l.written
