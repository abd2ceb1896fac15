use Rattle.std.proofs.Common.{◌≡◌, ◌++◌, map, take}
use Rattle.dcc_map.specs.declared.event.Event.TheVariants.{Wrote}
use Rattle.dcc_map.proofs.event.add_written.Given as goal

abbrev pub invariant-loop-byte : goal.invariant-loop-byte
invariant-loop-byte l = l.events.items ≡ l.initial.events.items ++ map Wrote (take l.byte-index l.bytes)
