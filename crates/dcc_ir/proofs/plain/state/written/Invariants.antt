use Rattle.std.proofs.Common.{◌≡◌, map, take}
use Rattle.dcc_run.specs.Event.{writes}
use Rattle.dcc_ir.specs.Plain.{event_of}
use Rattle.dcc_ir.proofs.plain.state.written.Given as goal

-- the events of the bytes so far
abbrev pub invariant-loop-byte : goal.invariant-loop-byte
invariant-loop-byte l = map event_of l.events.items ≡ writes (take l.byte-index l.bytes)
