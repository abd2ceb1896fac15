use Rattle.std.proofs.Common.{◌≡◌, take}
use Rattle.dcc_map.proofs.event.keys_of.Given as goal

abbrev pub invariant-loop-byte : goal.invariant-loop-byte
invariant-loop-byte l = l.keys.items ≡ take l.byte-index l.input
