use Rattle.std.proofs.Common.{◌≡◌, ◌∷◌, ◌++◌, take}
use Rattle.std.specs.List.{flat_map}
use Rattle.dcc_spelled.specs.Hex.{hex_byte}
use Rattle.dcc_spelled.proofs.hex.push_bytes.Given as goal

-- the bytes so far are appended
abbrev pub invariant-loop-byte : goal.invariant-loop-byte
invariant-loop-byte l =
    l.text.items ≡ l.initial.text.items ++ flat_map (λ byte. 32 ∷ hex_byte byte) (take l.byte-index l.bytes)
