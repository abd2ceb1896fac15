use Rattle.std.proofs.Common.{◌≡◌, ◌++◌, take}
use Rattle.std.specs.List.{flat_map}
use Rattle.dcc_sigs.specs.Signature.{part_text}
use Rattle.dcc_sigs.proofs.line.push_parts.Given as goal

-- the text of the parts so far is appended
abbrev pub invariant-loop-part : goal.invariant-loop-part
invariant-loop-part l = l.text.items ≡ l.initial.text.items ++ flat_map part_text (take l.part-index l.parts)
