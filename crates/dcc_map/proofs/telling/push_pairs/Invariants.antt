use Rattle.std.proofs.Common.{◌≡◌, ◌++◌, take}
use Rattle.std.specs.List.{flat_map}
use Rattle.dcc_map.specs.Lines.{pair_line}
use Rattle.dcc_map.proofs.telling.push_pairs.Given as goal

abbrev pub invariant-loop-pair : goal.invariant-loop-pair
invariant-loop-pair l = l.lines.items ≡ l.initial.lines.items ++ flat_map pair_line (take l.pair-index l.pairs)
