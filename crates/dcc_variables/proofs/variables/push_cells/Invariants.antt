use Rattle.std.proofs.Common.{◌≡◌, ◌++◌, flat_map}
use Rattle.std.specs.List.{range_with_len}
use Rattle.dcc_variables.specs.Variables.{cell_halves}
use Rattle.dcc_variables.proofs.variables.push_cells.Given as goal

abbrev pub invariant-loop-n : goal.invariant-loop-n
invariant-loop-n l = l.list.items ≡ l.initial.list.items ++ flat_map cell_halves (range_with_len 0 l.n)
