use Rattle.std.proofs.Common.{◌≡◌, ◌≤◌, drop, max}
use Rattle.dcc_variables.specs.Variables.{cells_among}
use Rattle.dcc_variables.proofs.variables.cells_among.Given as goal

abbrev pub invariant-loop-location : goal.invariant-loop-location
invariant-loop-location l = record {
  so_far : max l.cells (cells_among (drop l.location-index l.mentions)) ≡ cells_among l.mentions;
  few : l.cells ≤ 65536;
}
