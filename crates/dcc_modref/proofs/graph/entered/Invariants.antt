use Rattle.std.proofs.Common.{◌≡◌, ◌≤◌}
use Rattle.dcc_modref.specs.Tables.{states_of, first_states}
use Rattle.dcc_modref.proofs.graph.entered.Given as goal

abbrev pub invariant-loop : goal.invariant-loop
invariant-loop l = record {
  some : 1 ≤ l.counter;
  begins : states_of l.begins.items ≡ first_states l.counter;
}
