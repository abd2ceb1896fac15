use Rattle.std.proofs.Common.{◌≡◌, ◌≤◌, take}
use Rattle.dcc_globals.specs.Globals.{significant}
use Rattle.dcc_globals.proofs.initial.significant.Given as goal

abbrev pub invariant-loop-place : goal.invariant-loop-place
invariant-loop-place l = record {
  value : l.count ≡ significant (take l.place l.bytes);
  within : l.count ≤ l.place;
}
