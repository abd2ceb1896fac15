use Rattle.std.proofs.Common.{◌≡◌, ℕ, Bool, List, length, map, slice_get, Some}
use Rattle.dcc_ir.specs.declared.syntax.Loc.{Loc}
use Rattle.dcc_ir.specs.Passing.{passed}
use Rattle.dcc_ir.specs.Views.{program_of}
use Rattle.dcc_modref.specs.Programs.{TellsJust}
use Rattle.dcc_modref.proofs.program.changes.Given as goal

abbrev pub invariant-loop-location : goal.invariant-loop-location
invariant-loop-location l = record {
  items : l.location-items ≡ passed;
  count : length l.lists.items ≡ l.location-index;
  exact : (place : ℕ) (location : Loc) (changed : List Bool) → slice_get passed place ≡ Some location → slice_get (map (λ v. v.items) l.lists.items) place ≡ Some changed → TellsJust (program_of l.p) location changed;
}
