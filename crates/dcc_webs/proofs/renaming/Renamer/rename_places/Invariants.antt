use Rattle.std.proofs.Common.{◌≡◌, length}
use Rattle.dcc_webs.specs.Split.{temp_in}
use Rattle.dcc_webs.proofs.StepLaws.{done}
use Rattle.dcc_webs.proofs.renaming.Renamer.rename_places.Given as goal

abbrev pub invariant-loop-i : goal.invariant-loop-i
invariant-loop-i l = record {
  count : length l.places.items ≡ length l.initial.places.items;
  are : l.places.items ≡ done (temp_in l.self) l.i l.initial.places.items;
}
