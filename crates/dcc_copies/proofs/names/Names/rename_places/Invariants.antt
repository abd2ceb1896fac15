use Rattle.std.proofs.Common.{◌≡◌, length}
use Rattle.dcc_copies.specs.Holders.{name_by}
use Rattle.dcc_webs.proofs.StepLaws.{done}
use Rattle.dcc_copies.proofs.names.Names.rename_places.Given as goal

abbrev pub invariant-loop-i : goal.invariant-loop-i
invariant-loop-i l = record {
  count : length l.places.items ≡ length l.initial.places.items;
  are : l.places.items ≡ done (name_by l.self.of.items) l.i l.initial.places.items;
}
