use Rattle.std.proofs.Common.{◌≡◌, length, map}
use Rattle.dcc_ir.specs.Views.{expr_of}
use Rattle.dcc_passes.specs.Renaming.{renamed}
use Rattle.dcc_copies.specs.Holders.{name_by}
use Rattle.dcc_webs.proofs.StepLaws.{done}
use Rattle.dcc_copies.proofs.names.Names.rename_all.Given as goal

abbrev pub invariant-loop-i : goal.invariant-loop-i
invariant-loop-i l = record {
  count : length l.es.items ≡ length l.initial.es.items;
  are : map expr_of l.es.items ≡ done (renamed (name_by l.self.of.items)) l.i (map expr_of l.initial.es.items);
}
