use Rattle.std.proofs.Common.{◌≡◌, length}
use Rattle.dcc_passes.specs.Renaming.{renamed_param}
use Rattle.dcc_webs.specs.Split.{temp_in}
use Rattle.dcc_webs.proofs.StepLaws.{done}
use Rattle.dcc_webs.proofs.renaming.Renamer.rename_params.Given as goal

abbrev pub invariant-loop-i : goal.invariant-loop-i
invariant-loop-i l = record {
  count : length l.params.items ≡ length l.initial.params.items;
  are : l.params.items ≡ done (renamed_param (temp_in l.self)) l.i l.initial.params.items;
}
