use Rattle.std.proofs.Common.{◌≡◌, take}
use Rattle.dcc_passes.specs.Renaming.{param_places}
use Rattle.dcc_fold.proofs.alone.places.Given as goal

abbrev pub invariant-loop-param : goal.invariant-loop-param
invariant-loop-param l = l.list.items ≡ param_places (take l.param-index l.g.params.items)
