use Rattle.std.proofs.Common.{◌≡◌, take}
use Rattle.dcc_localise.specs.Staying.{taken_of}
use Rattle.dcc_localise.proofs.staying.taken.Given as goal

abbrev pub invariant-loop-param : goal.invariant-loop-param
invariant-loop-param l = l.stays.items ≡ taken_of l.locations (take l.param-index l.params)
