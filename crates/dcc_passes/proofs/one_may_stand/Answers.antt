use Rattle.dcc_passes.proofs.OneGraphLaws.{may-stand}
use Rattle.dcc_passes.proofs.one_may_stand.Goals as goal

pub returns : goal.returns
returns g c = λ before after fits begins goes p formed known.
    may-stand g.P.OnePass.place g.P.OnePass.invariant before after fits begins goes p formed known
