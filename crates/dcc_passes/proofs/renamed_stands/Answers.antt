use Rattle.dcc_passes.proofs.RenamedLaws.{renamed-stands}
use Rattle.dcc_passes.proofs.renamed_stands.Goals as goal

pub returns : goal.returns
returns g c = renamed-stands g.R.SomeRenaming.family g.R.SomeRenaming.name
