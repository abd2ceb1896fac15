use Rattle.dcc_renaming.proofs.CleanRuns.{renamed-alike}
use Rattle.dcc_renaming.proofs.laws.renamed_texts_run_alike.Goals as goal

pub returns : goal.returns
returns c = renamed-alike
