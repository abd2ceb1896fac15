use Rattle.dcc_renaming.proofs.CleanTexts.{renamed-texts}
use Rattle.dcc_renaming.proofs.laws.renamed_trees_have_texts.Goals as goal

pub returns : goal.returns
returns c = renamed-texts
