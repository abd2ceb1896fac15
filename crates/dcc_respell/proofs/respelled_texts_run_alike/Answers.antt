use Rattle.dcc_respell.proofs.RunLaws.{respelled-alike}
use Rattle.dcc_respell.proofs.respelled_texts_run_alike.Goals as goal

pub returns : goal.returns
returns c = respelled-alike
