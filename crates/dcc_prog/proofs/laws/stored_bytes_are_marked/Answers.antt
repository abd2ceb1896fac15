use Rattle.dcc_prog.proofs.StoredMarks.{stored-marked}
use Rattle.dcc_prog.proofs.laws.stored_bytes_are_marked.Goals as goal

pub returns : goal.returns
returns c = stored-marked
