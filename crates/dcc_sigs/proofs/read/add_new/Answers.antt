use Rattle.dcc_reader.proofs.SetLaws.{set-inserted}
use Rattle.dcc_sigs.proofs.read.add_new.Goals as goal

pub returns-clause-added : goal.returns-clause-added
returns-clause-added c = λ other. set-inserted c.args.words.now c.insert.new.self c.args.word c.in_ok-insert.ensures.updates other
