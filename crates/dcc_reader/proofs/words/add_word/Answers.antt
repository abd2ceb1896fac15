use Rattle.dcc_reader.proofs.SetLaws.{set-inserted}
use Rattle.dcc_reader.proofs.words.add_word.Goals as goal

pub returns : goal.returns
returns c = λ other. set-inserted c.args.words.now c.insert.new.self c.args.word c.in_ok-insert.ensures.updates other
