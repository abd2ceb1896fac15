use Rattle.dcc_commands.proofs.WordsAsked.{asked-is, asked-from}
use Rattle.dcc_commands.proofs.words.words_ask_for_one_job.Goals as goal

pub returns : goal.returns
returns c words job = (asked-from words job, asked-is words job)
