use Rattle.std.proofs.Common.{is_some, sym, ap, ◌∙◌}
use Rattle.dcc_c.specs.Reading.{next_token}
use Rattle.dcc_reader.specs.ReaderViews.{reader_of}
use Rattle.dcc_reader.proofs.WordLaws.{keyword-word}
use Rattle.dcc_read.proofs.statement.sees_statement_word.Goals as goal

pub returns : goal.returns
returns c = c.is_some.ensures ∙ ap is_some c.statement_word.ensures ∙ sym (keyword-word (next_token (reader_of c.args.r.now)))
