use Rattle.std.proofs.Common.{sym, ap, ◌∙◌}
use Rattle.dcc_c.specs.Reading.{next_token}
use Rattle.dcc_reader.specs.ReaderViews.{reader_of}
use Rattle.dcc_reader.specs.Words.{is_block}
use Rattle.dcc_reader.proofs.WordLaws.{block-keyword}
use Rattle.dcc_read.proofs.statement.begins_block_stmt.Goals as goal

pub returns-in-Some : goal.returns-in-Some
returns-in-Some c = c.holds_blocks.ensures ∙ ap is_block c.in-Some.ensures ∙ sym (block-keyword (next_token (reader_of c.args.r.now)))

pub returns-in-None : goal.returns-in-None
returns-in-None c = ap is_block c.in-None.ensures ∙ sym (block-keyword (next_token (reader_of c.args.r.now)))
