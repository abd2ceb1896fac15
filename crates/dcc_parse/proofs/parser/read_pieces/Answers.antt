use Rattle.std.proofs.Common.{◌++◌, sym, ap, ◌∙◌}
use Rattle.std.specs.Option.{option_map}
use Rattle.dcc_c.specs.Kinds.{first_of}
use Rattle.dcc_c.specs.TextOffences.{stop_offences, text_offences}
use Rattle.dcc_lex.specs.PiecesViews.{pieces_of}
use Rattle.dcc_reader.specs.OffenceViews.{offence_of}
use Rattle.dcc_reader.specs.PartialViews.{text_of}
use Rattle.dcc_reader.specs.ReaderViews.{reader_of}
use Rattle.dcc_parse.proofs.ParseRules.{read-whole}
use Rattle.dcc_parse.proofs.parser.read_pieces.Goals as goal

pub returns-clause-text : goal.returns-clause-text
returns-clause-text c =
    let reading = c.in_ok-reading.reading in
    read-whole (pieces_of c.args.pieces.now) (text_of reading.text) (reader_of reading.following) c.in_ok-reading.ensures
    (ap (λ rest. first_of (stop_offences (option_map offence_of reading.following.stop) ++ text_offences (text_of reading.text) rest)) (sym c.unread-rest.ensures)
    ∙ sym c.in_ok-offence.ensures ∙ ap (λ o. option_map offence_of o) c.in-None.is)
