-- The readers that the declared type stands for.
use Rattle.std.specs.Option.{option_map}
use Rattle.dcc_c.specs.Reading as reading
use Rattle.dcc_lex.specs.PiecesViews.{pieces_of}
use Rattle.dcc_reader.specs.OffenceViews.{offence_of}
use Rattle.dcc_reader.specs.declared.reader.Reader.{Reader}

abbrev pub reader_of : Reader → reading.Reader
reader_of r = record {
  left = pieces_of r.left;
  at = r.left.at;
  stop = option_map offence_of r.stop;
  depth = r.depth;
}
