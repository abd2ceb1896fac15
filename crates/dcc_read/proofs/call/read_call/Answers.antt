use Rattle.std.proofs.Common.{codes}
use Rattle.std.specs.Option.{option_map}
use Rattle.dcc_reader.specs.PartialViews.{word_of}
use Rattle.dcc_reader.specs.ReaderViews.{reader_of}
use Rattle.dcc_reader.proofs.SeenLaws.{mark-after}
use Rattle.dcc_read.proofs.call.read_call.Goals as goal

pub read_call_after-requires : goal.read_call_after-requires
read_call_after-requires c = record {
  seen = mark-after (codes "(") (reader_of c.args.r.now) (reader_of c.take_name.new.self) (option_map word_of c.take_name.result)
      c.requires.begins c.take_name.ensures;
}
