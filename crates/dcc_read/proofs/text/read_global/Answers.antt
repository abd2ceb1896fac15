use Rattle.dcc_reader.specs.ReaderViews.{reader_of}
use Rattle.dcc_reader.specs.BegunViews.{begun_of}
use Rattle.dcc_c.specs.Reading.{got}
use Rattle.dcc_read.proofs.TextLaws.{global-read}
use Rattle.dcc_read.proofs.text.read_global.Goals as goal

pub returns : goal.returns
returns c =
    global-read c.args.calls c.args.address (got (begun_of c.args.begun) (reader_of c.args.r.now)) (reader_of c.read_size-size.new.r)
    (reader_of c.read_init.new.r) (reader_of c.take_mark.new.self) _ _ _ c.read_size-size.ensures c.in_ok-init.ensures c.take_mark.ensures c.is_stopped-done.ensures
