use Rattle.std.proofs.Common.{map, ap}
use Rattle.dcc_reader.specs.PartialViews.{variable_of, lines_of}
use Rattle.dcc_reader.specs.ReaderViews.{reader_of}
use Rattle.dcc_reader.specs.BegunViews.{begun_of}
use Rattle.dcc_c.specs.Reading.{got}
use Rattle.dcc_reader.proofs.HeadLaws.{head-read}
use Rattle.dcc_reader.proofs.head.read_head.Goals as goal

pub returns : goal.returns
returns c =
    head-read c.args.calls (got (begun_of c.args.begun) (reader_of c.args.r.now)) (reader_of c.take_mark.new.self) (reader_of c.read_params.new.r)
    (reader_of c.take_mark-2.new.self) _ _ _ _ _ _ (ap (map variable_of) c.new.ensures.items) (ap lines_of c.new-2.ensures.items) c.take_mark.ensures c.opened-opened.ensures
    c.sees_word-without_params.ensures c.in_ok-params.ensures c.take_mark-2.ensures c.is_stopped-headed.ensures
