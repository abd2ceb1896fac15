use Rattle.std.proofs.Common.{map, ap}
use Rattle.dcc_reader.specs.PartialViews.{number_of}
use Rattle.dcc_reader.specs.ReaderViews.{reader_of}
use Rattle.dcc_reader.proofs.VariableLaws.{param-read}
use Rattle.dcc_reader.proofs.declaration.read_param.Goals as goal

pub returns : goal.returns
returns c =
    param-read (reader_of c.args.r.now) (reader_of c.read_class-class.new.r) (reader_of c.take_type-ty.new.self) (reader_of c.take_name-name.new.self) _ _
    _ _ _ (ap (map number_of) c.new.ensures.items) c.read_class-class.ensures c.take_type-ty.ensures c.take_name-name.ensures
    c.is_stopped-done.ensures
