use Rattle.std.proofs.Common.{map, ap}
use Rattle.dcc_reader.specs.PartialViews.{number_of}
use Rattle.dcc_reader.specs.ReaderViews.{reader_of}
use Rattle.dcc_reader.proofs.VariableLaws.{local-read}
use Rattle.dcc_reader.proofs.declaration.read_local.Goals as goal

pub returns : goal.returns
returns c =
    local-read (reader_of c.args.r.now) (reader_of c.read_auto-class.new.r) (reader_of c.take_type-ty.new.self) (reader_of c.take_name-name.new.self)
    (reader_of c.read_size-size.new.r) (reader_of c.take_mark.new.self) _ _ _ _ _ _ _ (ap (map number_of) c.new.ensures.items) c.read_auto-class.ensures c.take_type-ty.ensures c.take_name-name.ensures
    c.read_size-size.ensures c.take_mark.ensures c.is_stopped-done.ensures c.class_with.ensures
