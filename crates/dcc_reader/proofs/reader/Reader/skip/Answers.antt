use Rattle.std.proofs.Common.{refl}
use Rattle.dcc_reader.proofs.reader.Reader.skip.Goals as goal
use Rattle.dcc_reader.proofs.ReaderLaws.{after_next}

pub returns : goal.returns
returns c = after_next c.args.self.now _ c.requires.seen c.skip.ensures.pieces c.skip.ensures.place refl refl
