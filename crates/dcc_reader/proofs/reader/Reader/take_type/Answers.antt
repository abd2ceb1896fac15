use Rattle.std.proofs.Common.{ap}
use Rattle.dcc_reader.proofs.reader.Reader.take_type.Goals as goal
use Rattle.dcc_reader.proofs.ReaderLaws.{type_after}

pub returns-in_err-base : goal.returns-in_err-base
returns-in_err-base c = rw c.from_residual.ensures (ap type_after c.in_err-base.ensures)
