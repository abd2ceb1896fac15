use Rattle.std.proofs.Common.{sym, ◌∙◌}
use Rattle.dcc_decode.specs.Reading.{parts_of}
use Rattle.dcc_decode.proofs.LaterRows.{earlier_some}
use Rattle.dcc_decode.proofs.operation.operation.Goals as goal

pub returns-in-Some : goal.returns-in-Some
returns-in-Some c =
    sym (earlier_some c.args.cpu (parts_of c.args.fields) c.in-Some.op (sym c.earlier_operation.ensures ∙ c.in-Some.is))
