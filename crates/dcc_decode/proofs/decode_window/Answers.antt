use Rattle.std.proofs.Common.{arith}
use Rattle.dcc_machine.proofs.WellFormedLaws.{found-operation}
use Rattle.dcc_decode.proofs.decode_window.Goals as goal

pub returns-clause-operation : goal.returns-clause-operation
returns-clause-operation c =
    found-operation c.args.cpu c.args.at c.args.window.now c.instruction_in.result (λ i. omega (arith, c.type_inv.window i)) c.instruction_in.ensures
