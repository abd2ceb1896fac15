use Rattle.dcc_machine.proofs.TableLaws.{instruction-prefix}
use Rattle.dcc_decode.proofs.laws.bytes_of_instruction.Goals as goal

pub returns : goal.returns
returns c = instruction-prefix
