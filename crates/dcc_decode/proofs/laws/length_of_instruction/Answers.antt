use Rattle.dcc_machine.proofs.TableLaws.{instruction-length}
use Rattle.dcc_decode.proofs.laws.length_of_instruction.Goals as goal

pub returns : goal.returns
returns c = instruction-length
