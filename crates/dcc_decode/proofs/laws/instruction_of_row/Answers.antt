use Rattle.dcc_machine.proofs.TableLaws.{instruction_is_that_of_its_row}
use Rattle.dcc_decode.proofs.laws.instruction_of_row.Goals as goal

pub returns : goal.returns
returns c = instruction_is_that_of_its_row
