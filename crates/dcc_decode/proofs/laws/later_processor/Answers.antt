use Rattle.dcc_machine.proofs.TableLaws.{later_processor}
use Rattle.dcc_decode.proofs.laws.later_processor.Goals as goal

pub returns : goal.returns
returns c = later_processor
