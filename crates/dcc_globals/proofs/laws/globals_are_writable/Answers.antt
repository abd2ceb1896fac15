use Rattle.dcc_globals.proofs.WritableLaws.{globals-writable}
use Rattle.dcc_globals.proofs.laws.globals_are_writable.Goals as goal

pub returns : goal.returns
returns c = globals-writable
