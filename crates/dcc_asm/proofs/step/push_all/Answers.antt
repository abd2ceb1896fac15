use Rattle.std.proofs.Common.{arith}
use Rattle.dcc_asm.specs.Fault.{too_many}
use Rattle.dcc_asm.proofs.step.push_all.Goals as goal

pub returns-then-bytes-len : goal.returns-then-bytes-len
returns-then-bytes-len c line gives = too_many gives (omega (arith, c.if-bytes-len.true, c.len.ensures, c.requires.few))
