use Rattle.std.proofs.Common.{arith}
use Rattle.dcc_machine.proofs.MzImageLaws.{length-loaded}
use Rattle.dcc_map.proofs.machine_side.MachineSide.new.Goals as goal

pub new-requires : goal.new-requires
new-requires c = omega (arith, length-loaded c.args.image.now c.requires, c.args.image.now.bytes.ok.0)
