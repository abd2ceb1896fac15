use Rattle.dcc_frames.proofs.StartLaws.{argument-none}
use Rattle.dcc_frames.proofs.exposed.argument.Goals as goal

pub loop-start-init : goal.loop-start-init
loop-start-init c = λ near. argument-none
