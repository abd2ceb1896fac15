use Rattle.dcc_frames.proofs.StartLaws.{local-none}
use Rattle.dcc_frames.proofs.exposed.local.Goals as goal

pub loop-start-init : goal.loop-start-init
loop-start-init c = λ near. local-none
