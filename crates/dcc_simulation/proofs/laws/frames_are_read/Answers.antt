use Rattle.dcc_simulation.proofs.FrameBytes.{frames-read}
use Rattle.dcc_simulation.proofs.laws.frames_are_read.Goals as goal

pub returns : goal.returns
returns c = frames-read
