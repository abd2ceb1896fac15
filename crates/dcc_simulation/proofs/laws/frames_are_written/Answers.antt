use Rattle.dcc_simulation.proofs.FrameBytes.{frames-written}
use Rattle.dcc_simulation.proofs.laws.frames_are_written.Goals as goal

pub returns : goal.returns
returns c = frames-written
