-- The laws of clean runs, from all that they rest on.
use Rattle.dcc_stack.specs.Laws.{CleanStepsStand, FramesStand, FramesAreFew}
use Rattle.dcc_stack.proofs.FormLaws.{in-form}
use Rattle.dcc_stack.proofs.ApartLaws.{writes-apart}
use Rattle.dcc_stack.proofs.TableRuns.{runs-follow}
use Rattle.dcc_stack.proofs.StepClean.{clean-steps-stand}
use Rattle.dcc_stack.proofs.RunLaws.{frames-stand, frames-few}

pub steps_stand : CleanStepsStand
steps_stand = clean-steps-stand in-form (writes-apart in-form) runs-follow

pub frames_stand : FramesStand
frames_stand = frames-stand steps_stand

pub frames_are_few : FramesAreFew
frames_are_few = frames-few steps_stand
