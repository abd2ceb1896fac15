use Rattle.std.proofs.Common.{take}
use Rattle.dcc_frames.specs.Arguments.{IsLeast, HasRoomIn}
use Rattle.dcc_frames.proofs.arguments.most_room.Given as goal

abbrev pub invariant-loop-step : goal.invariant-loop-step
invariant-loop-step l = IsLeast (HasRoomIn l.framed l.removed (take l.step-index l.steps)) l.count
