use Rattle.std.proofs.Common.{sym, subst}
use Rattle.dcc_frames.specs.Arguments.{IsLeast, HasRoomFor}
use Rattle.dcc_frames.proofs.Rooms.{least-room}
use Rattle.dcc_frames.proofs.arguments.room.Goals as goal

pub returns : goal.returns
returns c =
    subst (IsLeast (HasRoomFor c.args.framed c.args.step)) (sym c.max.ensures)
    (least-room c.args.framed c.args.step c.access_room.result c.start_room.result c.access_room.ensures
    c.start_room.ensures)
