-- What the code keeps of frames: the exposed bytes and the arguments of each, by the offset where its procedure begins.
use Rattle.std.specs.Prelude.{ℕ, ◌+◌, ◌*◌, nat_le, ℤ, pos, ◌-ℤ◌, neg_ℤ, int_le, int_lt, Bool, false, not, ◌&&◌, ◌||◌}
use Rattle.std.specs.Prelude.{if◌then◌else◌, List, [], ◌∷◌, replicate, slice_set, Some, None}
use Rattle.dcc_prog.specs.declared.procedure.Proc.{Proc}
use Rattle.dcc_prog.specs.declared.frame.Frame.{Frame}
use Rattle.dcc_prog.specs.Clean.{LiveFrame}
use Rattle.dcc_watch.specs.declared.shape.Shape.{Shape}
use Rattle.dcc_watch.specs.declared.shape.TheConstants.{NO_SHAPE, OFFSETS}
use Rattle.dcc_watch.specs.declared.frames.Live.{Live}

abbrev pub shape_of : Frame → Shape
shape_of frame = record { args = frame.args; exposed = frame.exposed }

-- no procedure begins anywhere
unfoldable pub no_shapes : List Shape
no_shapes = replicate OFFSETS NO_SHAPE

-- for each offset the shape of the first of the frames whose procedure begins there
abbrev pub shapes_of : List Proc → List Frame → List Shape
shapes_of (proc ∷ procs) (frame ∷ frames) = slice_set (shapes_of procs frames) proc.entry (shape_of frame)
shapes_of _ _ = no_shapes

abbrev pub exposes_argument : Shape → ℤ → Bool
exposes_argument shape k = elim shape.exposed.arg [
  | None ↦ false
  | Some least ↦ int_le (pos least) k && int_lt k (pos (4 + 2 * shape.args))
]

-- the frame exposes the byte at `k` bytes from its base less 4
abbrev pub exposes : Shape → ℤ → Bool
exposes shape k = (int_le (neg_ℤ (pos shape.exposed.local)) k && int_lt k (pos 0)) || exposes_argument shape k

abbrev pub live_frame : Live → LiveFrame
live_frame live = record { entry = live.entry; base = live.base }

-- the offset after a frame's arguments
abbrev pub end_of : Live → ℕ
end_of live = live.base + 2 * live.shape.args

-- The newest frame whose part holds the byte exposes it. A frame's part reaches from where SP stands, or from the base
-- of the next newer frame, up to the end of its arguments.
abbrev pub exposed_in : ℕ → List Live → ℕ → Bool
exposed_in low [] offset = false
exposed_in low (live ∷ older) offset =
    if nat_le low offset && not (nat_le (end_of live) offset) then exposes live.shape (pos (offset + 4) -ℤ pos live.base)
    else exposed_in live.base older offset
