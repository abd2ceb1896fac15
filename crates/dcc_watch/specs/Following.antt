-- What a step does to the frames and the marks that the code keeps.
use Rattle.std.specs.Prelude.{ℕ, ◌+◌, Bool, true, false, List, ◌∷◌, drop, slice_index_or, Option, Some, None}
use Rattle.dcc_prog.specs.declared.procedure.Layout.{Layout}
use Rattle.dcc_machine.specs.declared.instr.Op.{Op}
use Rattle.dcc_machine.specs.declared.instr.Op.TheVariants.{Call, Ret}
use Rattle.dcc_machine.specs.declared.instr.Instr.{Instr}
use Rattle.dcc_machine.specs.Access.{Access}
use Rattle.dcc_machine.specs.Machine.{State}
use Rattle.dcc_prog.specs.Clean.{top_in, written_after}
use Rattle.dcc_watch.specs.declared.shape.Shape.{Shape}
use Rattle.dcc_watch.specs.declared.shape.TheConstants.{NO_SHAPE}
use Rattle.dcc_watch.specs.declared.frames.Live.{Live}

-- the frame of the entry procedure, which begins in the given state
abbrev pub first_live : List Shape → Layout → State → Live
first_live shapes layout s =
    record {
      entry = layout.start_ip;
      base = top_in layout s + 2;
      shape =
          slice_index_or shapes layout.start_ip NO_SHAPE;
    }

abbrev pub is_call_op : Op → Bool
is_call_op (Call target) = true
is_call_op op = false

-- the instruction that was found is a CALL
abbrev pub is_call : Option Instr → Bool
is_call None = false
is_call (Some instr) = is_call_op instr.op

-- a CALL begins a frame, and a RET ends one
abbrev pub live_after_op : List Shape → Op → ℕ → List Live → List Live
live_after_op shapes (Call target) top live =
    record { entry = target; base = top; shape = slice_index_or shapes target NO_SHAPE } ∷ live
live_after_op shapes (Ret count) top live = drop 1 live
live_after_op shapes op top live = live

abbrev pub live_after : List Shape → Option Instr → ℕ → List Live → List Live
live_after shapes None top live = live
live_after shapes (Some instr) top live = live_after_op shapes instr.op top live

-- the marks after the step of an instruction that was found, by its accesses and by where SP stood and stands
abbrev pub written_following : Layout → Option Instr → List Access → ℕ → ℕ → List Bool → List Bool
written_following layout None list from to written = written
written_following layout (Some instr) list from to written = written_after layout list from to written
