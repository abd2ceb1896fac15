-- What is foul of a step, by what the code keeps of frames.
use Rattle.std.specs.Prelude.{ℕ, Bool, not, List, Option, Some, None}
use Rattle.std.specs.List.{find, filter, filter_map, flat_map}
use Rattle.dcc_prog.specs.declared.procedure.Layout.{Layout}
use Rattle.dcc_machine.specs.declared.instr.Instr.{Instr}
use Rattle.dcc_prog.specs.declared.watch.FoulKind.TheVariants.{Low, Hidden, Unwritten}
use Rattle.dcc_machine.specs.Machine.{State}
use Rattle.dcc_machine.specs.Access.{Access, addresses_of, found_accesses}
use Rattle.dcc_prog.specs.Clean as told
use Rattle.dcc_prog.specs.Clean.{stack_offset, is_other, is_reading, is_marked, top_in, sp_after, low_of, foul_as}
use Rattle.dcc_prog.specs.Clean.{or_else}
use Rattle.dcc_watch.specs.declared.frames.Live.{Live}
use Rattle.dcc_watch.specs.declared.judge.Foul.{Foul}
use Rattle.dcc_watch.specs.Shapes.{exposed_in}

-- the first byte of the stack, among those at physical addresses, whose offset passes the test
abbrev pub first_at : Layout → (ℕ → Bool) → List ℕ → Option ℕ
first_at layout so addresses = find so (filter_map (stack_offset layout) addresses)

-- the physical addresses that the accesses of some kind touch
abbrev pub touched : (Access → Bool) → List Access → List ℕ
touched keep list = flat_map addresses_of (filter keep list)

-- the first byte that an access touches and no frame exposes, but for accesses of the stack and of frames
abbrev pub hidden_in : Layout → ℕ → List Live → List Access → Option ℕ
hidden_in layout top live list = first_at layout (λ offset. not (exposed_in top live offset)) (touched is_other list)

-- the first byte that is read and not written
abbrev pub unwritten_in : Layout → List Bool → List Access → Option ℕ
unwritten_in layout written list = first_at layout (λ offset. not (is_marked written offset)) (touched is_reading list)

-- what is foul of the step of an instruction, if one was found
abbrev pub foul_in : Layout → List Live → List Bool → State → Option Instr → Option told.Foul
foul_in layout live written s None = None
foul_in layout live written s (Some instr) =
    or_else (foul_as s.ip Low (low_of layout (sp_after instr.op s)))
    (or_else (foul_as s.ip Hidden (hidden_in layout (top_in layout s) live (found_accesses (Some instr) s)))
    (foul_as s.ip Unwritten (unwritten_in layout written (found_accesses (Some instr) s))))

-- the foul step of the definitions that the code's stands for
abbrev pub told_foul : Foul → told.Foul
told_foul foul = record { at = foul.at; kind = foul.kind; address = foul.address }
