-- How the lifted program stands for the machine's procedures: its points for instructions, its locations for halves,
-- flags and bytes of cells.
use Rattle.std.specs.Prelude.{◌≡◌, ◌==◌, ℕ, ℤ, true, List, [], ◌∷◌, find, Option, Some, None}
use Rattle.dcc_num.specs.declared.Width.TheVariants.{Byte as byte_width}
use Rattle.dcc_prog.specs.declared.frame.Program.{Program as Analysed}
use Rattle.dcc_machine.specs.Wanted.{Location, half_of, flag_of}
use Rattle.dcc_ir.specs.declared.syntax.Loc.{Loc}
use Rattle.dcc_ir.specs.declared.syntax.Loc.TheVariants.{Half, Flag}
use Rattle.dcc_ops.specs.OperandPlace.{byte}
use Rattle.dcc_simulation.specs.Procedures.{Procedure, procedure_at, frame_place, pushed_of}
use Rattle.dcc_simulation.specs.Nodes.{procedures_in}
use Rattle.dcc_machine_demand.specs.Holders.{Holder, held, in_frame, passes}
use Rattle.dcc_sums.specs.Points.{Position, begin_of}
use Rattle.dcc_sums.specs.Instance.{is_pushed}
use Rattle.dcc_lift.specs.Blocks.{BlockSource, entry_in}
use Rattle.dcc_lift.specs.Translation.{program_scenes}
use Rattle.dcc_refinement.specs.Refinement.{Refinement}
use Rattle.dcc_lifted_demand.specs.InstructionPoints.{begin_at, points_at}

-- a half or a flag of the machine
abbrev pub inner_of : Location → Loc
inner_of (half_of r half) = Half r half
inner_of (flag_of flag) = Flag flag

-- A place of the machine's procedure and a location of its graph are one: a half or a flag that passes between
-- procedures, or the byte of a cell that is not in memory.
pub data IsSame (p : Option Procedure) : Holder → Loc → Type 0 where
  is_held : {location : Location} → passes (held location) ≡ true → IsSame p (held location) (inner_of location)
  is_kept : {found : Procedure} {k : ℤ} {location : Loc} → p ≡ Some found
      → frame_place found byte_width k ≡ byte location → IsSame p (in_frame k) location

-- the byte of the stack stands in the location, in a cell that only pushes, pops and calls use
pub record IsSameWord (p : Option Procedure) (k : ℤ) (location : Loc) : Type 0 where
  pub found : Procedure
  pub is_found : p ≡ Some found
  pub kept : frame_place found byte_width k ≡ byte location
  pub pushed : is_pushed (pushed_of found) location ≡ true

-- what the blocks of each procedure are made of
abbrev pub scenes_in : Analysed → List BlockSource
scenes_in program = program_scenes program.layout program.procs.items program.heights program.cells

-- what the blocks of the procedure with that entry are made of
abbrev pub scene_at : List BlockSource → ℕ → Option BlockSource
scene_at scenes entry = find (λ scene. entry_in scene == entry) scenes

-- the points of an instruction; a procedure that isn't there is one point, which does nothing
abbrev pub steps_in : Option BlockSource → ℕ → List Position
steps_in None at = begin_of 0 ∷ []
steps_in (Some scene) at = points_at scene at

abbrev pub begin_in : Option BlockSource → ℕ → Position
begin_in None at = begin_of 0
begin_in (Some scene) at = begin_at scene at

abbrev pub lifted_refinement : Analysed → Refinement ℕ Holder ℤ Position Loc Loc
lifted_refinement program = record {
  steps = λ entry. steps_in (scene_at (scenes_in program) entry);
  begin = λ entry. begin_in (scene_at (scenes_in program) entry);
  same = λ entry. IsSame (procedure_at (procedures_in program) entry);
  same_word = λ entry. IsSameWord (procedure_at (procedures_in program) entry);
}
