-- Texts of the shape that procedures ask for, and images that have none.
use Rattle.std.specs.Prelude.{◌≡◌, ℕ, List, Some, option_map, slice_get}
use Rattle.std.specs.List.{zip}
use Rattle.dcc_machine.specs.declared.cpu.Cpu.{Cpu}
use Rattle.dcc_machine.specs.declared.image.Image.{Image}
use Rattle.dcc_prog.specs.declared.frame.Frame.{Frame}
use Rattle.dcc_prog.specs.declared.frame.Program.{Program as Analysed}
use Rattle.dcc_prog.specs.declared.procedure.Proc.{Proc}
use Rattle.dcc_prog.specs.declared.refusal.Refusal.TheVariants.{Memory}
use Rattle.dcc_prog.specs.Analysed.{IsProgramOf}
use Rattle.dcc_machine_demand.specs.Refused.{IsAcceptedProgram, IsRefusedFor}
use Rattle.dcc_ir.specs.Tree.{Program}
use Rattle.dcc_lift.specs.Lifted.{IsLiftOf}
use Rattle.dcc_c.specs.Numbered.{numbered}
use Rattle.dcc_c.specs.Tree.{Tree}
use Rattle.dcc_c.specs.Written.{written_form}
use Rattle.dcc_shape.specs.Shape.{HaveShape, LacksShape}
use Rattle.dcc_pipe.specs.Agreement.{IsTextOf}
use Rattle.dcc_pipe.specs.Finished.{finished}
use Rattle.dcc_pipe.specs.GlobalData.{globals_in}
use Rattle.dcc_pipe.specs.Prepared.{IsPrepared}
use Rattle.dcc_pipe.specs.Simplified.{HasEachChanged}
use Rattle.dcc_tidy.specs.Tidied.{IsTidiedGraph}
use Rattle.dcc_pipe.specs.WholeText.{IsWholeText}
use Rattle.dcc_pipe.specs.declared.no_text.NoText.{NoText}
use Rattle.dcc_pipe.specs.declared.no_text.NoText.TheVariants.{Refused, NotYet}

-- the procedures of a program, each with its frame
abbrev pub asked_of : Analysed → List (Proc × Frame)
asked_of program = zip program.procs.items program.cells.frames.items

-- the functions of the tree have the shape that the procedures ask for which are found in the image on the processor
pub record HasShape (cpu : Cpu) (image : Image) (tree : Tree) : Type 0 where
  pub program : Analysed
  pub is_program : IsProgramOf cpu image program
  pub functions : HaveShape (asked_of program) tree.functions

-- the first procedure whose function lacks the shape that it asks for has this entry
pub record LacksShapeAt (program : Analysed) (tree : Tree) (at : ℕ) : Type 0 where
  pub number : ℕ
  pub lacks : LacksShape number (asked_of program) tree.functions
  pub entry : option_map (λ (proc : Proc). proc.entry) (slice_get program.procs.items number) ≡ Some at

-- The tree is that of a text that is made of the program in the image: the program is lifted and prepared, what all
-- passes leave of it is written with a plan for each graph, the text is finished, and its lines are counted.
pub record IsMadeOf (image : Image) (program : Analysed) (tree : Tree) : Type 0 where
  pub lifted : Program
  pub is_lifted : IsLiftOf image program lifted
  pub ready : Program
  pub is_ready : IsPrepared lifted ready
  pub tidy : Program
  pub ids : List ℕ
  pub is_tidy : HasEachChanged (IsTidiedGraph ids) ready tidy
  pub plain : Tree
  pub is_text : IsWholeText (globals_in program.procs.items tidy) tidy plain
  pub is : tree ≡ numbered (finished plain)

-- Nothing refuses the image, and a text that is made of the program in it, and agrees with it, lacks its shape first in
-- the function of the procedure with this entry.
pub record IsUnshaped (cpu : Cpu) (image : Image) (at : ℕ) : Type 0 where
  pub accepted : IsAcceptedProgram cpu image
  pub program : Analysed
  pub is_program : IsProgramOf cpu image program
  pub tree : Tree
  pub is_made : IsMadeOf image program tree
  pub is_text : IsTextOf cpu image (written_form tree) tree
  pub lacks : LacksShapeAt program tree at

-- why no text is given of the image on this processor: it is refused, or a text that is made of it lacks its shape
abbrev pub HasNoTextFor : Cpu → Image → NoText → Type 0
HasNoTextFor cpu image (Refused refusal) = IsRefusedFor cpu image refusal
HasNoTextFor cpu image (NotYet at) = IsUnshaped cpu image at

-- why the tree is no text of the program: a function lacks its shape, or memory ran out before this was known
abbrev pub LacksFirst : Analysed → Tree → NoText → Type 0
LacksFirst program tree (NotYet at) = LacksShapeAt program tree at
LacksFirst program tree (Refused refusal) = refusal ≡ Memory
