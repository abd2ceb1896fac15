-- What `procs` writes of a program: a line for each procedure.
use Rattle.std.specs.Prelude.{◌≡◌, ℕ, List, [], ◌∷◌, ◌++◌, length, codes}
use Rattle.std.specs.Fmt.{decimal}
use Rattle.dcc_machine.specs.declared.cpu.Cpu.{Cpu}
use Rattle.dcc_machine.specs.declared.image.Image.{Image}
use Rattle.dcc_prog.specs.declared.procedure.Proc.{Proc}
use Rattle.dcc_prog.specs.declared.frame.Frame.{Frame}
use Rattle.dcc_prog.specs.declared.frame.Program.{Program}
use Rattle.dcc_prog.specs.Analysed.{IsProgramOf}
use Rattle.dcc_prog.specs.Refused.{IsSound}
use Rattle.dcc_top.specs.declared.procedures.Summary.{Summary}
use Rattle.dcc_top.specs.Offset.{hex_offset}

-- what is told of a procedure: its entry, how many instructions it has, how many argument words its frame, and how many
-- bytes its RET removes
abbrev pub summary_of : Proc → Frame → ℕ → Summary
summary_of proc frame removed =
    record { entry = proc.entry; nodes = length proc.nodes.entries; args = frame.args; ret = removed }

-- how what is told of a procedure is written, as a line
abbrev pub summary_line : Summary → List ℕ
summary_line summary =
    hex_offset summary.entry
    ++ (codes " nodes "
    ++ (decimal summary.nodes
    ++ (codes " args " ++ (decimal summary.args ++ (codes " ret " ++ decimal summary.ret)))))

-- the lines of procedures, with the frame of each and the bytes that its RET removes
abbrev pub lines_of : List Proc → List Frame → List ℕ → List ℕ
lines_of (proc ∷ procs) (frame ∷ frames) (bytes ∷ removed) =
    (summary_line (summary_of proc frame bytes) ++ codes "\n") ++ lines_of procs frames removed
lines_of _ _ _ = []

abbrev pub procedure_lines : Program → List ℕ
procedure_lines program = lines_of program.procs.items program.cells.frames.items program.heights.ret.items

-- each procedure has its frame, and a number of bytes that its RET removes
pub record IsWhole (program : Program) : Type 0 where
  pub frames : length program.procs.items ≡ length program.cells.frames.items
  pub removed : length program.procs.items ≡ length program.heights.ret.items

-- on this processor nothing that the analyses tell stands in the image, and these are the lines of what they find
pub record AreProcedureLinesOf (cpu : Cpu) (image : Image) (lines : List ℕ) : Type 0 where
  pub sound : IsSound cpu image
  pub program : Program
  pub is_program : IsProgramOf cpu image program
  pub listed : lines ≡ procedure_lines program
