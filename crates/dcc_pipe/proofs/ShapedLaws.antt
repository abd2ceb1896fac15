-- A text has as many functions as its program has procedures, and the first that lacks its shape is a procedure's.
use Rattle.std.proofs.Common.{◌≡◌, ℕ, suc, ◌<◌, List, [], ◌∷◌, length, refl, sym, ap, ◌∙◌, arith}
use Rattle.std.specs.List.{AllZip}
use Rattle.std.proofs.lemmas.Slice.Zip.{AllZip-long}
use Rattle.dcc_machine.specs.declared.cpu.Cpu.{Cpu}
use Rattle.dcc_machine.specs.declared.image.Image.{Image}
use Rattle.dcc_prog.specs.declared.procedure.Layout.{Layout}
use Rattle.dcc_prog.specs.declared.procedure.Proc.{Proc}
use Rattle.dcc_prog.specs.declared.frame.Frame.{Frame}
use Rattle.dcc_prog.specs.declared.frame.Program.{Program as Analysed}
use Rattle.dcc_prog.specs.Analysed.{IsFrameOf, IsProgramOf}
use Rattle.dcc_prog.specs.Refused.{IsRefusedByAnalysis}
use Rattle.dcc_machine_demand.specs.Refused.{IsAcceptedProgram, by_analysis}
use Rattle.dcc_simulation.specs.Procedures.{procedures_of}
use Rattle.dcc_simulation.specs.Nodes.{procedures_in}
use Rattle.dcc_c.specs.Tree.{Function, Tree}
use Rattle.dcc_c.specs.Written.{written_form}
use Rattle.dcc_shape.specs.Shape.{LacksShape, no_function, no_procedure, here, later}
use Rattle.dcc_pipe.specs.Agreement.{IsTextOf}
use Rattle.dcc_pipe.specs.declared.no_text.NoText.{NoText}
use Rattle.dcc_pipe.specs.declared.no_text.NoText.TheVariants.{Refused, NotYet}
use Rattle.dcc_pipe.specs.Shaped.{IsMadeOf, HasNoTextFor, LacksFirst}

as-many : (image : Image) (layout : Layout) (procs : List Proc) (frames : List Frame)
    → AllZip (IsFrameOf image layout) procs frames → length (procedures_of layout procs frames) ≡ length procs
as-many image layout [] frames framed = refl
as-many image layout (proc ∷ procs) [] framed = absurd framed
as-many image layout (proc ∷ procs) (frame ∷ frames) framed = ap suc (as-many image layout procs frames framed.1)

-- functions that have the frames of a program's procedures are as many as these
pub functions-as_many : (cpu : Cpu) (image : Image) (program : Analysed) (functions : List Function)
    → IsProgramOf cpu image program → length (procedures_in program) ≡ length functions
    → length program.procs.items ≡ length functions
functions-as_many cpu image program functions is same =
    sym (as-many image program.layout program.procs.items program.cells.frames.items is.cells.frames) ∙ same

-- there is a frame for each procedure
pub frames-as_many : (cpu : Cpu) (image : Image) (program : Analysed) → IsProgramOf cpu image program
    → length program.procs.items ≡ length program.cells.frames.items
frames-as_many cpu image program is =
    sym (AllZip-long (IsFrameOf image program.layout) program.procs.items program.cells.frames.items is.cells.frames)

-- where there is a function for each procedure, what lacks its shape is a procedure's
pub lacking-within : (i : ℕ) (procs : List (Proc × Frame)) (functions : List Function) → length procs ≡ length functions
    → LacksShape i procs functions → i < length procs
lacking-within _ _ _ same no_function = absurd (omega (arith, same))
lacking-within _ _ _ same no_procedure = absurd (omega (arith, same))
lacking-within _ _ _ same (here lacks) = omega arith
lacking-within _ _ _ same (later {procs = procs} {functions = functions} {i = i} has lacks) =
    let fewer = lacking-within i procs functions (omega (arith, same)) lacks in omega (arith, fewer)

-- an accepted image has no text for what its text lacks
pub lacking-unshaped : (cpu : Cpu) (image : Image) (program : Analysed) (tree : Tree) → IsAcceptedProgram cpu image
    → IsProgramOf cpu image program → IsMadeOf image program tree → IsTextOf cpu image (written_form tree) tree
    → (reason : NoText)
    → LacksFirst program tree reason → HasNoTextFor cpu image reason
lacking-unshaped cpu image program tree accepted is made text (NotYet at) lacks = record {
  accepted = accepted;
  program = program;
  is_program = is;
  tree = tree;
  is_made = made;
  is_text = text;
  lacks = lacks;
}
lacking-unshaped cpu image program tree accepted is made text (Refused refusal) memory =
    rw memory (by_analysis IsRefusedByAnalysis.no_memory)
