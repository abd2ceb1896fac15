-- Stack heights, frames and the whole of a program as they are found.
use Rattle.std.specs.Prelude.{◌≡◌, ℕ, pos, ◌<ℤ◌, List, map, Contains, All, AllPairs}
use Rattle.std.specs.List.{AllZip}
use Rattle.dcc_machine.specs.declared.cpu.Cpu.{Cpu}
use Rattle.dcc_machine.specs.declared.image.Image.{Image}
use Rattle.dcc_prog.specs.declared.procedure.Layout.{Layout}
use Rattle.dcc_prog.specs.declared.procedure.Proc.{Proc}
use Rattle.dcc_prog.specs.declared.frame.Cell.{Cell}
use Rattle.dcc_prog.specs.declared.frame.Frame.{Frame}
use Rattle.dcc_prog.specs.declared.frame.Heights.{Heights}
use Rattle.dcc_prog.specs.declared.frame.Cells.{Cells}
use Rattle.dcc_prog.specs.declared.frame.Program.{Program}
use Rattle.dcc_prog.specs.Layout.{HasLayout}
use Rattle.dcc_prog.specs.FrameForm.{is_framed}
use Rattle.dcc_prog.specs.Height.{IsRemoved, IsHeight}
use Rattle.dcc_prog.specs.Frame.{Span, span_of, HasArguments, IsCell, HasExposedLocal, HasExposedArguments}
use Rattle.dcc_prog.specs.Found.{AreFound}
use Rattle.dcc_prog.specs.Refused.{IsAcceptedByHeights, IsAcceptedByFrames}

-- the height of each node of a procedure, in the order of its nodes
pub record AreHeightsOf (image : Image) (layout : Layout) (proc : Proc) (heights : List (ℕ × ℕ)) : Type 0 where
  pub nodes : map (λ found. found.0) heights ≡ map (λ node. node.0) proc.nodes.entries
  pub each : All (λ found. IsHeight image layout proc.entry found.0 (pos found.1)) heights

-- for each procedure the heights of its nodes and the bytes that a CALL of it removes; no construct that heights tell
-- stands anywhere
pub record AreHeights (image : Image) (layout : Layout) (procs : List Proc) (heights : Heights) : Type 0 where
  pub at : AllZip (λ proc found. AreHeightsOf image layout proc found.entries) procs heights.at.items
  pub removed : AllZip (λ proc bytes. IsRemoved image layout proc.entry bytes) procs heights.ret.items
  pub accepted : IsAcceptedByHeights image layout

-- the bytes of a cell
abbrev pub bytes_of : Cell → Span
bytes_of cell = span_of cell.first cell.size

-- a procedure's frame: its arguments, just its cells in ascending order, and its exposed bytes
pub record IsFrameOf (image : Image) (layout : Layout) (proc : Proc) (frame : Frame) : Type 0 where
  pub framed : frame.framed ≡ is_framed image layout proc.entry
  pub arguments : HasArguments image layout proc.entry frame.args
  pub cells : All (λ cell. IsCell image layout proc.entry (bytes_of cell)) frame.cells.items
  pub ascending : AllPairs (λ (a b : Cell). a.first <ℤ b.first) frame.cells.items
  pub every : (cell : Span) → IsCell image layout proc.entry cell → Contains (map bytes_of frame.cells.items) cell
  pub local : HasExposedLocal image layout proc.entry frame.exposed.local
  pub argument : HasExposedArguments image layout proc.entry frame.exposed.arg

-- the frame of each procedure; no construct that frames tell stands anywhere, and none of their counts is too great
pub record AreFrames (image : Image) (layout : Layout) (procs : List Proc) (cells : Cells) : Type 0 where
  pub frames : AllZip (IsFrameOf image layout) procs cells.frames.items
  pub accepted : IsAcceptedByFrames image layout

-- all that the analyses find in an image on a processor
pub record IsProgramOf (cpu : Cpu) (image : Image) (program : Program) : Type 0 where
  pub runs_on : program.layout.cpu ≡ cpu
  pub layout : HasLayout image program.layout
  pub procs : AreFound image program.layout program.procs.items
  pub heights : AreHeights image program.layout program.procs.items program.heights
  pub cells : AreFrames image program.layout program.procs.items program.cells
