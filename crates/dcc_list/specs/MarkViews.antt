-- What the code that writes a listing keeps: marks of what begins where, and lines that it has appended. No public
-- contract rests on this.
use Rattle.std.specs.Prelude.{◌≡◌, ◌≤◌, ℕ, List, [], ◌∷◌, ◌++◌, length, drop, Bool, true, false, ◌||◌, slice_index_or}
use Rattle.std.specs.Prelude.{Some}
use Rattle.dcc_machine.specs.declared.cpu.Cpu.{Cpu}
use Rattle.dcc_machine.specs.declared.image.Image.{Image}
use Rattle.dcc_machine.specs.declared.instr.Instr.{Instr}
use Rattle.dcc_machine.specs.Code.{code_of}
use Rattle.dcc_machine.specs.Table.{instruction_at}
use Rattle.dcc_prog.specs.declared.frame.Program.{Program}
use Rattle.dcc_prog.specs.Layout.{IsRun, offset_after}
use Rattle.dcc_list.specs.declared.marks.Marks.{Marks}
use Rattle.dcc_list.specs.Text.{text_of}
use Rattle.dcc_list.specs.Listed.{is_among, offsets_from, is_listed, is_target, offset_of, Lists}

-- each procedure has its frame and what its RET removes, and the data lies above the code
pub record IsWhole (image : Image) (program : Program) : Type 0 where
  pub frames : length program.procs.items ≡ length program.cells.frames.items
  pub removed : length program.procs.items ≡ length program.heights.ret.items
  pub code_below : image.cs ≤ program.layout.ds

-- there is a mark for each offset
pub record IsSized (marks : Marks) : Type 0 where
  pub listed : length marks.listed.items ≡ 65536
  pub targets : length marks.targets.items ≡ 65536

-- the marks tell for each offset whether an instruction begins there and whether one jumps there
pub record AreMarks (image : Image) (program : Program) (prelude : List Instr) (marks : Marks) : Type 0 where
  pub listed : (at : ℕ) → slice_index_or marks.listed.items at false ≡ is_listed image program prelude at
  pub targets : (at : ℕ) → slice_index_or marks.targets.items at false ≡ is_target program at

-- the marks are right, and an instruction stands at each marked offset
pub record IsReady (image : Image) (program : Program) (prelude : List Instr) (marks : Marks) : Type 0 where
  pub right : AreMarks image program prelude marks
  pub stand :
      (at : ℕ) → is_listed image program prelude at ≡ true
      → (instr : Instr) × (instruction_at program.layout.cpu at (drop at (code_of image)) ≡ Some instr)

-- an instruction of the prelude or of a procedure stands at a place, which has this offset
pub record StandsThere (image : Image) (program : Program) (prelude : List Instr) (place at : ℕ) (instr : Instr)
    : Type 0 where
  pub offset : offset_of image.cs place ≡ Some at
  pub listed : is_listed image program prelude at ≡ true
  pub stands : instruction_at program.layout.cpu at (drop at (code_of image)) ≡ Some instr

-- instructions of a prelude are left to mark, from an offset up to where the entry procedure begins
pub record IsLeft (cpu : Cpu) (code : List ℕ) (at start : ℕ) (now then : List Bool) (offsets : List ℕ) : Type 0 where
  pub rest : List Instr
  pub run : IsRun cpu code at rest
  pub ends : offset_after at rest ≡ start
  pub marked :
      (k : ℕ) → slice_index_or now k false || is_among k (offsets_from at rest)
      ≡ slice_index_or then k false || is_among k offsets

-- a line of a kind is appended
pub record AppendsLine (IsOfKind : List ℕ → Type 0) (old new : List ℕ) : Type 0 where
  pub line : List ℕ
  pub is : IsOfKind line
  pub appended : new ≡ old ++ text_of (line ∷ [])

-- the lines of the image's bytes between two places are appended
pub record Advances (image : Image) (program : Program) (prelude : List Instr) (place end : ℕ) (old new : List ℕ)
    : Type 0 where
  pub lines : List (List ℕ)
  pub appended : new ≡ old ++ text_of lines
  pub within : end ≤ length image.bytes.items
  pub lists :
      (others : List (List ℕ)) → Lists image program prelude end others
      → Lists image program prelude place (lines ++ others)
