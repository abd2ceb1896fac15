-- The instructions of a program, and those that a listing tells, each at its offset in the code segment.
use Rattle.std.specs.Prelude.{◌≡◌, ◌<◌, ◌⊎◌, ℕ, ◌+◌, List, [], ◌∷◌, length, Contains}
use Rattle.dcc_machine.specs.declared.cpu.Cpu.{Cpu}
use Rattle.dcc_machine.specs.declared.image.Image.{Image}
use Rattle.dcc_machine.specs.declared.instr.Op.{Op}
use Rattle.dcc_machine.specs.declared.instr.Instr.{Instr}
use Rattle.dcc_machine.specs.Code.{code_of}
use Rattle.dcc_prog.specs.declared.procedure.Node.{Node}
use Rattle.dcc_prog.specs.declared.procedure.Proc.{Proc}
use Rattle.dcc_prog.specs.declared.frame.Program.{Program}
use Rattle.dcc_prog.specs.Layout.{IsPrelude}
use Rattle.dcc_encode.specs.Encoding.{IsEncoding, IsStandard}
use Rattle.dcc_list.specs.Text.{IsOffset, operation_line, odd_line, Gives, StandsFor}

-- Of a program -------------------------------------------------------------------------------

-- of instructions that stand one after another from an offset on, this one begins at the second offset
abbrev pub IsAmong : ℕ → List Instr → ℕ → Instr → Type 0
IsAmong from [] at instr = ⊥
IsAmong from (first ∷ rest) at instr = ((from ≡ at) × (first ≡ instr)) ⊎ IsAmong (from + first.len) rest at instr

-- the prelude or a procedure of the program has the instruction at the offset
pub data IsInstructionOf (image : Image) (program : Program) (at : ℕ) (instr : Instr) : Type 0 where
  of_prelude :
      (prelude : List Instr)
      → IsPrelude program.layout.cpu (code_of image) image.ip prelude
      → IsAmong image.ip prelude at instr
      → IsInstructionOf image program at instr
  of_procedure :
      (proc : Proc) (node : Node)
      → Contains program.procs.items proc
      → Contains proc.nodes.entries (at, node)
      → node.instr ≡ instr
      → IsInstructionOf image program at instr

-- Of a listing -------------------------------------------------------------------------------

-- an instruction line, which stands after that many bytes of an image: it tells the operation of these bytes at the
-- offset
pub data TellsInstruction (cpu : Cpu) (cs place at : ℕ) (op : Op) (bytes : List ℕ) : List ℕ → Type 0 where
  standard :
      IsOffset cs place at → IsStandard cpu at op bytes → TellsInstruction cpu cs place at op bytes (operation_line op)
  odd :
      IsOffset cs place at
      → IsEncoding cpu at op bytes
      → ¬ IsStandard cpu at op bytes
      → TellsInstruction cpu cs place at op bytes (odd_line bytes op)

-- an instruction line among the lines, which stand after that many bytes
abbrev pub TellInstruction : Cpu → ℕ → ℕ → Op → List ℕ → ℕ → List (List ℕ) → Type 0
TellInstruction cpu cs at op bytes place [] = ⊥
TellInstruction cpu cs at op bytes place (line ∷ lines) =
    TellsInstruction cpu cs place at op bytes line
    ⊎ ((told : List ℕ) × (Gives cpu cs place line told)
    × TellInstruction cpu cs at op bytes (place + length told) lines)

-- an instruction line of the listing tells the operation of these bytes at the offset
pub record HasInstruction (text : List ℕ) (at : ℕ) (op : Op) (bytes : List ℕ) : Type 0 where
  pub image : List ℕ
  pub stands : StandsFor text image
  pub told : TellInstruction stands.cpu stands.cs at op bytes 0 stands.lines

-- an instruction line of the listing tells the instruction at the offset
pub record HasInstructionLine (text : List ℕ) (at : ℕ) (instr : Instr) : Type 0 where
  pub bytes : List ℕ
  pub length_is : instr.len ≡ length bytes
  pub has : HasInstruction text at instr.op bytes

-- the offset lies inside an instruction of the listing, behind its first byte
pub record IsInside (text : List ℕ) (at : ℕ) : Type 0 where
  pub start : ℕ
  pub instr : Instr
  pub has : HasInstructionLine text start instr
  pub behind : start < at
  pub before : at < start + instr.len
