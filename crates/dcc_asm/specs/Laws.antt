-- Laws of the assembler, for every text, image and program.
use Rattle.std.specs.Prelude.{◌≡◌, ◌≤◌, ℕ, List, length}
use Rattle.dcc_machine.specs.declared.image.Image.{Image}
use Rattle.dcc_machine.specs.declared.instr.Instr.{Instr}
use Rattle.dcc_machine.specs.MzImage.{IsLoaded}
use Rattle.dcc_prog.specs.declared.frame.Program.{Program}
use Rattle.dcc_prog.specs.Analysed.{IsProgramOf}
use Rattle.dcc_list.specs.Text.{StandsFor}
use Rattle.dcc_list.specs.Listed.{IsListing}
use Rattle.dcc_asm.specs.declared.fault.ListKind.{ListKind}
use Rattle.dcc_asm.specs.Fault.{text_most, IsAssembled, IsFirstFault}
use Rattle.dcc_asm.specs.Instructions.{IsInstructionOf, HasInstructionLine, IsInside}

-- a text is a listing of one list of bytes at most
abbrev pub BytesAreUnique : Type 0
BytesAreUnique = (text bytes others : List ℕ) → StandsFor text bytes → StandsFor text others → bytes ≡ others

-- one line at most is the first one that offends, and it offends in one way
abbrev pub FaultIsUnique : Type 0
FaultIsUnique =
    (text : List ℕ) (line other : ℕ) (kind other_kind : ListKind)
    → IsFirstFault text line kind → IsFirstFault text other other_kind → (line ≡ other) × (kind ≡ other_kind)

-- no line offends in a text that is assembled
abbrev pub AssembledHasNoFault : Type 0
AssembledHasNoFault =
    (text bytes : List ℕ) (line : ℕ) (kind : ListKind) → IsAssembled text bytes → ¬ IsFirstFault text line kind

-- the listing of a program's image is assembled to the image's bytes, unless it is too long
abbrev pub ListingIsAssembled : Type 0
ListingIsAssembled =
    (image : Image) (program : Program) (text : List ℕ) → IsLoaded image → IsListing image program text
    → length text ≤ text_most → IsAssembled text image.bytes.items

-- a program has one instruction at most at an offset
abbrev pub ProgramHasOneInstruction : Type 0
ProgramHasOneInstruction =
    (image : Image) (program : Program) (at : ℕ) (instr other : Instr) → IsLoaded image
    → IsProgramOf program.layout.cpu image program → IsInstructionOf image program at instr
    → IsInstructionOf image program at other → instr ≡ other

-- each instruction line of a program's listing tells the program's instruction at its offset
abbrev pub InstructionLinesAreOfProgram : Type 0
InstructionLinesAreOfProgram =
    (image : Image) (program : Program) (text : List ℕ) (at : ℕ) (instr : Instr) → IsLoaded image
    → IsProgramOf program.layout.cpu image program → IsListing image program text → HasInstructionLine text at instr
    → IsInstructionOf image program at instr

-- no instruction line of a listing begins inside another one's instruction
abbrev pub InstructionLinesAreApart : Type 0
InstructionLinesAreApart =
    (text : List ℕ) (at : ℕ) (instr : Instr) → HasInstructionLine text at instr → ¬ IsInside text at

-- each other instruction of the program has its instruction line
abbrev pub InstructionsHaveLines : Type 0
InstructionsHaveLines =
    (image : Image) (program : Program) (text : List ℕ) (at : ℕ) (instr : Instr) → IsLoaded image
    → IsProgramOf program.layout.cpu image program → IsListing image program text
    → IsInstructionOf image program at instr → ¬ IsInside text at → HasInstructionLine text at instr
