-- The global variables of a program's text.
use Rattle.std.specs.Prelude.{◌≡◌, ℕ, true, List}
use Rattle.std.specs.List.{AllZip, list_all}
use Rattle.dcc_machine.specs.declared.cpu.Cpu.{Cpu}
use Rattle.dcc_machine.specs.declared.image.Image.{Image}
use Rattle.dcc_prog.specs.declared.frame.Program.{Program as Analysed}
use Rattle.dcc_prog.specs.declared.procedure.Proc.{Proc}
use Rattle.dcc_prog.specs.Analysed.{IsProgramOf}
use Rattle.dcc_lift.specs.Translation.{data_image}
use Rattle.dcc_ir.specs.Run as inner_run
use Rattle.dcc_ir.specs.Tree as inner
use Rattle.dcc_c.specs.Run as text_run
use Rattle.dcc_c.specs.Tree.{Global, Tree}
use Rattle.dcc_c.specs.Types.{size_of}
use Rattle.dcc_c.proofs.Writable.{is_writable_global}
use Rattle.dcc_variables.specs.Globals.{HaveNames}
use Rattle.dcc_globals.specs.Globals.{globals_of}
use Rattle.dcc_globals.specs.Laws.{AreAllowed, data_in}
use Rattle.dcc_globals.specs.Pieces.{Data, operands_of}

-- the global variables for the data segment of a program, as the memory operands of these procedures access it
abbrev pub globals_in : List Proc → inner.Program → List Global
globals_in procs p = globals_of (data_in p (operands_of procs))

-- A text of the program may declare the global variables: they are allowed beside its stack, have names of their own and
-- can be written, and with them the first memory is the program's.
pub record AreGlobalsFor (p : inner.Program) (globals : List Global) : Type 0 where
  pub allowed : AreAllowed p.lo p.hi globals
  pub names : HaveNames globals
  pub writable : list_all is_writable_global globals ≡ true
  pub memory :
      (tree : Tree) (fill : ℕ) → tree.lo ≡ p.lo → tree.hi ≡ p.hi → tree.globals ≡ globals
      → text_run.first_memory tree fill ≡ inner_run.first_memory p fill

-- the data segment of an analysed program: the bytes of the image in it, its stack, and the memory operands of all
-- instructions
abbrev pub data_of : Image → Analysed → Data
data_of image program = record {
  bytes = data_image image program.layout;
  lo = program.layout.lo;
  hi = program.layout.hi;
  operands = operands_of program.procs.items;
}

-- the second global variable has the first one's name, place, size and initial values, whatever sign its type has
pub record IsGlobalAs (g h : Global) : Type 0 where
  pub name : h.name ≡ g.name
  pub at : h.at ≡ g.at
  pub len : h.len ≡ g.len
  pub size : size_of h.type ≡ size_of g.type
  pub init : h.init ≡ g.init

-- the tree's global variables are just those for the data segment of the program that is found in the image on the
-- processor, but for the signs of their types
pub record HasGlobals (cpu : Cpu) (image : Image) (tree : Tree) : Type 0 where
  pub program : Analysed
  pub is_program : IsProgramOf cpu image program
  pub globals : AllZip IsGlobalAs (globals_of (data_of image program)) tree.globals
