-- Laws of the global variables of a text.
use Rattle.std.specs.Prelude.{◌≡◌, ℕ, ◌<◌, ◌==◌, Bool, true, false, ◌&&◌, ◌||◌, List, [], ◌∷◌, map, All}
use Rattle.std.specs.List.{list_all}
use Rattle.dcc_num.specs.declared.Width.{Width}
use Rattle.dcc_machine.specs.declared.instr.Ea.{Ea}
use Rattle.dcc_ir.specs.Tree as inner
use Rattle.dcc_ir.specs.Run as inner_run
use Rattle.dcc_c.specs.Rules.{allows_global, all_apart, is_off_stack}
use Rattle.dcc_c.proofs.Writable.{is_writable_global}
use Rattle.dcc_c.specs.Run as text_run
use Rattle.dcc_c.specs.Tree.{Word, Global, Tree}
use Rattle.dcc_variables.specs.Globals.{HaveNames}
use Rattle.dcc_globals.specs.Pieces.{Data}
use Rattle.dcc_globals.specs.Globals.{globals_of}

-- The global variables end within memory, have room for what they hold at first, lie apart and off the stack.
pub record AreAllowed (lo hi : ℕ) (globals : List Global) : Type 0 where
  pub allowed : list_all allows_global globals ≡ true
  pub apart : all_apart globals ≡ true
  pub off_stack : list_all (is_off_stack lo hi) globals ≡ true

abbrev pub GlobalsAreAllowed : Type 0
GlobalsAreAllowed = (d : Data) → AreAllowed d.lo d.hi (globals_of d)

-- The global variables have names of their own.
abbrev pub GlobalsHaveNames : Type 0
GlobalsHaveNames = (d : Data) → HaveNames (globals_of d)

-- The written form of a text can hold them.
abbrev pub GlobalsAreWritable : Type 0
GlobalsAreWritable = (d : Data) → All (λ byte. byte < 256) d.bytes → list_all is_writable_global (globals_of d) ≡ true

-- the data segment of a program of the inner language, in which these memory operands stand
abbrev pub data_in : inner.Program → List (Width × Ea) → Data
data_in p operands = record { bytes = p.image; lo = p.lo; hi = p.hi; operands = operands }

-- The first memory of a text with these global variables is the program's, from every fill, whatever the operands.
abbrev pub FirstMemoriesAreEqual : Type 0
FirstMemoriesAreEqual = (p : inner.Program) (operands : List (Width × Ea)) (tree : Tree) (fill : ℕ)
    → All (λ byte. byte < 256) p.image → tree.lo ≡ p.lo → tree.hi ≡ p.hi
    → tree.globals ≡ globals_of (data_in p operands)
    → text_run.first_memory tree fill ≡ inner_run.first_memory p fill
