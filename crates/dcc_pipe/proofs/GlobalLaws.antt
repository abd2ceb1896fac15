-- A text may declare the global variables for a program's data segment.
use Rattle.std.proofs.Common.{◌≡◌, ℕ, ◌<◌, List, [], ◌∷◌, refl, sym, ap, ◌∙◌, subst}
use Rattle.std.specs.Prelude.{All}
use Rattle.std.specs.List.{AllZip}
use Rattle.dcc_num.specs.declared.Width.{Width}
use Rattle.dcc_machine.specs.declared.image.Image.{Image}
use Rattle.dcc_machine.specs.declared.instr.Ea.{Ea}
use Rattle.dcc_prog.specs.declared.frame.Program.{Program as Analysed}
use Rattle.dcc_ir.specs.Tree as inner
use Rattle.dcc_c.specs.Tree.{Global}
use Rattle.dcc_globals.specs.Globals.{globals_of}
use Rattle.dcc_globals.specs.Laws.{data_in, GlobalsAreAllowed, GlobalsHaveNames, GlobalsAreWritable, FirstMemoriesAreEqual}
use Rattle.dcc_globals.specs.Pieces.{Data, operands_of}
use Rattle.dcc_lift.specs.Lifted.{IsLifted}
use Rattle.dcc_tidy.specs.Tidied.{IsTidiedGraph}
use Rattle.dcc_pipe.specs.GlobalData.{AreGlobalsFor, IsGlobalAs, data_of, globals_in}
use Rattle.dcc_pipe.specs.Prepared.{IsPrepared}
use Rattle.dcc_pipe.specs.Simplified.{HasEachChanged}

pub globals-for : GlobalsAreAllowed → GlobalsHaveNames → GlobalsAreWritable → FirstMemoriesAreEqual
    → (p : inner.Program) (operands : List (Width × Ea)) → All (λ byte. byte < 256) p.image
    → AreGlobalsFor p (globals_of (data_in p operands))
globals-for allowed names writable memory p operands bytes = record {
  allowed = allowed (data_in p operands);
  names = names (data_in p operands);
  writable = writable (data_in p operands) bytes;
  memory = λ tree fill lo hi are. memory p operands tree fill bytes lo hi are;
}

-- what is tidied of a prepared program has the data segment of the program in the image
segment-is : (ids : List ℕ) (image : Image) (program : Analysed) (p q r : inner.Program) → IsLifted image program p
    → IsPrepared p q → HasEachChanged (IsTidiedGraph ids) q r
    → data_in r (operands_of program.procs.items) ≡ data_of image program
segment-is ids image program p q r lifted is tidy =
    let bytes = tidy.image ∙ is.made.image ∙ lifted.image_is in
    let lo = tidy.lo ∙ is.made.lo ∙ lifted.lo in
    let hi = tidy.hi ∙ is.made.hi ∙ lifted.hi in
    λ i. record {
      bytes = bytes i;
      lo = lo i;
      hi = hi i;
      operands = operands_of program.procs.items;
    }

pub globals-are : (ids : List ℕ) (image : Image) (program : Analysed) (p q r : inner.Program) → IsLifted image program p
    → IsPrepared p q → HasEachChanged (IsTidiedGraph ids) q r
    → globals_in program.procs.items r ≡ globals_of (data_of image program)
globals-are ids image program p q r lifted is tidy =
    ap globals_of (segment-is ids image program p q r lifted is tidy)

-- global variables are those that they are
all-as : (gs : List Global) → AllZip IsGlobalAs gs gs
all-as [] = tt
all-as (g ∷ gs) = (record { name = refl; at = refl; len = refl; size = refl; init = refl }, all-as gs)

pub are-as : (gs hs : List Global) → hs ≡ gs → AllZip IsGlobalAs gs hs
are-as gs hs same = subst (AllZip IsGlobalAs gs) (sym same) (all-as gs)
