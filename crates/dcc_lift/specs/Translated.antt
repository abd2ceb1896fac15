-- An analysed file with its translation, and the setting in which it runs. This stands between the definitions and the
-- proofs.
use Rattle.dcc_machine.specs.declared.image.Image.{Image}
use Rattle.dcc_prog.specs.declared.frame.Program.{Program as Analysed}
use Rattle.dcc_stack.specs.Accepted.{IsProgramOfFile}
use Rattle.dcc_ir.specs.Tree.{Program}
use Rattle.dcc_simulation.specs.Coupled.{Setting}
use Rattle.dcc_simulation.specs.Nodes.{procedures_in, cells_at}
use Rattle.dcc_lift.specs.Translation.{IsTranslation}

-- the program runs as the lifting of all procedures that are found, on their processor
abbrev pub setting : Image → Analysed → Program → Setting
setting image program p = record {
  cpu = program.layout.cpu;
  image = image;
  program = program;
  inner = p;
  cells = cells_at (procedures_in program);
}

-- an analysed file with its translation
pub record IsTranslated (image : Image) (program : Analysed) (p : Program) : Type 0 where
  pub of_file : IsProgramOfFile program.layout.cpu image program
  pub translation :
      IsTranslation image program.layout program.procs.items program.heights program.cells p
