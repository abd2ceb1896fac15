-- What is lifted has the form that is prepared, and what follows it follows the image.
use Rattle.std.proofs.Common.{ℕ, List}
use Rattle.dcc_machine.specs.declared.image.Image.{Image}
use Rattle.dcc_prog.specs.declared.frame.Program.{Program}
use Rattle.dcc_ir.specs.Tree as inner
use Rattle.dcc_simulation.specs.Nodes.{procedures_in}
use Rattle.dcc_lift.specs.Lifted.{IsLifted}
use Rattle.dcc_tidy.specs.Tidied.{text_levels}
use Rattle.dcc_pipe.specs.Textable.{lifted_levels, IsTextable}
use Rattle.dcc_pipe.specs.Prepared.{HasLiftedForm, LiftedHasTheForm}
use Rattle.dcc_pipe.specs.Simplified.{IsSimplified}
use Rattle.dcc_ir.specs.Passing.{PassesAll}
use Rattle.dcc_pipe.specs.Following.{KeepsPaceWith, IsFollowing}
use Rattle.dcc_pipe.proofs.ArgumentsApart.{frames-small, graphs-apart}
use Rattle.dcc_pipe.proofs.SimplifiedLaws.{simplified-shadows}

-- what is lifted has what a text needs
textable-lifted : (image : Image) (program : Program) (p : inner.Program) → IsLifted image program p
    → IsTextable lifted_levels p
textable-lifted image program p lifted =
    record { formed = lifted.well_formed; shallow = lifted.shallow; never_stuck = lifted.never_stuck }

pub lifted-has_the_form : LiftedHasTheForm
lifted-has_the_form image program p is lifted = with_back lifted.passes
  where
    with_back : {back : ℕ → List ℕ} → PassesAll back p → HasLiftedForm p
    with_back {back = back} passes = record {
      textable = textable-lifted image program p lifted;
      back = back;
      passes = passes;
      apart =
          graphs-apart program.layout.start_ip (procedures_in program) p.graphs
          (frames-small image program.layout program.procs.items program.cells.frames.items is.cells.frames) lifted.graphs;
      reads = lifted.flag_reads;
    }

-- What passes leave of it follows the image, where the machine keeps pace with that.
pub left-follows : (image : Image) (program : Program) (p q : inner.Program) → IsLifted image program p
    → IsSimplified text_levels p q → KeepsPaceWith image program q → IsFollowing image program q
left-follows image program p q lifted is pace = record {
  runs = simplified-shadows image program text_levels p q is lifted.runs;
  pace = pace;
}
