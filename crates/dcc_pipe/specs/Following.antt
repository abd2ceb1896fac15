-- What a program is to an image from which it comes. This stands between the definitions and the proofs.
use Rattle.dcc_machine.specs.declared.image.Image.{Image}
use Rattle.dcc_prog.specs.declared.frame.Program.{Program as Analysed}
use Rattle.dcc_ir.specs.Tree.{Program}
use Rattle.dcc_lift.specs.Lifted.{ShadowsMachine, PacedAt}
use Rattle.dcc_pipe.specs.Control.{Control, AreControls, keeps_step}

-- Whatever the control of the program's text, the machine keeps pace with the blocks for which the text has a step.
abbrev pub KeepsPaceWith : Image → Analysed → Program → Type 0
KeepsPaceWith image program p =
    (control : Control) → AreControls control p → PacedAt image program (keeps_step control p)

-- The program shadows the machine, which keeps pace with it.
pub record IsFollowing (image : Image) (program : Analysed) (p : Program) : Type 0 where
  pub runs : ShadowsMachine image program p
  pub pace : KeepsPaceWith image program p
