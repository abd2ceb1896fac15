-- What a file is decompiled to: the theorem, of the file and the bytes of its text alone.
use Rattle.std.specs.Prelude.{◌≡◌, ℕ, List}
use Rattle.dcc_machine.specs.declared.cpu.Cpu.{Cpu}
use Rattle.dcc_machine.specs.declared.image.Image.{Image}
use Rattle.dcc_machine.specs.MzImage.{IsImageOf}
use Rattle.dcc_machine_demand.specs.Refused.{IsAcceptedProgram}
use Rattle.dcc_c.specs.Tree.{Tree}
use Rattle.dcc_c.specs.Written.{written_form}
use Rattle.dcc_pipe.specs.Agreement.{IsTextOf}
use Rattle.dcc_pipe.specs.GlobalData.{HasGlobals}
use Rattle.dcc_pipe.specs.TypedFrames.{HasTypedFrames}
use Rattle.dcc_pipe.specs.Shaped.{HasShape}

-- On this processor nothing refuses the image, and these bytes are the written form of a tree of the dialect, whose run
-- agrees with that of the image on every input and from every fill. Its `auto` parameters and variables are just the
-- arguments and the local bytes that the frames expose, and one byte where a frame exposes no local one and the
-- procedure moves SP by ADD, SUB, INC or DEC, of which nothing but the address is used. Labels, jumps, loops and numbers
-- of statements are as the procedures ask for, and global variables as the program accesses its data.
pub record IsTextOfImage (cpu : Cpu) (image : Image) (text : List ℕ) : Type 0 where
  pub accepted : IsAcceptedProgram cpu image
  pub tree : Tree
  pub written_is : text ≡ written_form tree
  pub is_text : IsTextOf cpu image text tree
  pub typed : HasTypedFrames cpu image tree
  pub shaped : HasShape cpu image tree
  pub globals : HasGlobals cpu image tree

-- THE THEOREM, of each file that `c` answers by a text: the file has an image, of which the text is one on this
-- processor.
pub record IsDecompiled (cpu : Cpu) (file text : List ℕ) : Type 0 where
  pub image : Image
  pub is_image : IsImageOf file image
  pub is_text : IsTextOfImage cpu image text
