-- What the code keeps of a prelude.
use Rattle.std.specs.Prelude.{◌≡◌, List}
use Rattle.dcc_machine.specs.declared.cpu.Cpu.{Cpu}
use Rattle.dcc_machine.specs.declared.image.Image.{Image}
use Rattle.dcc_machine.specs.declared.instr.Instr.{Instr}
use Rattle.dcc_machine.specs.Code.{code_of}
use Rattle.dcc_prog.specs.Layout.{IsPrelude, offset_after, state_after}
use Rattle.dcc_layout.specs.declared.prelude.Prelude.{Prelude}
use Rattle.dcc_layout.specs.Registers.{registers_of}

-- the code has found the registers that the image's prelude leaves on the processor, and the offset after it
pub record IsLeft (cpu : Cpu) (image : Image) (left : Prelude) : Type 0 where
  pub prelude : List Instr
  pub is_prelude : IsPrelude cpu (code_of image) image.ip prelude
  pub registers : left.registers ≡ registers_of (state_after cpu image prelude)
  pub end : left.end ≡ offset_after image.ip prelude
