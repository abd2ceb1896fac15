-- What holds of each state of the machine: how many registers and bytes there are, and what each has room for.
use Rattle.std.specs.Prelude.{◌≡◌, ℕ, ◌<◌, List, length, slice_index}
use Rattle.dcc_num.specs.declared.Reg.{Reg}
use Rattle.dcc_machine.specs.declared.cpu.Cpu.{Cpu}
use Rattle.dcc_machine.specs.declared.instr.Op.{Op}
use Rattle.dcc_machine.specs.declared.image.Image.{Image}
use Rattle.dcc_machine.specs.MzImage.{IsLoaded}
use Rattle.dcc_machine.specs.Machine.{State, word_in, start_state}
use Rattle.dcc_machine.specs.WellFormed.{IsOperation}
use Rattle.dcc_machine.specs.Step.{op_step, step}

-- a state has eight word registers, each with a word
pub record HasRegisters (s : State) : Type 0 where
  pub count : length s.regs ≡ 8
  pub words : (r : Reg) → word_in s r < 65536

-- a state has eight word registers and four segment registers with words, 1,048,576 bytes of memory, and bytes as
-- input
pub record IsState (s : State) : Type 0 where
  pub registers : HasRegisters s
  pub segment_count : length s.segs ≡ 4
  pub segments : (number : ℕ) → slice_index s.segs number < 65536
  pub memory_size : length s.memory ≡ 1048576
  pub memory : (address : ℕ) → slice_index s.memory address < 256
  pub input : (k : ℕ) → slice_index s.input k < 256

-- steps keep the numbers of registers and bytes and what each has room for; the step of an operation does where the
-- instruction pointer after it is a word
pub record StepsKeepStates : Type 0 where
  pub operation :
      (cpu : Cpu) (op : Op) (at : ℕ) (s : State) → IsOperation op → s.ip < 65536 → IsState s
      → IsState (op_step cpu op at s)
  pub step : (cpu : Cpu) (s : State) → IsState s → IsState (step cpu s)

-- each start of an image on bytes has eight word registers, four segment registers and all of memory, and in each what
-- it has room for
abbrev pub StartsAreStates : Type 0
StartsAreStates =
    (image : Image) (input : List ℕ) → IsLoaded image → ((k : ℕ) → slice_index input k < 256)
    → IsState (start_state image input)
