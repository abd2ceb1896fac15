-- The nodes of a procedure as they are made of what is known at offsets. This stands between the trails and the code;
-- no public contract rests on it.
use Rattle.std.specs.Prelude.{◌≡◌, ℕ, Option, Some, None}
use Rattle.dcc_machine.specs.declared.image.Image.{Image}
use Rattle.dcc_prog.specs.declared.procedure.Layout.{Layout}
use Rattle.dcc_prog.specs.declared.procedure.Node.{Node}
use Rattle.dcc_machine.specs.declared.instr.Op.{Op}
use Rattle.dcc_machine.specs.declared.instr.Op.TheVariants.{Int21}
use Rattle.dcc_machine.specs.declared.instr.Instr.{Instr}
use Rattle.dcc_prog.specs.Trail.{instruction_in}
use Rattle.dcc_procs.specs.declared.known.Known.{Known}
use Rattle.dcc_procs.specs.Known.{successors_by}

-- the number of a DOS call, by what is known before it
abbrev pub number_by : Op → Known → Option ℕ
number_by Int21 known = known.ah
number_by op known = None

-- an instruction stands at the offset
abbrev pub HasInstruction : Image → Layout → ℕ → Type 0
HasInstruction image layout at = (instr : Instr) × (instruction_in image layout at ≡ Some instr)

-- the node at an offset, by what is known before it: its instruction, where it goes on, the number of a DOS call
pub record IsNodeBy (image : Image) (layout : Layout) (at : ℕ) (known : Known) (node : Node) : Type 0 where
  pub instr : instruction_in image layout at ≡ Some node.instr
  pub succ : node.succ.items ≡ successors_by image at node.instr known
  pub number : node.number ≡ number_by node.instr.op known
