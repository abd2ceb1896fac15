-- Laws of spellings, for every operation that the table of some processor has.
use Rattle.std.specs.Prelude.{◌≡◌, ◌<◌, ℕ, List, All, Some}
use Rattle.dcc_machine.specs.declared.cpu.Cpu.{Cpu}
use Rattle.dcc_machine.specs.declared.instr.Op.{Op}
use Rattle.dcc_machine.specs.declared.instr.Instr.{Instr}
use Rattle.dcc_machine.specs.Table.{instruction_at}
use Rattle.dcc_spelled.specs.Spelling.{spelling}
use Rattle.dcc_reread.specs.Reading.{operation_in}

-- some processor decodes some bytes at some offset to the operation
pub record IsOfTable (op : Op) : Type 0 where
  pub cpu : Cpu
  pub at : ℕ
  pub bytes : List ℕ
  pub are_bytes : All (λ byte. byte < 256) bytes
  pub instr : Instr
  pub decoded : instruction_at cpu at bytes ≡ Some instr
  pub op_is : instr.op ≡ op

-- an operation of the table is read back from its spelling
abbrev pub SpellingIsReadBack : Type 0
SpellingIsReadBack = (op : Op) → IsOfTable op → operation_in (spelling op) ≡ Some op

-- two operations of the table that have one spelling are one
abbrev pub SpellingIsUnique : Type 0
SpellingIsUnique = (op other : Op) → IsOfTable op → IsOfTable other → spelling op ≡ spelling other → op ≡ other
