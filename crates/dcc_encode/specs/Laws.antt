-- Laws of encodings, for every processor, operation and offset.
use Rattle.std.specs.Prelude.{◌≡◌, ℕ, List, Contains}
use Rattle.dcc_machine.specs.declared.cpu.Cpu.{Cpu}
use Rattle.dcc_machine.specs.declared.instr.Op.{Op}
use Rattle.dcc_encode.specs.Encoding.{IsEncoding, IsStandard}
use Rattle.dcc_encode.specs.Shapes.{drafts}

-- each encoding of an operation is among its drafts
abbrev pub EncodingsAreDrafts : Type 0
EncodingsAreDrafts =
    (cpu : Cpu) (at : ℕ) (op : Op) (bytes : List ℕ) → IsEncoding cpu at op bytes → Contains (drafts op at) bytes

-- an operation has one standard encoding at most at an offset
abbrev pub StandardEncodingIsUnique : Type 0
StandardEncodingIsUnique =
    (cpu : Cpu) (at : ℕ) (op : Op) (bytes others : List ℕ)
    → IsStandard cpu at op bytes → IsStandard cpu at op others → bytes ≡ others
