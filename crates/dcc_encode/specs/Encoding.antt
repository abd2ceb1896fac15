-- The encodings of an operation: the bytes that the processor's table decodes to it.
use Rattle.std.specs.Prelude.{◌≡◌, ◌<◌, ◌≤◌, ◌⊎◌, ℕ, ◌+◌, ◌==◌, Bool, true, ◌&&◌, ◌||◌, nat_lt, List, length, All}
use Rattle.std.specs.Prelude.{Some}
use Rattle.std.specs.Cmp.Lexicographic.{slice_cmp}
use Rattle.std.specs.Ordering.{is_lt, nat_cmp}
use Rattle.dcc_machine.specs.declared.cpu.Cpu.{Cpu}
use Rattle.dcc_machine.specs.declared.instr.Op.{Op}
use Rattle.dcc_machine.specs.Table.{instruction_at}

-- the bytes, whole, are an encoding of the operation at an offset in the code segment, which ends with offset 65535
pub record IsEncoding (cpu : Cpu) (at : ℕ) (op : Op) (bytes : List ℕ) : Type 0 where
  pub decoded : instruction_at cpu at bytes ≡ Some (record { op = op; len = length bytes })
  pub within : at + length bytes ≤ 65536
  pub are_bytes : All (λ byte. byte < 256) bytes

-- an encoding is preferred to another: it is shorter, or as long and greater
abbrev pub is_preferred : List ℕ → List ℕ → Bool
is_preferred bytes others =
    nat_lt (length bytes) (length others)
    || ((length bytes == length others) && is_lt (slice_cmp nat_cmp others bytes))

-- the standard encoding of the operation at an offset: it is preferred to each other one
pub record IsStandard (cpu : Cpu) (at : ℕ) (op : Op) (bytes : List ℕ) : Type 0 where
  pub encoding : IsEncoding cpu at op bytes
  pub preferred :
      (others : List ℕ) → IsEncoding cpu at op others → (others ≡ bytes) ⊎ (is_preferred bytes others ≡ true)
