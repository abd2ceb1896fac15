-- What the code keeps of instructions that were decoded.
use Rattle.std.specs.Prelude.{◌≡◌, ◌≢◌, ℕ, ◌+◌, ◌%◌, ◌<◌, true, false, Bool, List, [], ◌∷◌, get_or, slice_index, Some}
use Rattle.std.specs.Prelude.{IfSome}
use Rattle.std.specs.List.{All}
use Rattle.dcc_machine.specs.declared.cpu.Cpu.{Cpu}
use Rattle.dcc_machine.specs.Machine.{physical}
use Rattle.dcc_machine.specs.Table.{instruction_at}
use Rattle.dcc_machine.specs.WellFormed.{IsOperation}
use Rattle.dcc_step.specs.declared.form.Form.TheVariants.{Other}
use Rattle.dcc_step.specs.declared.cache.Decoded.{Decoded}
use Rattle.dcc_step.specs.Form.{op_of}

-- What was decoded is the instruction of the processor that its bytes are at its offset, if they are one; where its
-- form is not Other, that is one with the operation of the form.
pub record IsDecoded (cpu : Cpu) (decoded : Decoded) : Type 0 where
  pub is : decoded.instr ≡ instruction_at cpu decoded.at decoded.window
  pub operation : IfSome decoded.instr (λ instr. IsOperation instr.op)
  pub form :
      decoded.form ≢ Other → decoded.instr ≡ Some (record { op = op_of decoded.form; len = decoded.len })

-- the physical address of the byte at `k` bytes past an offset, which wraps
abbrev pub code_address : ℕ → ℕ → ℕ → ℕ
code_address segment at k = physical segment ((at + k) % 65536)

-- the bytes from an offset of a segment on, as many as the longest instruction has
abbrev pub bytes_at : List ℕ → ℕ → ℕ → List ℕ
bytes_at memory segment at =
    slice_index memory (code_address segment at 0)
    ∷ slice_index memory (code_address segment at 1)
    ∷ slice_index memory (code_address segment at 2)
    ∷ slice_index memory (code_address segment at 3)
    ∷ slice_index memory (code_address segment at 4)
    ∷ slice_index memory (code_address segment at 5)
    ∷ []

-- whether a physical address is marked
abbrev pub is_marked : List Bool → ℕ → Bool
is_marked marks address = get_or marks address false

-- the bytes that are looked at from an offset of a segment on are marked
abbrev pub IsMarkedFrom : List Bool → ℕ → ℕ → Type 0
IsMarkedFrom marks segment at = (k : ℕ) → k < 6 → is_marked marks (code_address segment at k) ≡ true

-- the bytes of what was decoded stand in memory at its offset in the segment, and are marked
pub record IsFresh (memory : List ℕ) (segment : ℕ) (marks : List Bool) (decoded : Decoded) : Type 0 where
  pub window : decoded.window ≡ bytes_at memory segment decoded.at
  pub marked : IsMarkedFrom marks segment decoded.at

-- an entry of the cache that is known stands in memory, and its bytes are marked
abbrev pub IsFreshIfKnown : List ℕ → ℕ → List Bool → Decoded → Type 0
IsFreshIfKnown memory segment marks decoded =
    decoded.known ≡ true → IsFresh memory segment marks decoded

-- As long as the marks are trusted, what is known stands in memory: no marked byte was stored since it was decoded.
abbrev pub AreFresh : Bool → List ℕ → ℕ → List Bool → List Decoded → Type 0
AreFresh trusted memory segment marks cache =
    trusted ≡ true → All (IsFreshIfKnown memory segment marks) cache
