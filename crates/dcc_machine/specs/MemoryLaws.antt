-- Laws on memory: accesses tell what a step does there.
use Rattle.std.specs.Prelude.{◌≡◌, ◌⊎◌, ℕ, List, length, slice_index, Contains}
use Rattle.dcc_machine.specs.declared.cpu.Cpu.{Cpu}
use Rattle.dcc_machine.specs.declared.instr.Op.{Op}
use Rattle.dcc_machine.specs.Machine.{State}
use Rattle.dcc_machine.specs.Step.{op_step, step}
use Rattle.dcc_machine.specs.StateForm.{HasRegisters}
use Rattle.dcc_machine.specs.Access.{accesses, step_accesses, step_reads, read_by, written_by, with_memory, AgreeAt}
use Rattle.dcc_machine.specs.Access.{ActsBy, ActsByAccesses}

-- the accesses of an operation tell what its step takes from memory and does to it, and with the instruction's bytes
-- they tell what a step of the machine does
pub record StepsActByAccesses : Type 0 where
  pub operation :
      (cpu : Cpu) (op : Op) (at : ℕ) (s : State) → HasRegisters s → ActsByAccesses (accesses op s) (op_step cpu op at) s
  pub step :
      (cpu : Cpu) (s : State) → HasRegisters s
      → ActsBy (step_reads cpu s) (written_by (step_accesses cpu s)) (step cpu) s

-- an act changes memory at its writes alone: elsewhere memory stays as it was
abbrev pub Leaves : List ℕ → (State → State) → State → Type 0
Leaves writes act s =
    (address : ℕ) → ¬ Contains writes address → slice_index (act s).memory address ≡ slice_index s.memory address

pub record MemoryChangesAtWritesAlone : Type 0 where
  pub operation :
      (cpu : Cpu) (op : Op) (at : ℕ) (s : State) → HasRegisters s
      → Leaves (written_by (accesses op s)) (op_step cpu op at) s
  pub step : (cpu : Cpu) (s : State) → HasRegisters s → Leaves (written_by (step_accesses cpu s)) (step cpu) s

-- a byte is the same after both acts, or both left it as it was
abbrev pub IsAlikeOrLeft : (before other_before after other_after : List ℕ) → ℕ → Type 0
IsAlikeOrLeft before other_before after other_after address =
    (slice_index other_after address ≡ slice_index after address)
    ⊎ ((slice_index after address ≡ slice_index before address)
    × (slice_index other_after address ≡ slice_index other_before address))

-- where an act finds two memories that agree at what it reads, each byte is alike after it, or was left alone
abbrev pub BytesAreAlikeOrLeft : Type 0
BytesAreAlikeOrLeft =
    (reads writes : List ℕ) (act : State → State) (s : State) (memory : List ℕ) → ActsBy reads writes act s
    → AgreeAt reads memory s.memory → length memory ≡ length s.memory
    → (address : ℕ) → IsAlikeOrLeft s.memory memory (act s).memory (act (with_memory memory s)).memory address

-- the accesses themselves depend on memory at what they read alone
abbrev pub AccessesDependOnReads : Type 0
AccessesDependOnReads =
    (op : Op) (s : State) (memory : List ℕ) → AgreeAt (read_by (accesses op s)) memory s.memory
    → accesses op (with_memory memory s) ≡ accesses op s
