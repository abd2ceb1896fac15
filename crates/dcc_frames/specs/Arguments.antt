-- How many argument words a procedure has, by its instructions. This stands between the definitions and the code; no
-- public contract rests on it.
use Rattle.std.specs.Prelude.{◌≡◌, ◌≤◌, ℕ, ◌+◌, ◌*◌, ◌/◌, ℤ, pos, ◌+ℤ◌, ◌≤ℤ◌, Bool, true, false, List, All, IfSome}
use Rattle.dcc_frames.specs.declared.bytes.Bytes.{Bytes}
use Rattle.dcc_frames.specs.declared.steps.Step.{Step}
use Rattle.dcc_frames.specs.Used.{access_of, start_of}

-- the least number of which something holds
pub record IsLeast (P : ℕ → Type 0) (number : ℕ) : Type 0 where
  pub holds : P number
  pub least : (other : ℕ) → P other → number ≤ other

-- this number of argument words reaches up to the end of bytes
abbrev pub ReachTo : ℤ → ℕ → Type 0
ReachTo end count = end ≤ℤ pos (4 + 2 * count)

-- this number of argument words has every byte that an instruction accesses directly
abbrev pub HasAccessRoom : Bool → Step → ℕ → Type 0
HasAccessRoom framed step count = IfSome (access_of framed step.op) (λ (bytes : Bytes). ReachTo bytes.end count)

-- this number of argument words has the byte from which an instruction exposes the frame
abbrev pub HasStartRoom : Step → ℕ → Type 0
HasStartRoom step count = IfSome (start_of step.op step.height) (λ (start : ℤ). ReachTo (start +ℤ pos 1) count)

-- this number of argument words has the bytes that an instruction accesses directly, and the byte from which it
-- exposes the frame
pub record HasRoomFor (framed : Bool) (step : Step) (count : ℕ) : Type 0 where
  pub accessed : HasAccessRoom framed step count
  pub exposed : HasStartRoom step count

-- this number of argument words has what all instructions access and expose, and what the RETs remove
pub record HasRoomIn (framed : Bool) (removed : ℕ) (steps : List Step) (count : ℕ) : Type 0 where
  pub removed_too : removed / 2 ≤ count
  pub used : All (λ step. HasRoomFor framed step count) steps

-- the number of arguments as it is told: none for the entry procedure
pub data IsCounted (is_start framed : Bool) (removed : ℕ) (steps : List Step) (count : ℕ) : Type 0 where
  of_entry : is_start ≡ true → count ≡ 0 → IsCounted is_start framed removed steps count
  of_other :
      is_start ≡ false
      → IsLeast (HasRoomIn framed removed steps) count
      → IsCounted is_start framed removed steps count
