-- Accesses and calls that a frame allows, by its instructions. This stands between the definitions and the code; no
-- public contract rests on it.
use Rattle.std.specs.Prelude.{◌≡◌, ℕ, ◌+◌, ◌*◌, ◌==◌, ℤ, pos, ◌+ℤ◌, ◌-ℤ◌, int_le, Bool, true, false, not, ◌&&◌, ◌||◌}
use Rattle.std.specs.Prelude.{if◌then◌else◌, List, Contains, Option, Some, None, unwrap_or}
use Rattle.dcc_machine.specs.declared.instr.Op.{Op}
use Rattle.dcc_machine.specs.declared.instr.Op.TheVariants.{Call}
use Rattle.dcc_prog.specs.declared.refusal.ConstructKind.{ConstructKind}
use Rattle.dcc_prog.specs.declared.refusal.FrameFault.{FrameFault}
use Rattle.dcc_prog.specs.declared.refusal.FrameFault.TheVariants.{AccessOutside, AddressOutside, NoAddress}
use Rattle.dcc_prog.specs.declared.refusal.Refusal.{Refusal}
use Rattle.dcc_prog.specs.declared.refusal.Refusal.TheVariants.{Construct}
use Rattle.dcc_frames.specs.declared.bytes.Bytes.{Bytes}
use Rattle.dcc_frames.specs.declared.steps.Step.{Step}
use Rattle.dcc_frames.specs.Bytes.{is_between}
use Rattle.dcc_frames.specs.Used.{access_of, start_of}

-- what an option has passes the test, if it has anything
abbrev pub passes : {A : Type 0} → (A → Bool) → Option A → Bool
passes test None = true
passes test (Some x) = test x

-- the bytes lie wholly in the arguments, or wholly between SP and BP
abbrev pub is_inside : ℕ → ℕ → Bytes → Bool
is_inside args height bytes =
    is_between bytes (pos 4) (pos (4 + 2 * args)) || is_between bytes (pos 2 -ℤ pos height) (pos 0)

abbrev pub byte_from : ℤ → Bytes
byte_from start = record { first = start; end = start +ℤ pos 1 }

abbrev pub has_access_inside : Bool → ℕ → Step → Bool
has_access_inside framed args step =
    passes (λ (bytes : Bytes). is_inside args step.height bytes) (access_of framed step.op)

-- the byte from which an instruction exposes the frame lies inside it; where the frame's addresses can't be told,
-- there may be none
abbrev pub has_start_inside : ℕ → Bool → Step → Bool
has_start_inside args lacks_addresses step =
    passes (λ (start : ℤ). not lacks_addresses && is_inside args step.height (byte_from start))
    (start_of step.op step.height)

abbrev pub is_allowed : Bool → ℕ → Bool → Step → Bool
is_allowed framed args lacks_addresses step =
    has_access_inside framed args step && has_start_inside args lacks_addresses step

-- what is at fault with an instruction that the frame doesn't allow
abbrev pub fault_in : Bool → ℕ → Bool → Step → FrameFault
fault_in framed args lacks_addresses step =
    if has_access_inside framed args step then (if lacks_addresses then NoAddress else AddressOutside)
    else AccessOutside

-- how many bytes of its own a frame has at a height: the saved BP isn't counted
abbrev pub own_of : Bool → ℕ → ℤ
own_of framed height = if framed then pos height -ℤ pos 2 else pos height

-- how many words an operation passes to a procedure, by the numbers of arguments
abbrev pub passed_of : (ℕ → Option ℕ) → Op → ℕ
passed_of counts (Call target) = unwrap_or (counts target) 0
passed_of counts op = 0

-- the frame has as many words of its own as the operation passes
abbrev pub has_words : (ℕ → Option ℕ) → Bool → Step → Bool
has_words counts framed step =
    (passed_of counts step.op == 0) || int_le (pos (2 * passed_of counts step.op)) (own_of framed step.height)

-- a construct is told at an instruction that isn't allowed, of the kind that is at fault there
pub data IsToldOf (steps : List Step) (allowed : Step → Bool) (kind : Step → ConstructKind) : Refusal → Type 0 where
  told :
      {step : Step}
      → Contains steps step
      → allowed step ≡ false
      → IsToldOf steps allowed kind (Construct (kind step) step.at)
