-- The best encoding among some drafts. This stands between the definitions and the code; no public contract rests on
-- it.
use Rattle.std.specs.Prelude.{◌≡◌, ◌⊎◌, ℕ, true, List, Option, Some, None}
use Rattle.std.specs.List.{AllByRecursion}
use Rattle.smallvec.specs.SmallVec.{SmallVec}
use Rattle.dcc_machine.specs.declared.cpu.Cpu.{Cpu}
use Rattle.dcc_machine.specs.declared.instr.Op.{Op}
use Rattle.dcc_encode.specs.Encoding.{IsEncoding, is_preferred}

-- the bytes of what is found
abbrev pub items_of : Option (SmallVec ℕ) → Option (List ℕ)
items_of None = None
items_of (Some bytes) = Some bytes.items

-- no draft is an encoding, or one is, and is preferred to each other one
abbrev pub IsBest : Cpu → ℕ → Op → List (List ℕ) → Option (List ℕ) → Type 0
IsBest cpu at op drafts None = AllByRecursion (λ bytes. ¬ IsEncoding cpu at op bytes) drafts
IsBest cpu at op drafts (Some best) =
    IsEncoding cpu at op best
    × AllByRecursion (λ bytes. IsEncoding cpu at op bytes → (bytes ≡ best) ⊎ (is_preferred best bytes ≡ true)) drafts
