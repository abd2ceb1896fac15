-- The entries that are noted. This stands between the definitions and the code; no public contract rests on it.
use Rattle.std.specs.Prelude.{◌≡◌, ◌≢◌, ◌≤◌, ◌<◌, ◌↔◌, ℕ, true, false, List, [], ◌∷◌, ◌++◌, length, get_or, slice_set}
use Rattle.std.specs.Prelude.{AllPairs, Contains}
use Rattle.dcc_machine.specs.declared.image.Image.{Image}
use Rattle.dcc_prog.specs.declared.procedure.Layout.{Layout}
use Rattle.dcc_prog.specs.declared.refusal.LimitName.TheVariants.{Procedures}
use Rattle.dcc_prog.specs.declared.refusal.Refusal.{Refusal}
use Rattle.dcc_prog.specs.declared.refusal.Refusal.TheVariants.{Limit, Memory}
use Rattle.dcc_prog.specs.Trail.{IsEntry}
use Rattle.dcc_procs.specs.declared.entries.Entries.{Entries}

-- each listed entry is that of a procedure that is reached
abbrev pub AreAllReached : Image → Layout → List ℕ → Type 0
AreAllReached image layout entries = (entry : ℕ) → Contains entries entry → IsEntry image layout entry

-- no entry is noted
pub record IsEmpty (entries : Entries) : Type 0 where
  pub length_is : length entries.listed.items ≡ 65536
  pub listed : (at : ℕ) → get_or entries.listed.items at false ≡ false
  pub order : entries.order.items ≡ []

-- an entry is noted, where it wasn't yet
pub data IsAdded (old new : Entries) (entry : ℕ) : Type 0 where
  known : get_or old.listed.items entry false ≡ true → new ≡ old → IsAdded old new entry
  added :
      get_or old.listed.items entry false ≡ false
      → length old.order.items < 512
      → new.order.items ≡ old.order.items ++ entry ∷ []
      → new.listed.items ≡ slice_set old.listed.items entry true
      → IsAdded old new entry

-- one more entry is too many, or there is no memory for it
abbrev pub IsOverfull : Entries → ℕ → Refusal → Type 0
IsOverfull old entry (Limit Procedures count) =
    (count ≡ 513) × (length old.order.items ≡ 512) × (get_or old.listed.items entry false ≡ false)
IsOverfull old entry Memory = Unit {0}
IsOverfull old entry refusal = ⊥

-- entries that are reached, each once, and a flag for each offset
pub record AreEntries (image : Image) (layout : Layout) (entries : Entries) : Type 0 where
  pub length_is : length entries.listed.items ≡ 65536
  pub listed : (at : ℕ) → Contains entries.order.items at ↔ (get_or entries.listed.items at false ≡ true)
  pub distinct : AllPairs (λ x y. x ≢ y) entries.order.items
  pub reached : AreAllReached image layout entries.order.items
  pub few : length entries.order.items ≤ 512

-- the entries of the list are noted after the earlier ones
pub record AreAdded (image : Image) (layout : Layout) (old new : Entries) (entries : List ℕ) : Type 0 where
  pub are : AreEntries image layout new
  pub more : List ℕ
  pub goes_on : new.order.items ≡ old.order.items ++ more
  pub all : (entry : ℕ) → Contains entries entry → Contains new.order.items entry
