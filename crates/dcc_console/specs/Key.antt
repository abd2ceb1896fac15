-- A key that is taken, and written where it is echoed.
use Rattle.std.specs.Prelude.{◌≡◌, ℕ, Bool, List, [], ◌∷◌, if◌then◌else◌, Option}
use Rattle.dcc_run.specs.Event.{Event, Took, MetEnd, written_by, taken_by, writes}
use Rattle.dcc_num.specs.declared.dos.TheConstants.{END_OF_INPUT}
use Rattle.dcc_io.specs.Told.{append_told, prepend_told, AppendsProperPrefix}
use Rattle.dcc_console.specs.WithConsole.{told_bytes}
use Rattle.dcc_console.specs.declared.fault.Fault.{Fault}
use Rattle.dcc_console.specs.declared.fault.Fault.TheVariants.{Input, Output}

-- what is written of a key
abbrev pub echoed : Bool → ℕ → List ℕ
echoed echo byte = if echo then byte ∷ [] else []

-- what happens where this byte is the next key: it is taken, and what is written of it comes after that
abbrev pub key_events : Bool → ℕ → List Event
key_events echo byte = Took byte ∷ writes (echoed echo byte)

-- A key was taken: the next input byte, which was written where it is echoed; or 1Ah where the input has ended.
pub data TakesKey (echo : Bool) (left taken left_now taken_now : Option (List ℕ)) : ℕ → Type 0 where
  next_byte : {byte : ℕ} → left ≡ prepend_told (taken_by (key_events echo byte)) left_now →
      taken_now ≡ append_told taken (written_by (key_events echo byte)) →
      TakesKey echo left taken left_now taken_now byte
  no_byte : told_bytes left_now ≡ [] → left ≡ prepend_told (taken_by (MetEnd ∷ [])) left_now →
      taken_now ≡ append_told taken (written_by (MetEnd ∷ [])) →
      TakesKey echo left taken left_now taken_now END_OF_INPUT

-- a byte was taken, and a part of what is written of it, and not all of that
pub record IsCutKey (echo : Bool) (left taken left_now taken_now : Option (List ℕ)) : Type 0 where
  pub byte : ℕ
  pub took : left ≡ prepend_told (taken_by (key_events echo byte)) left_now
  pub part : AppendsProperPrefix taken taken_now (written_by (key_events echo byte))

-- nothing was read or written
pub record IsUntaken (left taken left_now taken_now : Option (List ℕ)) : Type 0 where
  pub same_left : left_now ≡ left
  pub same_taken : taken_now ≡ taken

-- what is left of input and output where a fault refused the key
abbrev pub IsRefusedKey : Bool → Option (List ℕ) → Option (List ℕ) → Option (List ℕ) → Option (List ℕ) → Fault → Type 0
IsRefusedKey echo left taken left_now taken_now Input = IsUntaken left taken left_now taken_now
IsRefusedKey echo left taken left_now taken_now Output = IsCutKey echo left taken left_now taken_now
