-- What code keeps, with the console beside it.
use Rattle.std.specs.Prelude.{ℕ, List, [], Option, None, Some}

-- what code keeps, with what its input tells to be left and what its output tells to have taken
pub record WithConsole (C : Type 0) : Type 0 where
  pub code : C
  pub left : Option (List ℕ)
  pub taken : Option (List ℕ)

abbrev pub beside_console : {C : Type 0} → C → Option (List ℕ) → Option (List ℕ) → WithConsole C
beside_console code left taken = record { code = code; left = left; taken = taken }

-- the bytes that are told, and none where nothing is told
abbrev pub told_bytes : Option (List ℕ) → List ℕ
told_bytes None = []
told_bytes (Some bytes) = bytes
