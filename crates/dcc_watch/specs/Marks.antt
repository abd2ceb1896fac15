-- Marks of offsets.
use Rattle.std.specs.Prelude.{◌≡◌, ℕ, ◌<◌, Bool, false, List, replicate}
use Rattle.dcc_prog.specs.Clean.{is_marked}

-- no offset is marked
unfoldable pub no_marks : List Bool
no_marks = replicate 65536 false

-- no offset below this one is marked
abbrev pub HasNoneBelow : ℕ → List Bool → Type 0
HasNoneBelow lowest marks = (offset : ℕ) → offset < lowest → is_marked marks offset ≡ false
