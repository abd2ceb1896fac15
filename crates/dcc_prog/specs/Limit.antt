-- The counts that have a greatest number: those that trails tell, and those of frames.
use Rattle.std.specs.Prelude.{◌≡◌, ◌≢◌, ◌≤◌, ◌<◌, ℕ, ◌+◌, List, length, All, AllPairs, Some}
use Rattle.dcc_machine.specs.declared.image.Image.{Image}
use Rattle.dcc_prog.specs.declared.procedure.Layout.{Layout}
use Rattle.dcc_prog.specs.declared.refusal.LimitName.{LimitName}
use Rattle.dcc_prog.specs.declared.refusal.LimitName.TheVariants.{Procedures, Instructions, Total, Cells, Entries}
use Rattle.dcc_prog.specs.declared.refusal.LimitName.TheVariants.{Arguments}
use Rattle.dcc_prog.specs.Trail.{IsNode, IsEntry}
use Rattle.dcc_prog.specs.Construct.{HasNumber}
use Rattle.dcc_prog.specs.Frame.{HasArguments, IsCell}

-- there are at least `count` different values of which the predicate holds
pub record HasMany {A : Type 0} (P : A → Type 0) (count : ℕ) : Type 0 where
  pub values : List A
  pub hold : All P values
  pub distinct : AllPairs (λ x y. x ≢ y) values
  pub count_is : length values ≡ count

-- the pair is the entry of a reached procedure and one of its nodes
pub record IsNodeOf (image : Image) (layout : Layout) (place : ℕ × ℕ) : Type 0 where
  pub is_entry : IsEntry image layout place.0
  pub node : IsNode image layout place.0 place.1

-- The count of this name is above its greatest number, and is told so: of procedures, of instructions of a procedure
-- and of those of a program one more than the greatest number is told.
pub data IsAbove (image : Image) (layout : Layout) : LimitName → ℕ → Type 0 where
  procedures : HasMany (IsEntry image layout) 513 → IsAbove image layout Procedures 513
  instructions :
      {entry : ℕ}
      → IsEntry image layout entry
      → HasMany (IsNode image layout entry) 4097
      → IsAbove image layout Instructions 4097
  total : HasMany (IsNodeOf image layout) 32769 → IsAbove image layout Total 32769
  entries :
      {entry at number : ℕ}
      → IsEntry image layout entry
      → HasNumber image layout entry at (Some number)
      → 256 ≤ number
      → IsAbove image layout Entries (number + 1)

-- a count of a procedure's frame is above its greatest number: of cells one more than 512 is told, of argument words
-- their number
pub data IsAboveInFrames (image : Image) (layout : Layout) : LimitName → ℕ → Type 0 where
  cells :
      {entry : ℕ}
      → IsEntry image layout entry
      → HasMany (IsCell image layout entry) 513
      → IsAboveInFrames image layout Cells 513
  arguments :
      {entry count : ℕ}
      → IsEntry image layout entry
      → HasArguments image layout entry count
      → 32 < count
      → IsAboveInFrames image layout Arguments count
