-- What the analyses refuse of programs, and why.
use Rattle.std.specs.Prelude.{◌≡◌, ◌⊎◌, ℕ}
use Rattle.dcc_machine.specs.declared.cpu.Cpu.{Cpu}
use Rattle.dcc_machine.specs.declared.image.Image.{Image}
use Rattle.dcc_prog.specs.declared.procedure.Layout.{Layout}
use Rattle.dcc_prog.specs.declared.refusal.ConstructKind.{ConstructKind}
use Rattle.dcc_prog.specs.declared.refusal.ConstructKind.TheVariants.{NoLayout}
use Rattle.dcc_prog.specs.declared.refusal.LimitName.{LimitName}
use Rattle.dcc_prog.specs.declared.refusal.Refusal.{Refusal}
use Rattle.dcc_prog.specs.declared.refusal.Refusal.TheVariants.{Construct, Limit, Memory}
use Rattle.dcc_prog.specs.Layout.{HasLayout}
use Rattle.dcc_prog.specs.Construct.{LacksLayout, IsOfTrails, IsOfHeights, IsOfFrames, IsConstruct}
use Rattle.dcc_prog.specs.Limit.{IsAbove, IsAboveInFrames}

-- in a layout of the image for the processor the count is above its greatest number
pub record PassesLimit (cpu : Cpu) (image : Image) (what : LimitName) (count : ℕ) : Type 0 where
  pub layout : Layout
  pub runs_on : layout.cpu ≡ cpu
  pub has : HasLayout image layout
  pub above : IsAbove image layout what count ⊎ IsAboveInFrames image layout what count

-- no construct stands anywhere, and no count passes its greatest number
pub record IsSound (cpu : Cpu) (image : Image) : Type 0 where
  pub no_construct : (kind : ConstructKind) (at : ℕ) → ¬ IsConstruct cpu kind image at
  pub no_limit : (what : LimitName) (count : ℕ) → ¬ PassesLimit cpu image what count

-- a construct of any kind stands somewhere, or a count passes its greatest number
pub data IsUnsound (cpu : Cpu) (image : Image) : Type 0 where
  has_construct : {kind : ConstructKind} {at : ℕ} → IsConstruct cpu kind image at → IsUnsound cpu image
  passes_limit : {what : LimitName} {count : ℕ} → PassesLimit cpu image what count → IsUnsound cpu image

-- What one analysis may tell of a program that it refuses: a construct of those that it tells, or a count of its own
-- above its greatest number; where several of these stand, any of them may be told. Want of memory has no cause.
pub data IsRefusedBy (Stands : ConstructKind → ℕ → Type 0) (Passes : LimitName → ℕ → Type 0) : Refusal → Type 0 where
  construct : {kind : ConstructKind} {at : ℕ} → Stands kind at → IsRefusedBy Stands Passes (Construct kind at)
  limit : {what : LimitName} {count : ℕ} → Passes what count → IsRefusedBy Stands Passes (Limit what count)
  no_memory : IsRefusedBy Stands Passes Memory

-- one analysis has nothing to tell that refuses the program: no construct of those that it tells, and no count of its
-- own above its greatest number
pub record IsAcceptedBy (Stands : ConstructKind → ℕ → Type 0) (Passes : LimitName → ℕ → Type 0) : Type 0 where
  pub no_construct : (kind : ConstructKind) (at : ℕ) → ¬ Stands kind at
  pub no_limit : (what : LimitName) (count : ℕ) → ¬ Passes what count

-- what the search for procedures may refuse the program for
abbrev pub IsRefusedByTrails : Image → Layout → Refusal → Type 0
IsRefusedByTrails image layout = IsRefusedBy (λ kind at. IsOfTrails kind image layout at) (IsAbove image layout)

abbrev pub IsAcceptedByTrails : Image → Layout → Type 0
IsAcceptedByTrails image layout = IsAcceptedBy (λ kind at. IsOfTrails kind image layout at) (IsAbove image layout)

-- what the analysis of heights, which has no count, may refuse the program for
abbrev pub IsRefusedByHeights : Image → Layout → Refusal → Type 0
IsRefusedByHeights image layout = IsRefusedBy (λ kind at. IsOfHeights kind image layout at) (λ what count. ⊥)

abbrev pub IsAcceptedByHeights : Image → Layout → Type 0
IsAcceptedByHeights image layout = IsAcceptedBy (λ kind at. IsOfHeights kind image layout at) (λ what count. ⊥)

-- what the analysis of frames may refuse the program for
abbrev pub IsRefusedByFrames : Image → Layout → Refusal → Type 0
IsRefusedByFrames image layout =
    IsRefusedBy (λ kind at. IsOfFrames kind image layout at) (IsAboveInFrames image layout)

abbrev pub IsAcceptedByFrames : Image → Layout → Type 0
IsAcceptedByFrames image layout =
    IsAcceptedBy (λ kind at. IsOfFrames kind image layout at) (IsAboveInFrames image layout)

-- nothing that trails, heights or frames tell refuses the program
pub record IsAcceptedByAll (image : Image) (layout : Layout) : Type 0 where
  pub trails : IsAcceptedByTrails image layout
  pub heights : IsAcceptedByHeights image layout
  pub frames : IsAcceptedByFrames image layout

-- What the analyses may tell of a program that is refused on a processor, and in which order. The layout comes first:
-- where none holds of the image, this is told at its entry, and nothing else is. All else is told of the layout that
-- holds: what trails tell, then what heights do, then what frames do, each only where those before refuse nothing.
pub data IsRefusedByAnalysis (cpu : Cpu) (image : Image) : Refusal → Type 0 where
  no_layout : {at : ℕ} → LacksLayout cpu image at → IsRefusedByAnalysis cpu image (Construct NoLayout at)
  by_trails :
      {layout : Layout} {refusal : Refusal}
      → layout.cpu ≡ cpu
      → HasLayout image layout
      → IsRefusedByTrails image layout refusal
      → IsRefusedByAnalysis cpu image refusal
  by_heights :
      {layout : Layout} {refusal : Refusal}
      → layout.cpu ≡ cpu
      → HasLayout image layout
      → IsAcceptedByTrails image layout
      → IsRefusedByHeights image layout refusal
      → IsRefusedByAnalysis cpu image refusal
  by_frames :
      {layout : Layout} {refusal : Refusal}
      → layout.cpu ≡ cpu
      → HasLayout image layout
      → IsAcceptedByTrails image layout
      → IsAcceptedByHeights image layout
      → IsRefusedByFrames image layout refusal
      → IsRefusedByAnalysis cpu image refusal
  no_memory : IsRefusedByAnalysis cpu image Memory
