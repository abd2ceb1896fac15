-- A program in which the analyses find nothing to refuse is sound, and one that is sound is refused by them for want of
-- memory alone.
use Rattle.std.proofs.Common.{◌≡◌, ◌⊎◌, inl, inr, ℕ, refl, subst}
use Rattle.dcc_machine.specs.declared.cpu.Cpu.{Cpu}
use Rattle.dcc_machine.specs.declared.image.Image.{Image}
use Rattle.dcc_prog.specs.declared.procedure.Layout.{Layout}
use Rattle.dcc_prog.specs.declared.refusal.ConstructKind.{ConstructKind}
use Rattle.dcc_prog.specs.declared.refusal.LimitName.{LimitName}
use Rattle.dcc_prog.specs.declared.refusal.Refusal.{Refusal}
use Rattle.dcc_prog.specs.declared.refusal.Refusal.TheVariants.{Memory}
use Rattle.dcc_prog.specs.Layout.{HasLayout}
use Rattle.dcc_prog.specs.Construct.{IsOfTrails, IsOfHeights, IsOfFrames, IsConstruct, lacks_layout, of_trails, of_heights, of_frames}
use Rattle.dcc_prog.specs.Limit.{IsAbove, IsAboveInFrames}
use Rattle.dcc_prog.specs.Refused.{PassesLimit, IsSound, IsUnsound, has_construct, passes_limit, IsRefusedBy, construct, limit, IsAcceptedByAll, IsRefusedByAnalysis, no_layout, by_trails, by_heights, by_frames}
use Rattle.dcc_prog.proofs.LayoutLaws.{layout-once}

module _ (image : Image) (layout : Layout) (has : HasLayout image layout) where
  -- two layouts of an image that hold on one processor are the same
  same_layout : (other : Layout) → other.cpu ≡ layout.cpu → HasLayout image other → other ≡ layout
  same_layout other runs_on other_has = layout-once image layout other runs_on has other_has

  module _ (all : IsAcceptedByAll image layout) where
    no-construct : (kind : ConstructKind) (at : ℕ) → ¬ IsConstruct layout.cpu kind image at
    no-construct _ at (lacks_layout l) = l.none layout refl has
    no-construct kind at (of_trails {layout = other} runs_on other_has h) =
        all.trails.no_construct kind at (subst (λ l. IsOfTrails kind image l at) (same_layout other runs_on other_has) h)
    no-construct kind at (of_heights {layout = other} runs_on other_has h) =
        all.heights.no_construct kind at (subst (λ l. IsOfHeights kind image l at) (same_layout other runs_on other_has) h)
    no-construct kind at (of_frames {layout = other} runs_on other_has h) =
        all.frames.no_construct kind at (subst (λ l. IsOfFrames kind image l at) (same_layout other runs_on other_has) h)

    not-above : (what : LimitName) (count : ℕ) → ¬ (IsAbove image layout what count ⊎ IsAboveInFrames image layout what count)
    not-above what count (inl h) = all.trails.no_limit what count h
    not-above what count (inr h) = all.frames.no_limit what count h

    no-limit : (what : LimitName) (count : ℕ) → ¬ PassesLimit layout.cpu image what count
    no-limit what count p =
        not-above what count (subst (λ l. IsAbove image l what count ⊎ IsAboveInFrames image l what count)
        (same_layout p.layout p.runs_on p.has) p.above)

    pub all-sound : IsSound layout.cpu image
    all-sound = record { no_construct = no-construct; no_limit = no-limit }

-- nothing stands in a sound program for which it would be refused
pub sound-not_unsound : (cpu : Cpu) (image : Image) → IsSound cpu image → ¬ IsUnsound cpu image
sound-not_unsound cpu image s (has_construct {kind = kind} {at = at} h) = s.no_construct kind at h
sound-not_unsound cpu image s (passes_limit {what = what} {count = count} h) = s.no_limit what count h

-- where an analysis may tell nothing, it tells want of memory alone
told-memory :
    {Stands : ConstructKind → ℕ → Type 0} {Passes : LimitName → ℕ → Type 0}
    → ((kind : ConstructKind) (at : ℕ) → ¬ Stands kind at) → ((what : LimitName) (count : ℕ) → ¬ Passes what count)
    → (refusal : Refusal) → IsRefusedBy Stands Passes refusal → refusal ≡ Memory
told-memory none under refusal (construct {kind = kind} {at = at} h) = absurd (none kind at h)
told-memory none under refusal (limit {what = what} {count = count} h) = absurd (under what count h)
told-memory none under refusal IsRefusedBy.no_memory = refl

-- what the analyses tell of a sound program is want of memory
pub sound-memory :
    (cpu : Cpu) (image : Image) (refusal : Refusal) → IsSound cpu image → IsRefusedByAnalysis cpu image refusal
    → refusal ≡ Memory
sound-memory cpu image refusal s (no_layout {at = at} h) = absurd (s.no_construct _ at (lacks_layout h))
sound-memory cpu image refusal s (by_trails {layout = layout} runs_on has h) =
    told-memory (λ kind at c. s.no_construct kind at (of_trails runs_on has c))
    (λ what count c. s.no_limit what count (record { layout = layout; runs_on = runs_on; has = has; above = inl c }))
    refusal h
sound-memory cpu image refusal s (by_heights runs_on has trails h) =
    told-memory (λ kind at c. s.no_construct kind at (of_heights runs_on has c)) (λ what count c. c) refusal h
sound-memory cpu image refusal s (by_frames {layout = layout} runs_on has trails heights h) =
    told-memory (λ kind at c. s.no_construct kind at (of_frames runs_on has c))
    (λ what count c. s.no_limit what count (record { layout = layout; runs_on = runs_on; has = has; above = inr c }))
    refusal h
sound-memory cpu image refusal s IsRefusedByAnalysis.no_memory = refl
