-- The procedures, where none is left of those that are found or of their frames.
use Rattle.std.proofs.Common.{◌≡◌, ◌∙◌, refl, ℕ, ◌≤◌, List, [], ◌∷◌, drop, length, min, inl, inr, arith}
use Rattle.std.proofs.lemmas.Bool.{cases_lt}
use Rattle.std.proofs.lemmas.List.{at_drop_all}
use Rattle.dcc_prog.specs.declared.procedure.Layout.{Layout}
use Rattle.dcc_prog.specs.declared.procedure.Proc.{Proc}
use Rattle.dcc_prog.specs.declared.frame.Frame.{Frame}
use Rattle.dcc_simulation.specs.Procedures.{procedures_of}

no_frames : (layout : Layout) (procs : List Proc) → procedures_of layout procs [] ≡ []
no_frames layout [] = refl
no_frames layout (proc ∷ procs) = refl

procedures_out : (layout : Layout) (i : ℕ) (procs : List Proc) (frames : List Frame) → length procs ≤ i
    → procedures_of layout (drop i procs) (drop i frames) ≡ []
procedures_out layout i procs frames past = at_drop_all (λ xs. procedures_of layout xs (drop i frames)) procs i past

frames_out : (layout : Layout) (i : ℕ) (procs : List Proc) (frames : List Frame) → length frames ≤ i
    → procedures_of layout (drop i procs) (drop i frames) ≡ []
frames_out layout i procs frames past = at_drop_all (λ ys. procedures_of layout (drop i procs) ys) frames i past
    ∙ no_frames layout (drop i procs)

-- none is left
pub all_taken : (layout : Layout) (i : ℕ) (procs : List Proc) (frames : List Frame)
    → min (length procs) (length frames) ≤ i → procedures_of layout (drop i procs) (drop i frames) ≡ []
all_taken layout i procs frames past = elim (cases_lt i (length procs)) [
  | inl inside ↦ frames_out layout i procs frames (omega arith)
  | inr out ↦ procedures_out layout i procs frames out
]
