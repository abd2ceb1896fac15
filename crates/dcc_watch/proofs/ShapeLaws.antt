-- The table of shapes, filled from the last frame to the first.
use Rattle.std.proofs.Common.{◌≡◌, ℕ, ◌+◌, ◌<◌, ◌≤◌, ◌⊎◌, inl, inr, List, [], ◌∷◌, drop, length, get_or, set, refl, sym, ap, ◌∙◌, arith, length-set}
use Rattle.std.proofs.lemmas.List.{drop_more, length-replicate}
use Rattle.std.proofs.lemmas.Grind.{common_steps}
use Rattle.dcc_prog.specs.declared.procedure.Proc.{Proc}
use Rattle.dcc_prog.specs.declared.frame.Frame.{Frame}
use Rattle.dcc_watch.specs.declared.shape.Shape.{Shape}
use Rattle.dcc_watch.specs.declared.shape.TheConstants.{NO_SHAPE}
use Rattle.dcc_watch.specs.Shapes.{shape_of, shapes_of, no_shapes}

pub shapes-more : (procs : List Proc) (frames : List Frame) (i next : ℕ) (entry : ℕ) (proc : Proc) (frame : Frame) (shapes : List Shape) (shape : Shape)
    → next ≡ i + 1 → i < length procs → i < length frames → entry ≡ (get_or procs i proc).entry → frame ≡ get_or frames i frame
    → shape ≡ shape_of frame → shapes ≡ shapes_of (drop next procs) (drop next frames)
    → set shapes entry shape ≡ shapes_of (drop i procs) (drop i frames)
shapes-more procs frames i next entry proc frame shapes shape more lt less at is of was =
    let first = drop_more procs i proc lt in
    let second = drop_more frames i frame less in
    let rest : shapes ≡ shapes_of (drop (i + 1) procs) (drop (i + 1) frames) = was ∙ ap (λ n. shapes_of (drop n procs) (drop n frames)) more in
    ap (λ l. set l entry shape) rest
    ∙ ap (λ e. set (shapes_of (drop (i + 1) procs) (drop (i + 1) frames)) e shape) at
    ∙ ap (λ s. set (shapes_of (drop (i + 1) procs) (drop (i + 1) frames)) (get_or procs i proc).entry s) (of ∙ ap shape_of is)
    ∙ sym (ap (λ l. shapes_of l (drop i frames)) first
    ∙ ap (shapes_of (get_or procs i proc ∷ drop (i + 1) procs)) second)

past : {A : Type 0} (l : List A) (n : ℕ) → length l ≤ n → drop n l ≡ []
past l n le = grind (arith, common_steps)

no_frames : (procs : List Proc) → shapes_of procs [] ≡ no_shapes
no_frames [] = refl
no_frames (proc ∷ procs) = refl

pub no_procs : (frames : List Frame) → shapes_of [] frames ≡ no_shapes
no_procs frames = refl

-- past the last of either, there is no shape
pub shapes-past : (procs : List Proc) (frames : List Frame) (i : ℕ) → (length procs ≤ i) ⊎ (length frames ≤ i) → no_shapes ≡ shapes_of (drop i procs) (drop i frames)
shapes-past procs frames i either = elim either [
  | inl le ↦ ap (λ l. shapes_of l (drop i frames)) (sym (past procs i le))
  | inr le ↦ sym (no_frames (drop i procs)) ∙ ap (shapes_of (drop i procs)) (sym (past frames i le))
]

length-none : length no_shapes ≡ 65536
unfolding no_shapes
length-none = length-replicate 65536 NO_SHAPE

pub length-shapes : (procs : List Proc) (frames : List Frame) → length (shapes_of procs frames) ≡ 65536
length-shapes [] frames = length-none
length-shapes (proc ∷ procs) [] = length-none
length-shapes (proc ∷ procs) (frame ∷ frames) = length-set (shapes_of procs frames) proc.entry (shape_of frame) ∙ length-shapes procs frames
