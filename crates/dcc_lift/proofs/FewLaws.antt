-- The frames of an accepted program have few cells and few arguments.
use Rattle.std.proofs.Common.{◌≡◌, ◌≢◌, ◌∙◌, sym, ap, ℕ, ◌≤◌, ◌<◌, ◌<ℤ◌, inl, inr, List, [], ◌∷◌, map, take, length, get_or, All, AllPairs, arith}
use Rattle.std.specs.List.{AllZip}
use Rattle.std.proofs.lemmas.Bool.{cases_lt}
use Rattle.std.proofs.lemmas.Int.{ints}
use Rattle.std.proofs.lemmas.List.{length-map, length-take-le, get_or-map, get_or-take}
use Rattle.std.proofs.lemmas.List.Elements.{All-nil, All-cons, All-head, All-tail, All-map, All-take}
use Rattle.dcc_machine.specs.declared.image.Image.{Image}
use Rattle.dcc_prog.specs.declared.procedure.Layout.{Layout}
use Rattle.dcc_prog.specs.declared.procedure.Proc.{Proc}
use Rattle.dcc_prog.specs.declared.frame.Cell.{Cell}
use Rattle.dcc_prog.specs.declared.frame.Frame.{Frame}
use Rattle.dcc_prog.specs.declared.refusal.LimitName.TheVariants.{Cells, Arguments}
use Rattle.dcc_prog.specs.Trail.{IsEntry}
use Rattle.dcc_prog.specs.Frame.{Span, IsCell}
use Rattle.dcc_prog.specs.Limit.{HasMany, cells, arguments}
use Rattle.dcc_prog.specs.Refused.{IsAcceptedByFrames}
use Rattle.dcc_prog.specs.Analysed.{IsFrameOf, bytes_of}

-- cells that ascend differ
other_bytes : (a b : Cell) → a.first <ℤ b.first → bytes_of a ≢ bytes_of b
other_bytes a b less same = let e : a.first ≡ b.first = ap (λ (s : Span). s.first) same in
    omega (arith, ints, less, e)

apart : (xs : List Cell) → AllPairs (λ (a b : Cell). a.first <ℤ b.first) xs → (n : ℕ) → n ≤ length xs
    → AllPairs (λ (x y : Span). x ≢ y) (map bytes_of (take n xs))
apart [] ascending n few i j d less inside = let none : List Cell = [] in
    absurd (omega (arith, length-map (take n none) bytes_of, length-take-le n none few))
apart (x ∷ xs) ascending n few i j d less inside =
    let cells = x ∷ xs in
    let long : length (take n cells) ≡ n = length-take-le n cells few in
    let mapped : length (map bytes_of (take n cells)) ≡ length (take n cells) = length-map (take n cells) bytes_of in
    let low : j < n = omega arith in
    let at : (k : ℕ) → k < n → get_or (map bytes_of (take n cells)) k d ≡ bytes_of (get_or cells k x)
    = λ k small. get_or-map bytes_of (take n cells) k x d (omega (arith, small, long))
    ∙ ap bytes_of (get_or-take n cells k x small) in
    λ same. other_bytes (get_or cells i x) (get_or cells j x) (ascending i j x less (omega arith))
    (sym (at i (omega arith)) ∙ (same ∙ at j low))

module _ (image : Image) (layout : Layout) (proc : Proc) (frame : Frame) (entry : IsEntry image layout proc.entry)
    (accepted : IsAcceptedByFrames image layout)
    (is : IsFrameOf image layout proc frame) where
  many : 512 < length frame.cells.items → HasMany (IsCell image layout proc.entry) 513
  many more = record {
    values = map bytes_of (take 513 frame.cells.items);
    hold = All-map (IsCell image layout proc.entry) bytes_of (take 513 frame.cells.items)
        (All-take (λ cell. IsCell image layout proc.entry (bytes_of cell)) 513 frame.cells.items is.cells);
    distinct = apart frame.cells.items is.ascending 513 (omega arith);
    count_is = length-map (take 513 frame.cells.items) bytes_of ∙ length-take-le 513 frame.cells.items (omega arith);
  }

  pub few_in_frame : (length frame.cells.items ≤ 512) × (frame.args ≤ 32)
  few_in_frame = (
    elim (cases_lt 512 (length frame.cells.items)) [
      | inl more ↦ absurd (accepted.no_limit Cells 513 (cells entry (many more)))
      | inr few ↦ few
    ],
    elim (cases_lt 32 frame.args) [
      | inl more ↦ absurd (accepted.no_limit Arguments frame.args (arguments entry is.arguments more))
      | inr few ↦ few
    ],
  )

abbrev pub IsFew : Frame → Type 0
IsFew frame = (length frame.cells.items ≤ 512) × (frame.args ≤ 32)

abbrev pub IsReached : Image → Layout → Proc → Type 0
IsReached image layout proc = IsEntry image layout proc.entry

pub few_in_frames : (image : Image) (layout : Layout) (procs : List Proc) (frames : List Frame)
    → All (λ proc. IsEntry image layout proc.entry) procs
    → IsAcceptedByFrames image layout → AllZip (IsFrameOf image layout) procs frames → All IsFew frames
few_in_frames image layout [] [] entries accepted are = All-nil IsFew
few_in_frames image layout [] (frame ∷ frames) entries accepted are = absurd are
few_in_frames image layout (proc ∷ procs) [] entries accepted are = absurd are
few_in_frames image layout (proc ∷ procs) (frame ∷ frames) entries accepted are =
    All-cons IsFew frame frames
    (few_in_frame image layout proc frame (All-head (IsReached image layout) proc procs entries) accepted are.0)
    (few_in_frames image layout procs frames (All-tail (IsReached image layout) proc procs entries) accepted are.1)
