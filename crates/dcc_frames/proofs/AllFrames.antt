-- The frames of all procedures.
use Rattle.std.proofs.Common.{◌≡◌, ◌<◌, ℕ, zero, suc, ◌+◌, List, [], ◌∷◌, ◌++◌, take, length, get_or, slice_get, All, Option, Some, refl, sym, ap, ◌∙◌, subst, arith}
use Rattle.std.specs.List.{AllZip}
use Rattle.std.proofs.lemmas.List.{take_more}
use Rattle.std.proofs.lemmas.List.Elements.{All-contains}
use Rattle.dcc_machine.specs.declared.image.Image.{Image}
use Rattle.dcc_prog.specs.declared.procedure.Layout.{Layout}
use Rattle.dcc_prog.specs.declared.procedure.Proc.{Proc}
use Rattle.dcc_prog.specs.declared.frame.Heights.{Heights}
use Rattle.dcc_prog.specs.declared.frame.Frame.{Frame}
use Rattle.dcc_prog.specs.declared.frame.Cells.{Cells}
use Rattle.dcc_prog.specs.declared.refusal.ConstructKind.{ConstructKind}
use Rattle.dcc_prog.specs.declared.refusal.LimitName.{LimitName}
use Rattle.dcc_prog.specs.Trail.{IsEntry}
use Rattle.dcc_prog.specs.Construct.{IsOfFrames}
use Rattle.dcc_prog.specs.Frame.{HasArguments}
use Rattle.dcc_prog.specs.Limit.{IsAboveInFrames, cells, arguments}
use Rattle.dcc_prog.specs.Analysed.{IsFrameOf, AreFrames}
use Rattle.dcc_frames.specs.declared.body.Body.{Body}
use Rattle.dcc_frames.specs.Body.{IsBody, IsBodyOf, AreMeasured, AreBodies, AreCounts, HasCounts}
use Rattle.dcc_frames.specs.Frames.{AreAnalysed}
use Rattle.dcc_frames.specs.Ready.{IsReady, AreAllReady, IsFrameAt, AreFramesAt}
use Rattle.dcc_frames.proofs.Zipped.{zipped-at, zipped-push, zipped-length}

-- one after another
pub frames-more :
    (image : Image) (layout : Layout) (bodies : List Body) (i : ℕ) (body : Body) (frames : List Frame) (frame : Frame)
    → i < length bodies → body ≡ get_or bodies i body → AreFramesAt image layout (take i bodies) frames
    → IsFrameAt image layout body.entry frame → AreFramesAt image layout (take (i + 1) bodies) (frames ++ frame ∷ [])
frames-more image layout bodies i body frames frame inside read before one =
    subst (λ l. AreFramesAt image layout l (frames ++ frame ∷ []))
    (ap (λ b. take i bodies ++ b ∷ []) read ∙ sym (take_more bodies i body inside))
    (zipped-push (λ (b : Body). IsFrameAt image layout b.entry) (take i bodies) frames body frame before one)

pub ready-at :
    (image : Image) (layout : Layout) (bodies : List Body) (counts : ℕ → Option ℕ) (delta : ℕ)
    → AreAllReady image layout bodies counts delta → (i : ℕ) (body : Body) → i < length bodies
    → body ≡ get_or bodies i body
    → IsReady image layout body counts delta
ready-at image layout bodies counts delta ready i body inside read = record {
  is_body = subst (IsBody image layout) (sym read) (ready.are_bodies i body inside);
  has_counts = ready.has_counts;
  delta_is = ready.delta_is;
}

index-of : {A : Type 0} (xs : List A) (i : ℕ) (x : A) → slice_get xs i ≡ Some x → (i < length xs) × (get_or xs i x ≡ x)
index-of [] i x e = absurd (cc)
index-of (y ∷ xs) zero x e = (omega arith, cc)
index-of (y ∷ xs) (suc i) x e = let rest = index-of xs i x e in (let less = rest.0 in omega (arith, less), rest.1)

element : {A : Type 0} (xs : List A) (i : ℕ) → i < length xs → (x : A) × (get_or xs i x ≡ x)
element [] i inside = absurd (omega (arith, inside))
element (x ∷ xs) zero inside = (x, refl)
element (x ∷ xs) (suc i) inside = element xs i (omega (arith, inside))

module _ (image : Image) (layout : Layout) (procs : List Proc) (heights : Heights) (delta : ℕ)
    (a : AreAnalysed image layout procs heights delta) where
  -- what the code has read is what was analysed
  pub measured : (read : List Proc) → read ≡ procs → AreMeasured image layout read heights
  measured read same =
      subst (λ l. AreMeasured image layout l heights) (sym same)
      (record { found = a.found; heights_are = a.heights_are })

  pub bodies-of :
      (read : List Proc) (bodies : List Body) → read ≡ procs
      → (AreMeasured image layout read heights → AreBodies image layout read bodies)
      → AreBodies image layout procs bodies
  bodies-of read bodies same made = subst (λ l. AreBodies image layout l bodies) same (made (measured read same))

  module _ (bodies : List Body) (are : AreBodies image layout procs bodies) where
    all-bodies : All (IsBody image layout) bodies
    all-bodies k d inside =
        let long = zipped-length (IsBodyOf image layout) procs bodies are in
        (zipped-at (IsBodyOf image layout) procs bodies k (a.found.order.start) d are
        (omega (arith, inside, long))).is_body

    -- a procedure that is reached, and its place
    record HasPlace (entry : ℕ) : Type 0 where
      proc : Proc
      place : ℕ
      inside : place < length procs
      read : get_or procs place proc ≡ proc
      entry_is : proc.entry ≡ entry

    has-place : (entry : ℕ) → IsEntry image layout entry → HasPlace entry
    has-place entry is_entry =
        let h = a.found.every entry is_entry in
        let i = index-of procs h.place h.proc h.listed in
        record { proc = h.proc; place = h.place; inside = i.0; read = i.1; entry_is = h.entry_is }

    module _ (counts : ℕ → Option ℕ) (counted : AreCounts bodies counts) where
      pub has-counts : HasCounts image layout counts
      has-counts entry is_entry =
          let h = has-place entry is_entry in
          let long = zipped-length (IsBodyOf image layout) procs bodies are in
          let inside : h.place < length bodies = (let less = h.inside in omega (arith, less, long)) in
          let e = element bodies h.place inside in
          let body : Body = e.0 in
          let of_proc : IsBodyOf image layout h.proc body =
          subst (λ (p : Proc). IsBodyOf image layout p body) h.read
          (subst (IsBodyOf image layout (get_or procs h.place h.proc)) e.1
          (zipped-at (IsBodyOf image layout) procs bodies h.place h.proc body are h.inside)) in
          let c : (count : ℕ) × (counts body.entry ≡ Some count) =
          subst (λ (b : Body). (count : ℕ) × (counts b.entry ≡ Some count)) e.1 (counted.every h.place body inside) in
          let same : body.entry ≡ entry = of_proc.entry_is ∙ h.entry_is in
          let found : counts entry ≡ Some c.0 = ap counts (sym same) ∙ c.1 in
          let other = counted.each entry c.0 found in
          let is = All-contains (IsBody image layout) bodies other.body all-bodies other.among in
          record {
            count = c.0;
            found = found;
            arguments =
                subst (λ e. HasArguments image layout e c.0) other.entry_is
                (subst (HasArguments image layout other.body.entry) other.count_is is.arguments);
          }

      pub all-ready : (read : List Body) → read ≡ bodies → AreAllReady image layout read counts delta
      all-ready read same =
          subst (λ l. AreAllReady image layout l counts delta) (sym same)
          (record { are_bodies = all-bodies; has_counts = has-counts; delta_is = a.delta_is })

    module _ (frames : List Frame) (told : AreFramesAt image layout bodies frames) where
      -- the frame at a place
      frame-at : (place : ℕ) (frame : Frame) → place < length procs → get_or frames place frame ≡ frame → (proc : Proc)
          → get_or procs place proc ≡ proc → IsFrameAt image layout proc.entry frame
      frame-at place frame inside read proc read' =
          let long = zipped-length (IsBodyOf image layout) procs bodies are in
          let less : place < length bodies = omega (arith, inside, long) in
          let e = element bodies place less in
          let body : Body = e.0 in
          let of_proc : IsBodyOf image layout proc body =
          subst (λ (p : Proc). IsBodyOf image layout p body) read'
          (subst (IsBodyOf image layout (get_or procs place proc)) e.1
          (zipped-at (IsBodyOf image layout) procs bodies place proc body are inside)) in
          let at_body : IsFrameAt image layout body.entry frame =
          subst (λ (b : Body). IsFrameAt image layout b.entry frame) e.1
          (subst (IsFrameAt image layout (get_or bodies place body).entry) read
          (zipped-at (λ (b : Body). IsFrameAt image layout b.entry) bodies frames place body frame told less)) in
          subst (λ e. IsFrameAt image layout e frame) of_proc.entry_is at_body

      lengths : length procs ≡ length frames
      lengths =
          zipped-length (IsBodyOf image layout) procs bodies are
          ∙ zipped-length (λ (b : Body). IsFrameAt image layout b.entry) bodies frames told

      of-entry : (entry : ℕ) → IsEntry image layout entry → (frame : Frame) × IsFrameAt image layout entry frame
      of-entry entry is_entry =
          let h = has-place entry is_entry in
          let e = element frames h.place (let less = h.inside in let long = lengths in omega (arith, less, long)) in
          (e.0, subst (λ n. IsFrameAt image layout n e.0) h.entry_is (frame-at h.place e.0 h.inside e.1 h.proc h.read))

      no-construct : (kind : ConstructKind) (at : ℕ) → ¬ IsOfFrames kind image layout at
      no-construct kind at h = (of-entry h.entry h.is_entry).1.clean kind at h.node h.stands

      no-limit : (what : LimitName) (count : ℕ) → ¬ IsAboveInFrames image layout what count
      no-limit _ _ (cells {entry} is_entry many) = (of-entry entry is_entry).1.few_cells many
      no-limit _ count (arguments {entry} is_entry given more) =
          let few = (of-entry entry is_entry).1.few_arguments count given in absurd (omega (arith, few, more))

    frame-of : (proc : Proc) (frame : Frame) → IsFrameAt image layout proc.entry frame
        → IsFrameOf image layout proc frame
    frame-of proc frame f = record {
      framed = f.framed;
      arguments = f.arguments;
      cells = f.cells;
      ascending = f.ascending;
      every = f.every;
      local = f.local;
      argument = f.argument;
    }

    zip-frames : (procs : List Proc) (bodies : List Body) (frames : List Frame)
        → AllZip (IsBodyOf image layout) procs bodies
        → AreFramesAt image layout bodies frames → AllZip (IsFrameOf image layout) procs frames
    zip-frames [] [] [] are told = tt
    zip-frames [] [] (frame ∷ frames) are told = absurd told
    zip-frames [] (body ∷ bodies) frames are told = absurd are
    zip-frames (proc ∷ procs) [] frames are told = absurd are
    zip-frames (proc ∷ procs) (body ∷ bodies) [] are told = absurd told
    zip-frames (proc ∷ procs) (body ∷ bodies) (frame ∷ frames) are told = (
      frame-of proc frame (subst (λ e. IsFrameAt image layout e frame) are.0.entry_is told.0),
      zip-frames procs
          bodies frames are.1 told.1,
    )

    pub all-frames : (frames : List Frame) → AreFramesAt image layout bodies frames → (found : Cells)
        → found.frames.items ≡ frames
        → AreFrames image layout procs found
    all-frames frames told found is = record {
      frames = subst (AllZip (IsFrameOf image layout) procs) (sym is) (zip-frames procs bodies frames are told);
      accepted = record { no_construct = no-construct frames told; no_limit = no-limit frames told };
    }
