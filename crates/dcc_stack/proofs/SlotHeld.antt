-- What frames hold stays where neither memories nor marks change, and where a byte changes as the frames tell.
use Rattle.std.proofs.Common.{◌≡◌, ◌≢◌, ◌≤◌, ◌<◌, ◌⊎◌, inl, inr, ℕ, ◌+◌, ◌*◌, pos, Bool, true, List, [], ◌∷◌, refl, sym, ap, ◌∙◌, subst, arith}
use Rattle.std.specs.Prelude.{◌-ℤ◌, if◌then◌else◌, slice_index}
use Rattle.std.proofs.lemmas.Bool.{cases_eq, cases_lt}
use Rattle.dcc_machine.specs.declared.image.Image.{Image}
use Rattle.dcc_prog.specs.declared.procedure.Layout.{Layout}
use Rattle.dcc_prog.specs.declared.frame.Program.{Program}
use Rattle.dcc_prog.specs.FrameForm.{is_framed}
use Rattle.dcc_prog.specs.Frame.{IsPlaced}
use Rattle.dcc_prog.specs.Clean.{LiveFrame, end_of, is_marked}
use Rattle.dcc_stack.specs.Apart.{IsApart}
use Rattle.dcc_stack.specs.Slots.{Typed, place_in, Holds, IsChangeable, AreHeld, LiesBelow, AreNested, activations_of}
use Rattle.dcc_stack.proofs.SlotFrames.{base-end}

-- both runs at one time: their memories, and which bytes are written
pub record Sides : Type 0 where
  pub memory : List ℕ
  pub other : List ℕ
  pub written : List Bool

module _ (program : Program) (image : Image) where
  abbrev layout : Layout
  layout = program.layout

  abbrev pub value_at : Sides → ℕ → ℕ
  value_at s offset = slice_index s.memory (program.layout.ds * 16 + offset)

  abbrev pub Held : Sides → (ℕ → Type 0) → ℕ → List Typed → Type 0
  Held s Changes top typed = AreHeld program image s.memory s.other s.written Changes top typed

  abbrev pub ChangeableIn : LiveFrame → ℕ → Type 0
  ChangeableIn frame offset = IsChangeable image program.layout frame offset

  -- a byte is the same in both memories as before, and not newly marked
  pub record Stays (s r : Sides) (offset : ℕ) : Type 0 where
    pub memory : value_at r offset ≡ value_at s offset
    pub other : slice_index r.other offset ≡ slice_index s.other offset
    pub marked : is_marked r.written offset ≡ true → is_marked s.written offset ≡ true

  -- One frame.

  abbrev pub HeldIn : Sides → (ℕ → Type 0) → ℕ → Typed → Type 0
  HeldIn s Changes top t =
      (offset : ℕ)
      → top ≤ offset → offset < end_of program t.activation.frame → is_marked s.written offset ≡ true
      → ¬ Changes offset → IsApart image program.layout offset t.activation
      → Holds image program.layout s.other t offset (slice_index s.memory (program.layout.ds * 16 + offset))

  abbrev apart_of : LiveFrame → ℕ → Type 0
  apart_of frame offset =
      (offset + (if is_framed image layout frame.entry then 4 else 2) < frame.base) ⊎ (frame.base ≤ offset)

  abbrev placed_of : ℕ → LiveFrame → Type 0
  placed_of offset frame = IsPlaced image layout frame.entry (pos (offset + 4) -ℤ pos frame.base)

  -- another frame of that place, with the same byte, holds it as well
  pub holds-same : {other others : List ℕ} (t u : Typed) (offset value : ℕ)
      → u.activation.frame ≡ t.activation.frame → slice_index others offset ≡ slice_index other offset
      → u.slots (place_in t offset) ≡ t.slots (place_in t offset)
      → Holds image layout other t offset value
      → Holds image layout others u offset value
  holds-same t u offset value same byte slot h = record {
    placed = λ is. byte ∙ h.placed (subst (placed_of offset) same is);
    kept =
        λ none.
        ap (λ (f : LiveFrame). u.slots (pos (offset + 4) -ℤ pos f.base)) same ∙ slot
        ∙ h.kept (λ is. none (subst (placed_of offset) (sym same) is));
  }

  pub holds-value : {other : List ℕ} (t : Typed) (offset value after : ℕ) → after ≡ value
      → Holds image layout other t offset value
      → Holds image layout other t offset after
  holds-value t offset value after same h =
      record { placed = λ is. h.placed is ∙ sym same; kept = λ none. h.kept none ∙ sym same }

  pub holds-on : {s r : Sides} (t : Typed) (offset : ℕ) → Stays s r offset
      → Holds image layout s.other t offset (value_at s offset)
      → Holds image layout r.other t offset (value_at r offset)
  holds-on {s = s} {r = r} t offset stays h =
      holds-value t offset (value_at s offset) (value_at r offset) stays.memory
      (holds-same t t offset (value_at s offset) refl stays.other refl h)

  pub head-stays : (s r : Sides) (Changes After : ℕ → Type 0) (top : ℕ) (t : Typed)
      → ((offset : ℕ) → top ≤ offset → offset < end_of program t.activation.frame
      → IsApart image program.layout offset t.activation
      → Stays s r offset ⊎ After offset)
      → ((offset : ℕ) → Changes offset → After offset)
      → HeldIn s Changes top t
      → HeldIn r After top t
  head-stays s r Changes After top t stays grows held offset low high marked kept apart =
      elim (stays offset low high apart) [
        | inl same ↦
            holds-on t offset same
            (held offset low high (same.marked marked) (λ changes. kept (grows offset changes)) apart)
        | inr changes ↦ absurd (kept changes)
      ]

  -- Older frames.

  module _ (s r : Sides) (low : ℕ) (stays : (offset : ℕ) → low ≤ offset → Stays s r offset) where
    pub older-stay : (frame : LiveFrame) (Changes : ℕ → Type 0) (typed : List Typed) → low ≤ frame.base
        → LiesBelow program image frame (activations_of typed)
        → AreNested program image (activations_of typed)
        → Held s Changes frame.base typed
        → Held r Changes frame.base typed
    older-stay frame Changes [] above lies nested held = tt
    older-stay frame Changes (t ∷ callers) above lies nested held =
        let up = base-end image program frame in (
          head-stays s r Changes Changes frame.base t
              (λ offset le _ _. inl (stays offset (omega (arith, above, le)))) (λ offset is. is) held.0,
          older-stay t.activation.frame (ChangeableIn t.activation.frame) callers (omega (arith, above, lies, up))
              nested.2 nested.3 held.1,
        )

  -- One byte changes.

  module _ (s r : Sides) (at : ℕ) (stays : (offset : ℕ) → offset ≢ at → Stays s r offset) where
    -- one byte changes below the newest frame: its own, or in its caller the byte of an argument that may change
    below-newest : (t : Typed) (callers : List Typed) → AreNested program image (activations_of (t ∷ callers))
        → at < end_of program t.activation.frame
        → (t.activation.frame.base ≤ at → ChangeableIn t.activation.frame at)
        → Held s (ChangeableIn t.activation.frame) t.activation.frame.base callers
        → Held r (ChangeableIn t.activation.frame) t.activation.frame.base callers
    below-newest t [] nested inside changes held = tt
    below-newest t (caller ∷ callers) nested inside changes held = elim (cases_lt at t.activation.frame.base) [
      | inl before ↦
          older-stay s r t.activation.frame.base (λ offset le. stays offset (λ same. omega (arith, before, le, same)))
          t.activation.frame (ChangeableIn t.activation.frame) (caller ∷ callers) (omega arith) nested.2 nested.3 held
      | inr le ↦ (
        head-stays s r (ChangeableIn t.activation.frame) (ChangeableIn t.activation.frame) t.activation.frame.base
            caller
            (λ offset low high _. elim (cases_eq offset at) [
              | inl same ↦ inr (subst (ChangeableIn t.activation.frame) (sym same) (changes le))
              | inr other ↦ inl (stays offset other)
            ]) (λ offset is. is) held.0,
        older-stay s r caller.activation.frame.base
            (λ offset above. stays offset (λ same. let below = nested.2 in omega (arith, above, below, inside, same)))
            caller.activation.frame (ChangeableIn caller.activation.frame) callers (omega arith) nested.3.2 nested.3.3
            held.1,
      )
    ]

    pub newest-puts : (t u : Typed) (callers : List Typed) (Changes : ℕ → Type 0) (top : ℕ)
        → u.activation.frame ≡ t.activation.frame
        → ((offset : ℕ) → offset ≢ at → u.slots (place_in t offset) ≡ t.slots (place_in t offset))
        → AreNested program image (activations_of (t ∷ callers))
        → at < end_of program t.activation.frame
        → (t.activation.frame.base ≤ at → ChangeableIn t.activation.frame at)
        → (IsApart image program.layout at t.activation → Holds image program.layout r.other u at (value_at r at))
        → Held s Changes top (t ∷ callers)
        → Held r Changes top (u ∷ callers)
    newest-puts t u callers Changes top same slots nested inside changes holds held = (
      head,
      subst (λ (f : LiveFrame). Held r (ChangeableIn f) f.base callers) (sym same)
          (below-newest t callers nested inside changes held.1),
    )
      where
        head : HeldIn r Changes top u
        head offset low high marked kept apart =
            let apart_t : apart_of t.activation.frame offset =
            subst (λ (f : LiveFrame). apart_of f offset) same apart in
            elim (cases_eq offset at) [
              | inl is ↦
                  subst (λ n. apart_of t.activation.frame n → Holds image layout r.other u n (value_at r n)) (sym is)
                  holds
                  apart_t
              | inr other ↦
                  let still = stays offset other in
                  holds-value u offset (value_at s offset) (value_at r offset) still.memory
                  (holds-same t u offset (value_at s offset) same still.other (slots offset other)
                  (held.0 offset low (subst (λ (f : LiveFrame). offset < end_of program f) same high)
                  (still.marked marked) kept apart_t))
            ]
