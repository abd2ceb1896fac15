-- The code stays, and what stands, stands after a clean step.
use Rattle.std.proofs.Common.{◌≡◌, ℕ, ◌+◌, ◌-◌, ◌*◌, ◌<◌, ◌≤◌, inl, inr, Bool, true, false, List, [], ◌∷◌, Some, None, refl, sym, ap, ◌∙◌, subst, arith, leb-true, leb-false}
use Rattle.std.proofs.lemmas.List.Elements.{All-head, All-tail}
use Rattle.std.specs.Prelude.{slice_index, not, ◌&&◌, nat_le, if◌then◌else◌, All}
use Rattle.dcc_machine.specs.declared.image.Image.{Image}
use Rattle.dcc_prog.specs.declared.procedure.Layout.{Layout}
use Rattle.dcc_machine.specs.declared.instr.Op.{Op}
use Rattle.dcc_prog.specs.FrameForm.{is_framed}
use Rattle.dcc_prog.specs.Clean.{LiveFrame, stack_offset}
use Rattle.dcc_machine.proofs.FetchLaws.{image-placed, fetched-instruction}
use Rattle.dcc_stack.specs.Accepted.{AcceptedProgramsAreInForm}
use Rattle.dcc_stack.specs.Standing.{Activation, word_at, HoldsBp, outside, at_mov, inside, StandsIn, Stand, first, called}
use Rattle.dcc_stack.specs.Apart.{control_size, IsApart, MayWrite, off_stack, in_frames, pushed, DifferApart, CleanStepsWriteApart}
use Rattle.dcc_stack.proofs.ApartFrames.{control-least, top-below}
use Rattle.dcc_stack.proofs.ApartAccesses.{clean-step}
use Rattle.dcc_stack.proofs.ApartTable.{second-register}
use Rattle.dcc_stack.proofs.ApartWrites.{step-written}

-- what may be written lies in the data segment
pub written-above : {image : Image} {layout : Layout} {activations : List Activation} {top address : ℕ} {op : Op}
    → MayWrite image layout activations top op address → layout.ds * 16 ≤ address
written-above (off_stack above none) = above
written-above (in_frames offset e from apart) = omega (arith, e)
written-above (pushed offset e push where_it_is) = omega (arith, e)

-- bytes of the stack have offsets
in-stack : (layout : Layout) (offset : ℕ) → layout.lo ≤ offset → offset < layout.hi
    → stack_offset layout (layout.ds * 16 + offset) ≡ None → ⊥
in-stack layout offset low high none = by (nat_le from address) refl (nat_le to address) refl none
  where
    address : ℕ
    address = layout.ds * 16 + offset

    from : ℕ
    from = layout.ds * 16 + layout.lo

    to : ℕ
    to = layout.ds * 16 + layout.hi

    by : (b : Bool) → nat_le from address ≡ b → (d : Bool) → nat_le to address ≡ d
        → (if b && not d then Some (address - layout.ds * 16) else None) ≡ None → ⊥
    by true is false beyond e = cc
    by true is true beyond e = omega (arith, leb-true to address beyond, high)
    by false is d beyond e = omega (arith, leb-false from address is, low)

-- Control words.

module _ (image : Image) (layout : Layout) (all : List Activation) (top : ℕ) (op : Op) (memory other : List ℕ)
    (low : layout.lo ≤ top) (differ : DifferApart image layout all top op memory other) where
  byte-kept : (offset : ℕ) → top ≤ offset → offset < layout.hi → ¬ All (IsApart image layout offset) all
      → slice_index other (layout.ds * 16 + offset) ≡ slice_index memory (layout.ds * 16 + offset)
  byte-kept offset above below control = elim (differ (layout.ds * 16 + offset)) [
    | inl same ↦ same
    | inr may ↦ absurd (refuted may refl)
  ]
    where
      refuted : {address : ℕ} → MayWrite image layout all top op address → address ≡ layout.ds * 16 + offset → ⊥
      refuted (off_stack from none) is =
          in-stack layout offset (omega (arith, low, above)) below (ap (stack_offset layout) (sym is) ∙ none)
      refuted (in_frames place e from apart) is =
          let same : place ≡ offset = omega (arith, e, is) in
          control (subst (λ n. All (IsApart image layout n) all) same apart)
      refuted (pushed place e push (inl under)) is = omega (arith, e, is, under, above)
      refuted (pushed place e push (inr under)) is = omega (arith, e, is, under, above)

  -- a word, neither of whose bytes is apart
  word-kept : (offset : ℕ) → top ≤ offset → offset + 1 < layout.hi → ¬ All (IsApart image layout offset) all
      → ¬ All (IsApart image layout (offset + 1)) all → word_at layout other offset ≡ word_at layout memory offset
  word-kept offset above below first_byte second_byte =
      let low_byte = byte-kept offset above (omega (arith, below)) first_byte in
      let high_byte = byte-kept (offset + 1) (omega (arith, above)) below second_byte in
      let at : layout.ds * 16 + (offset + 1) ≡ layout.ds * 16 + offset + 1 = omega arith in
      let high = ap (slice_index other) (sym at) ∙ high_byte ∙ ap (slice_index memory) at in
      ap (λ n. n + 256 * slice_index other (layout.ds * 16 + offset + 1)) low_byte
      ∙ ap (λ n. slice_index memory (layout.ds * 16 + offset) + 256 * n) high

  -- some of the frames
  abbrev AreAmong : List Activation → Type 0
  AreAmong some = (offset : ℕ) → All (IsApart image layout offset) all → All (IsApart image layout offset) some

  control-kept : (a : Activation) (rest : List Activation) → AreAmong (a ∷ rest) → (offset : ℕ) → top ≤ offset
      → offset + 1 < layout.hi → offset + 2 ≤ a.frame.base → a.frame.base ≤ offset + control_size image layout a
      → word_at layout other offset ≡ word_at layout memory offset
  control-kept a rest among offset above below within from =
      word-kept offset above below
      (λ apart. refuted offset (omega (arith, within)) from
      (All-head (IsApart image layout offset) a rest (among offset apart)))
      (λ apart. refuted (offset + 1) (omega (arith, within)) (omega (arith, from))
      (All-head (IsApart image layout (offset + 1)) a rest (among (offset + 1) apart)))
    where
      refuted : (n : ℕ) → n < a.frame.base → a.frame.base ≤ n + control_size image layout a → IsApart image layout n a
          → ⊥
      refuted n less from (inl before) = omega (arith, from, before)
      refuted n less from (inr after) = omega (arith, less, after)

  -- One frame.

  four : (a : Activation) → is_framed image layout a.frame.entry ≡ true → control_size image layout a ≡ 4
  four a framed = ap (λ b. if b then 4 else 2) framed

  stands-in-kept : (a : Activation) (rest : List Activation) (here bp : ℕ) → AreAmong (a ∷ rest) → top ≤ here
      → a.frame.base ≤ layout.hi + 2 → StandsIn image layout memory a here bp → StandsIn image layout other a here bp
  stands-in-kept a rest here bp among above below stands = record {
    height = stands.height;
    is_at = stands.is_at;
    top_is = stands.top_is;
    holds = by stands.holds;
  }
    where
      saved : is_framed image layout a.frame.entry ≡ true → 2 ≤ stands.height
          → word_at layout other (a.frame.base - 4) ≡ word_at layout memory (a.frame.base - 4)
      saved framed deep =
          control-kept a rest among (a.frame.base - 4) (omega (arith, above, deep, stands.top_is))
          (omega (arith, below, deep, stands.top_is)) (omega (arith, deep, stands.top_is))
          (let size = four a framed in omega (arith, deep, stands.top_is, size))

      by : HoldsBp image layout memory a stands.height bp → HoldsBp image layout other a stands.height bp
      by (outside none same) = outside none same
      by (at_mov framed two there word) = at_mov framed two there (saved framed (omega (arith, two)) ∙ word)
      by (inside framed deep word points) = inside framed deep (saved framed deep ∙ word) points

  -- All waiting procedures still stand in the other memory.

  stand-kept : {some : List Activation} {here bp : ℕ} → AreAmong some → top ≤ here
      → Stand image layout memory some here bp → Stand image layout other some here bp
  stand-kept among above (first {a = a} {top = here} {bp = bp} is stands) =
      let base = ap (λ (f : LiveFrame). f.base) is in
      first is (stands-in-kept a [] here bp among above (omega (arith, base)) stands)
  stand-kept among above
      (called {a = a} {caller = caller} {callers = callers} {top = here} {bp = bp} stands waits older) =
      let below = top-below image layout memory older in
      let rest : AreAmong (caller ∷ callers) =
      λ offset apart. All-tail (IsApart image layout offset) a (caller ∷ callers) (among offset apart) in
      let return = control-kept a (caller ∷ callers) among (a.frame.base - 2) (omega (arith, above, stands.top_is))
      (omega (arith, below, stands.top_is)) (omega (arith, stands.top_is))
      (let size = control-least (is_framed image layout a.frame.entry) in omega (arith, stands.top_is, size)) in
      called (stands-in-kept a (caller ∷ callers) here bp among above (omega (arith, below)) stands)
      (record {
        instr = waits.instr;
        stands = waits.stands;
        calls = waits.calls;
        return = return ∙ waits.return;
        state = waits.state;
        passed = waits.passed;
      })
      (stand-kept rest (omega (arith, above, stands.top_is)) older)

-- The laws.

pub writes-apart : AcceptedProgramsAreInForm → CleanStepsWriteApart
writes-apart form = record {
  fetched = λ cpu image program s instr is holds found.
      fetched-instruction program.layout.cpu image program.layout.code_end s instr
      (image-placed is.loaded.file image is.loaded.is_image) holds.code found;
  writes = λ cpu image program s stack instr is stands running found clean address has.
      step-written cpu image program s stack instr form is stands found (clean-step program stack s instr clean)
      (second-register program.layout.cpu s.ip _ instr found) address has;
  code = λ cpu image program activations top op memory other at is inside differ.
      let ends = is.is_program.layout.left.code_end in
      elim (differ (image.cs * 16 + at)) [
        | inl same ↦ same
        | inr may ↦ absurd (let above = written-above may in omega (arith, ends, inside, above))
      ];
  stands = λ image layout activations top bp op memory other low differ standing.
      stand-kept image layout activations top op memory other low differ (λ offset apart. apart) (omega arith) standing;
}
