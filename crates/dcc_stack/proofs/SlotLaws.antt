-- The laws of frames as variables.
use Rattle.std.proofs.Common.{◌≡◌, ◌≤◌, ◌<◌, ◌⊎◌, inl, inr, ℕ, ◌+◌, ◌*◌, Bool, true, false, List, [], ◌∷◌, length, Contains, Some, refl, sym, ◌∙◌, subst, arith}
use Rattle.std.specs.Prelude.{◌↔◌, if◌then◌else◌, slice_index, slice_set}
use Rattle.std.specs.List.{AllZip}
use Rattle.std.proofs.lemmas.Bool.{false≢true}
use Rattle.std.proofs.lemmas.List.Elements.{All-contains}
use Rattle.dcc_machine.specs.declared.cpu.Cpu.{Cpu}
use Rattle.dcc_machine.specs.declared.image.Image.{Image}
use Rattle.dcc_prog.specs.declared.procedure.Layout.{Layout}
use Rattle.dcc_prog.specs.declared.procedure.Proc.{Proc}
use Rattle.dcc_prog.specs.declared.frame.Frame.{Frame}
use Rattle.dcc_prog.specs.declared.frame.Program.{Program}
use Rattle.dcc_prog.specs.Trail.{IsEntry}
use Rattle.dcc_prog.specs.FrameForm.{is_framed}
use Rattle.dcc_prog.specs.Found.{IsFound}
use Rattle.dcc_machine.specs.Machine.{State}
use Rattle.dcc_prog.specs.Clean.{LiveFrame, Stack, top_in, end_of, frame_in, is_marked, with_marks}
use Rattle.dcc_stack.specs.Accepted.{IsProgramOfFile, IsFrameFor, AcceptedProgramsAreInForm}
use Rattle.dcc_stack.specs.Slots.{IsGivenBack, gives_back, Typed, place_in, Carries, Couples, AreNested, activations_of, IsAlike, LiesBelow}
use Rattle.dcc_stack.specs.SlotLaws.{AreCarried, SlotsAreCarried}
use Rattle.dcc_stack.proofs.SlotPlaces.{placed-tells, placed-told, placed-decided}
use Rattle.dcc_stack.proofs.SlotFrames.{nested-stand}
use Rattle.dcc_stack.proofs.SlotHeld.{Sides, value_at, Held, ChangeableIn, holds-same}
use Rattle.dcc_stack.proofs.SlotWrites.{set-marked, marks-one}
use Rattle.dcc_stack.proofs.SlotChanges.{gives-tells, gives-told, frame-own, tops-own, written-changeable}
use Rattle.dcc_stack.proofs.SlotBytes.{read-same, store-carried, own-carried, control-carried, store-many, write-many, all-stay}
use Rattle.dcc_stack.proofs.SlotCalls.{call-carried, pass-carried, return-carried}

some-same : (f g : Frame) → Some f ≡ Some g → f ≡ g
some-same f g e = cc

-- marks that go
unmarked : (offsets : List ℕ) (written : List Bool) (offset : ℕ)
    → is_marked (with_marks false offsets written) offset ≡ true
    → is_marked written offset ≡ true
unmarked [] written offset marked = marked
unmarked (at ∷ rest) written offset marked =
    elim (set-marked written at false offset (unmarked rest (slice_set written at false) offset marked)) [
      | inl both ↦ absurd (false≢true both.1)
      | inr was ↦ was
    ]

-- Marks and places.

module _ (image : Image) (program : Program) where
  abbrev layout : Layout
  layout = program.layout

  -- where only marks go
  fewer-held : (memory other : List ℕ) (written marks : List Bool)
      → ((offset : ℕ) → is_marked marks offset ≡ true → is_marked written offset ≡ true)
      → (Changes : ℕ → Type 0) (top : ℕ) (typed : List Typed)
      → Held program image (record { memory = memory; other = other; written = written }) Changes top typed
      → Held program image (record { memory = memory; other = other; written = marks }) Changes top typed
  fewer-held memory other written marks fewer Changes top [] held = tt
  fewer-held memory other written marks fewer Changes top (t ∷ callers) held = (
    λ offset low high marked kept apart. held.0 offset low high (fewer offset marked) kept apart,
    fewer-held memory other written marks fewer (ChangeableIn program image t.activation.frame) t.activation.frame.base
        callers held.1,
  )

  -- where SP stands elsewhere, and every written byte above stood above before
  elsewhere-held : (s : Sides) (Changes : ℕ → Type 0) (top other : ℕ) (typed : List Typed)
      → ((offset : ℕ) → other ≤ offset → is_marked s.written offset ≡ true → top ≤ offset)
      → Held program image s Changes top typed
      → Held program image s Changes other typed
  elsewhere-held s Changes top other [] above held = tt
  elsewhere-held s Changes top other (t ∷ callers) above held =
      (λ offset low high marked kept apart. held.0 offset (above offset low marked) high marked kept apart, held.1)

  none-held : (s : Sides) → ((offset : ℕ) → is_marked s.written offset ≡ false) → (Changes : ℕ → Type 0) (top : ℕ)
      (typed : List Typed) → Held program image s Changes top typed
  none-held s none Changes top [] = tt
  none-held s none Changes top (t ∷ callers) = (
    λ offset low high marked kept apart. absurd (false≢true (sym (none offset) ∙ marked)),
    none-held s none (ChangeableIn program image t.activation.frame) t.activation.frame.base callers,
  )

  alike-held : (s : Sides) (Changes : ℕ → Type 0) (top : ℕ) (typed after : List Typed) → AllZip IsAlike typed after
      → Held program image s Changes top typed
      → Held program image s Changes top after
  alike-held s Changes top [] [] alike held = tt
  alike-held s Changes top [] (u ∷ rest) alike held = absurd alike
  alike-held s Changes top (t ∷ callers) [] alike held = absurd alike
  alike-held s Changes top (t ∷ callers) (u ∷ rest) alike held = (
    λ offset low high marked kept apart.
        holds-same program image t u offset (value_at program image s offset) same refl
        (alike.0.slots (place_in t offset))
        (held.0 offset low (subst (λ (f : LiveFrame). offset < end_of program f) same high) marked kept
        (subst (λ (f : LiveFrame).
        (offset + (if is_framed image layout f.entry then 4 else 2) < f.base) ⊎ (f.base ≤ offset)) same apart)),
    subst (λ (f : LiveFrame). Held program image s (ChangeableIn program image f) f.base rest) (sym same)
        (alike-held s (ChangeableIn program image t.activation.frame) t.activation.frame.base callers rest alike.1
        held.1),
  )
    where
      same : u.activation.frame ≡ t.activation.frame
      same = alike.0.frame

  -- all frames are carried where SP stands elsewhere

  elsewhere-carries : (memory other : List ℕ) (written : List Bool) (top high : ℕ) (typed : List Typed)
      → ((offset : ℕ) → high ≤ offset → is_marked written offset ≡ true → top ≤ offset)
      → Carries program image memory other written top typed
      → Carries program image memory other written high typed
  elsewhere-carries memory other written top high typed above carries = record {
    size = carries.size;
    bytes = carries.bytes;
    outside = carries.outside;
    held =
        elsewhere-held (record { memory = memory; other = other; written = written }) (λ n. ⊥) top high typed above
        carries.held;
  }

  fewer-carries : (memory other : List ℕ) (written marks : List Bool) (top : ℕ) (typed : List Typed)
      → ((offset : ℕ) → is_marked marks offset ≡ true → is_marked written offset ≡ true)
      → Carries program image memory other written top typed
      → Carries program image memory other marks top typed
  fewer-carries memory other written marks top typed fewer carries = record {
    size = carries.size;
    bytes = carries.bytes;
    outside = carries.outside;
    held = fewer-held memory other written marks fewer (λ n. ⊥) top typed carries.held;
  }

  none-carries : (memory other : List ℕ) (written : List Bool) (top : ℕ) (typed : List Typed) → length other ≡ 65536
      → ((offset : ℕ) → slice_index other offset < 256)
      → ((offset : ℕ) → offset < 65536 → (offset < layout.lo) ⊎ (layout.hi ≤ offset)
      → slice_index other offset ≡ slice_index memory (layout.ds * 16 + offset))
      → ((offset : ℕ) → is_marked written offset ≡ false)
      → Carries program image memory other written top typed
  none-carries memory other written top typed size bytes outside none = record {
    size = size;
    bytes = bytes;
    outside = outside;
    held = none-held (record { memory = memory; other = other; written = written }) none (λ n. ⊥) top typed;
  }

  -- frames lie as such that are alike
  alike-below : (frame other : LiveFrame) (typed after : List Typed) → other ≡ frame → AllZip IsAlike typed after
      → LiesBelow program image frame (activations_of typed)
      → LiesBelow program image other (activations_of after)
  alike-below frame other [] [] same alike lies =
      subst (λ (f : LiveFrame). LiesBelow program image f []) (sym same) lies
  alike-below frame other [] (u ∷ rest) same alike lies = absurd alike
  alike-below frame other (t ∷ callers) [] same alike lies = absurd alike
  alike-below frame other (t ∷ callers) (u ∷ rest) same alike lies =
      subst (λ (f : LiveFrame).
      end_of program other + (if is_framed image layout f.entry then 4 else 2) ≤ f.base) (sym alike.0.frame)
      (subst (λ (f : LiveFrame). LiesBelow program image f (activations_of (t ∷ callers))) (sym same) lies)

  alike-nested : (typed after : List Typed) → AllZip IsAlike typed after
      → AreNested program image (activations_of typed)
      → AreNested program image (activations_of after)
  alike-nested [] [] alike nested = tt
  alike-nested [] (u ∷ rest) alike nested = absurd alike
  alike-nested (t ∷ callers) [] alike nested = absurd alike
  alike-nested (t ∷ callers) (u ∷ rest) alike nested = (
    subst (λ (f : LiveFrame). IsEntry image layout f.entry) (sym alike.0.frame) nested.0,
    subst (λ (f : LiveFrame). layout.lo ≤ f.base) (sym alike.0.frame) nested.1,
    alike-below t.activation.frame u.activation.frame callers rest alike.0.frame alike.1 nested.2,
    alike-nested callers rest alike.1 nested.3,
  )

  alike-carried : (cpu : Cpu) (memory other : List ℕ) (written : List Bool) (top : ℕ) (typed after : List Typed)
      → AreCarried cpu image program memory other written top typed → AllZip IsAlike typed after
      → AreCarried cpu image program memory other written top after
  alike-carried cpu memory other written top typed after are alike = record {
    is_program = are.is_program;
    nested = alike-nested typed after alike are.nested;
    low = are.low;
    size = are.size;
    carries = record {
      size = are.carries.size;
      bytes = are.carries.bytes;
      outside = are.carries.outside;
      held =
          alike-held (record { memory = memory; other = other; written = written }) (λ n. ⊥) top typed after alike
          are.carries.held;
    };
  }

module _ (form : AcceptedProgramsAreInForm) where
  frame-of_entry : (cpu : Cpu) (image : Image) (program : Program) (entry : ℕ) (frame : Frame)
      → IsProgramOfFile cpu image program → IsEntry image program.layout entry
      → frame_in program.procs.items program.cells.frames.items entry ≡ Some frame
      → IsFrameFor image program entry frame
  frame-of_entry cpu image program entry frame is reached found =
      let f = form.frames cpu image program entry is reached in
      subst (IsFrameFor image program entry) (some-same f.0 frame (sym f.1.found ∙ found)) f.1

  coupled-carried : (cpu : Cpu) (image : Image) (program : Program) (s : State) (stack : Stack) (typed : List Typed)
      (other : List ℕ) → IsProgramOfFile cpu image program → Couples program image s stack typed other
      → AreCarried cpu image program s.memory other stack.written (top_in program.layout s) typed
  coupled-carried cpu image program s stack typed other is couples =
      let stands = couples.stands in
      record {
        is_program = is;
        nested =
            subst (AreNested program image) (sym couples.activations)
            (nested-stand image program cpu form is s.memory stands.stand stands.low);
        low = stands.low;
        size = stands.segments.state.memory_size;
        carries = couples.carries;
      }

  given-back : (cpu : Cpu) (image : Image) (program : Program) (proc : Proc) (frame : Frame) (number : ℕ)
      → IsProgramOfFile cpu image program → Contains program.procs.items proc
      → frame_in program.procs.items program.cells.frames.items proc.entry ≡ Some frame
      → number < frame.args
      → (gives_back proc frame number ≡ true) ↔ IsGivenBack image program.layout proc.entry number
  given-back cpu image program proc frame number is among there less =
      let procs = is.is_program.procs in
      let reached =
      All-contains (λ (p : Proc). IsEntry image program.layout p.entry) program.procs.items proc procs.reached among in
      let found = All-contains (IsFound image program.layout) program.procs.items proc procs.found among in
      let f = frame-of_entry cpu image program proc.entry frame is reached there in (
        gives-tells image program proc frame number f found less,
        gives-told image program proc frame number f found less,
      )

  pub slots-carried : SlotsAreCarried
  slots-carried = record {
    nested = λ is stand low. nested-stand _ _ _ form is _ stand low;
    coupled = λ is couples. coupled-carried _ _ _ _ _ _ _ is couples;
    placed = λ entry frame k is reached found.
        let f = frame-of_entry _ _ _ entry frame is reached found in
        (placed-tells _ _ entry frame f k, placed-told _ _ entry frame f k);
    decided = λ entry k is reached.
        let f = form.frames _ _ _ entry is reached in placed-decided _ _ entry f.0 f.1 k;
    given_back = λ proc frame number is among there less. given-back _ _ _ proc frame number is among there less;
    in_frame = λ offset is stands inside from to. frame-own _ _ _ form is _ _ _ _ _ offset stands inside from to;
    own = λ offset is stands less. tops-own _ _ _ form is _ _ _ _ offset stands less;
    changeable = λ offset is reached node stands writing access from to inside.
        written-changeable _ _ _ form is _ _ _ _ offset reached node stands writing access from to inside;
    alike = λ are all. alike-carried _ _ _ _ _ _ _ _ _ are all;
    reads_memory = λ offset are small inside. read-same _ _ _ form are offset small inside;
    stores_memory = λ offset value marks are small byte exposed newly.
        store-carried _ _ _ form are offset value marks small byte exposed newly;
    marks_stay = λ offset written o marked. inr marked;
    marks_one = marks-one;
    reads_own = λ offset are low high marked apart. are.carries.held.0 offset low high marked (λ none. none) apart;
    stores_many = λ offsets values are small each. store-many _ _ _ form values small offsets are each;
    writes_own = λ offset value marks are may byte puts newly.
        own-carried _ _ _ form are offset value marks may byte puts newly;
    writes_many = λ offsets values are small each puts.
        write-many _ _ _ form values small puts are each;
    puts_stay = λ puts. all-stay puts;
    writes_control = λ offset value marks are low high control newly.
        control-carried _ _ _ form are offset value marks low high control newly;
    lowers = λ low are inside below above. record {
      is_program = are.is_program;
      nested = are.nested;
      low = inside;
      size = are.size;
      carries = elsewhere-carries _ _ _ _ _ _ _ _ (λ offset _ marked. above offset marked) are.carries;
    };
    raises = λ high offsets are above. record {
      is_program = are.is_program;
      nested = are.nested;
      low = let low = are.low in omega (arith, low, above);
      size = are.size;
      carries =
          fewer-carries _ _ _ _ _ _ _ _ (λ offset marked. unmarked offsets _ offset marked)
          (elsewhere-carries _ _ _ _ _ _ _ _ (λ offset low marked. omega (arith, above, low)) are.carries);
    };
    begins = λ top typed size bytes outside none. none-carries _ _ _ _ _ top typed size bytes outside none;
    calls = λ callee after are nested size bytes arguments changes.
        call-carried _ _ _ form are.is_program _ _ _ after callee _ _ are nested size bytes arguments changes;
    passes = λ callee offsets values are nested inside every small puts.
        pass-carried _ _ _ form are.is_program _ _ _ _ offsets values small callee _ _ _ are nested inside every puts;
    returns = λ offsets values are below inside every small puts.
        return-carried _ _ _ form are.is_program _ _ _ _ offsets values small _ _ _ _ _ are below inside every puts;
  }
