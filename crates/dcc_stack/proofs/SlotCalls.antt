-- Where a frame begins, the written bytes of its arguments move to it, and where it ends, those that it may have
-- changed move back.
use Rattle.std.proofs.Common.{◌≡◌, ◌≤◌, ◌<◌, ◌⊎◌, inl, inr, ℕ, ◌+◌, ◌*◌, Bool, true, List, ◌∷◌, length, Contains, refl, sym, ap, ◌∙◌, subst, arith}
use Rattle.std.specs.Prelude.{slice_index}
use Rattle.dcc_machine.specs.declared.cpu.Cpu.{Cpu}
use Rattle.dcc_machine.specs.declared.image.Image.{Image}
use Rattle.dcc_prog.specs.declared.procedure.Layout.{Layout}
use Rattle.dcc_prog.specs.declared.frame.Program.{Program}
use Rattle.dcc_prog.specs.Trail.{IsEntry}
use Rattle.dcc_prog.specs.Frame.{IsPlaced}
use Rattle.dcc_prog.specs.Clean.{is_marked}
use Rattle.dcc_stack.specs.Accepted.{IsProgramOfFile, AcceptedProgramsAreInForm}
use Rattle.dcc_stack.specs.Standing.{Activation}
use Rattle.dcc_stack.specs.Slots.{Typed, place_in, Holds, IsChangeable, AreNested, activations_of, PutsAll}
use Rattle.dcc_stack.specs.SlotLaws.{AreCarried, IsArgumentByte}
use Rattle.dcc_stack.proofs.SlotPlaces.{placed-decided}
use Rattle.dcc_stack.proofs.SlotFrames.{base-end, parts-low}
use Rattle.dcc_stack.proofs.SlotHeld.{Sides, Held, HeldIn, ChangeableIn, Stays, holds-same, holds-value, head-stays, older-stay}
use Rattle.dcc_stack.proofs.SlotWrites.{placed-changeable, changeable-inside}
use Rattle.dcc_stack.proofs.SlotPuts.{contains-cases, HavePut, memory-stays, have-put}

module _ (cpu : Cpu) (image : Image) (program : Program) (form : AcceptedProgramsAreInForm)
    (is : IsProgramOfFile cpu image program) where
  abbrev layout : Layout
  layout = program.layout

  -- a frame holds one value of a byte
  holds-once : (other : List ℕ) (t : Typed) (offset a b : ℕ) → IsEntry image layout t.activation.frame.entry
      → Holds image layout other t offset a
      → Holds image layout other t offset b
      → a ≡ b
  holds-once other t offset a b reached x y =
      let f = form.frames cpu image program t.activation.frame.entry is reached in
      elim (placed-decided image program t.activation.frame.entry f.0 f.1 (place_in t offset)) [
        | inl placed ↦ sym (x.placed placed) ∙ y.placed placed
        | inr none ↦ sym (x.kept none) ∙ y.kept none
      ]

  module _ (memory other : List ℕ) (written : List Bool) (after : List ℕ) where
    abbrev earlier : Sides
    earlier = record { memory = memory; other = other; written = written }

    abbrev later : Sides
    later = record { memory = memory; other = after; written = written }

    abbrev AreIn : List ℕ → ℕ → List Typed → Type 0
    AreIn second top typed = AreCarried cpu image program memory second written top typed

    stays-there : (offset : ℕ) → slice_index after offset ≡ slice_index other offset
        → Stays program image earlier later offset
    stays-there offset same = record { memory = refl; other = same; marked = λ marked. marked }

    -- Where bytes of a callee's arguments alone change in memory.

    abbrev IsArgument : Typed → ℕ → Type 0
    IsArgument callee offset = IsArgumentByte program callee.activation.frame offset

    module _ (callee caller : Typed) (callers : List Typed)
        (nested : AreNested program image (activations_of (callee ∷ caller ∷ callers)))
        (changes :
        (offset : ℕ) → (slice_index after offset ≡ slice_index other offset) ⊎ IsArgument callee offset) where
      outside-stays : {top : ℕ} {typed : List Typed} → AreIn other top typed → (offset : ℕ) → offset < 65536
          → (offset < layout.lo) ⊎ (layout.hi ≤ offset)
          → slice_index after offset ≡ slice_index memory (layout.ds * 16 + offset)
      outside-stays are offset small outside = elim (changes offset) [
        | inl same ↦ same ∙ are.carries.outside offset small outside
        | inr both ↦
            let below =
            parts-low image program offset callee.activation (activations_of (caller ∷ callers)) nested both.1
            (inr both.0) in
            let low = nested.1 in let from = both.0 in
            elim outside [
              | inl before ↦ absurd (omega (arith, before, low, from))
              | inr past ↦ absurd (omega (arith, past, below))
            ]
      ]

      older-hold :
          Held program image earlier (ChangeableIn program image caller.activation.frame) caller.activation.frame.base
          callers
          → Held program image later (ChangeableIn program image caller.activation.frame) caller.activation.frame.base
          callers
      older-hold held =
          older-stay program image earlier later caller.activation.frame.base
          (λ offset above. elim (changes offset) [
            | inl same ↦ stays-there offset same
            | inr both ↦ let below = nested.2 in let inside = both.1 in absurd (omega (arith, above, below, inside))
          ]) caller.activation.frame (ChangeableIn program image caller.activation.frame) callers (omega arith)
          nested.3.2 nested.3.3 held

    -- A frame begins.

    pub call-carried : (callee caller : Typed) (callers : List Typed)
        → AreIn other callee.activation.frame.base (caller ∷ callers)
        → AreNested program image (activations_of (callee ∷ caller ∷ callers)) → length after ≡ 65536
        → ((offset : ℕ) → slice_index after offset < 256)
        → ((offset : ℕ) → IsArgument callee offset → is_marked written offset ≡ true
        → Holds image layout after callee offset (slice_index memory (layout.ds * 16 + offset)))
        → ((offset : ℕ) → (slice_index after offset ≡ slice_index other offset)
        ⊎ (IsArgument callee offset × IsPlaced image layout callee.activation.frame.entry (place_in callee offset)))
        → AreIn after callee.activation.frame.base (callee ∷ caller ∷ callers)
    call-carried callee caller callers are nested size bytes arguments changes = record {
      is_program = is;
      nested = nested;
      low = nested.1;
      size = are.size;
      carries = record {
        size = size;
        bytes = bytes;
        outside = outside-stays callee caller callers nested changed are;
        held = (
          λ offset low high marked _ _. arguments offset (low, high) marked,
          (below, older-hold callee caller callers nested changed are.carries.held.1),
        );
      };
    }
      where
        changed : (offset : ℕ) → (slice_index after offset ≡ slice_index other offset) ⊎ IsArgument callee offset
        changed offset = elim (changes offset) [ inl same ↦ inl same | inr placed ↦ inr placed.0 ]

        below :
            HeldIn program image later (ChangeableIn program image callee.activation.frame)
            callee.activation.frame.base caller
        below =
            head-stays program image earlier later (λ offset. ⊥) (ChangeableIn program image callee.activation.frame)
            callee.activation.frame.base caller
            (λ offset low high apart. elim (changes offset) [
              | inl same ↦ inl (stays-there offset same)
              | inr placed ↦
                  let at = placed.0 in
                  inr (placed-changeable cpu image program form is callee offset nested.0 at.0 at.1 placed.1)
            ]) (λ offset none. absurd none) are.carries.held.0

    -- a byte of an argument is one of the caller's own
    caller-holds : (callee caller : Typed) (callers : List Typed)
        → AreNested program image (activations_of (callee ∷ caller ∷ callers))
        → HeldIn program image earlier (λ offset. ⊥) callee.activation.frame.base caller
        → (offset : ℕ) → IsArgument callee offset → is_marked written offset ≡ true
        → Holds image layout other caller offset (slice_index memory (layout.ds * 16 + offset))
    caller-holds callee caller callers nested held offset inside marked =
        let below = nested.2 in let high = inside.1 in let up = base-end image program caller.activation.frame in
        held offset inside.0 (omega (arith, below, high, up)) marked (λ none. none) (inl (omega (arith, below, high)))

    module _ (offsets : List ℕ) (values : ℕ → ℕ) (small : (offset : ℕ) → values offset < 256) where
      -- offsets of argument bytes lie in the second memory
      arguments-small : (callee : Typed) (callers : List Typed)
          → AreNested program image (activations_of (callee ∷ callers))
          → length other ≡ 65536
          → ((offset : ℕ) → Contains offsets offset → IsArgument callee offset)
          → (offset : ℕ) → Contains offsets offset
          → offset < length other
      arguments-small callee callers nested size inside offset has =
          let at = inside offset has in
          let below =
          parts-low image program offset callee.activation (activations_of callers) nested at.1 (inr at.0) in
          let fits = is.is_program.layout.small.hi_fits in
          omega (arith, below, fits, size)

      pub pass-carried : (callee caller : Typed) (callers : List Typed) (begun : Typed)
          → AreIn other callee.activation.frame.base (caller ∷ callers)
          → AreNested program image (activations_of (callee ∷ caller ∷ callers))
          → ((offset : ℕ) → Contains offsets offset → IsArgument callee offset)
          → ((offset : ℕ) → IsArgument callee offset → is_marked written offset ≡ true
          → Contains offsets offset × Holds image layout other caller offset (values offset))
          → PutsAll image layout values callee other offsets begun after
          → AreIn after callee.activation.frame.base (begun ∷ caller ∷ callers)
      pass-carried callee caller callers begun are nested inside every puts =
          subst (λ t. AreIn after callee.activation.frame.base (t ∷ caller ∷ callers)) alike
          (call-carried filled caller callers are nested (put.size ∙ are.carries.size) (put.bytes are.carries.bytes)
          (λ offset at marked.
          let both = every offset at marked in
          let same = holds-once other caller offset (slice_index memory (layout.ds * 16 + offset)) (values offset)
          nested.3.0 (caller-holds callee caller callers nested are.carries.held.0 offset at marked) both.1 in
          holds-value program image filled offset (values offset) (slice_index memory (layout.ds * 16 + offset)) same
          (holds-same program image begun filled offset (values offset)
          (ap (λ (a : Activation). a.frame) (sym put.activation)) refl refl (put.holds offset both.0)))
          (λ offset. elim (put.memory offset) [
            | inl same ↦ inl same
            | inr both ↦ inr (inside offset both.0, both.1)
          ]))
        where
          filled : Typed
          filled = record { activation = callee.activation; slots = begun.slots }

          put : HavePut program image values callee other offsets begun after
          put =
              have-put program image values small callee other offsets begun after
              (arguments-small callee (caller ∷ callers) nested are.carries.size inside) puts

          alike : filled ≡ begun
          alike = ap (λ a. record { activation = a; slots = begun.slots }) (sym put.activation)

      -- A frame ends.

      pub return-carried : (callee caller : Typed) (callers : List Typed) (top : ℕ) (resumed : Typed)
          → AreIn other top (callee ∷ caller ∷ callers)
          → top ≤ callee.activation.frame.base
          → ((offset : ℕ) → Contains offsets offset → IsChangeable image layout callee.activation.frame offset)
          → ((offset : ℕ) → IsChangeable image layout callee.activation.frame offset → is_marked written offset ≡ true
          → Contains offsets offset × Holds image layout other callee offset (values offset))
          → PutsAll image layout values caller other offsets resumed after
          → AreIn after callee.activation.frame.base (resumed ∷ callers)
      return-carried callee caller callers top resumed are below inside every puts =
          subst (λ t. AreIn after callee.activation.frame.base (t ∷ callers)) alike (record {
            is_program = is;
            nested = are.nested.3;
            low = are.nested.1;
            size = are.size;
            carries = record {
              size = put.size ∙ are.carries.size;
              bytes = put.bytes are.carries.bytes;
              outside = outside-stays callee caller callers are.nested changes are;
              held = (head, older-hold callee caller callers are.nested changes are.carries.held.1.1);
            };
          })
        where
          filled : Typed
          filled = record { activation = caller.activation; slots = resumed.slots }

          arguments : (offset : ℕ) → Contains offsets offset → IsArgument callee offset
          arguments offset has =
              changeable-inside cpu image program form is callee.activation.frame offset are.nested.0
              (inside offset has)

          put : HavePut program image values caller other offsets resumed after
          put =
              have-put program image values small caller other offsets resumed after
              (arguments-small callee (caller ∷ callers) are.nested are.carries.size arguments) puts

          alike : filled ≡ resumed
          alike = ap (λ a. record { activation = a; slots = resumed.slots }) (sym put.activation)

          changes : (offset : ℕ) → (slice_index after offset ≡ slice_index other offset) ⊎ IsArgument callee offset
          changes offset = elim (put.memory offset) [
            | inl same ↦ inl same
            | inr both ↦ inr (arguments offset both.0)
          ]

          -- a byte that is given back
          given : (offset : ℕ) → Contains offsets offset → is_marked written offset ≡ true
              → Holds image layout after filled offset (slice_index memory (layout.ds * 16 + offset))
          given offset has marked =
              let at = arguments offset has in
              let low = at.0 in
              let same = holds-once other callee offset (slice_index memory (layout.ds * 16 + offset)) (values offset)
              are.nested.0
              (are.carries.held.0 offset (omega (arith, below, low)) at.1 marked (λ none. none) (inr low))
              (every offset (inside offset has) marked).1 in
              holds-value program image filled offset (values offset) (slice_index memory (layout.ds * 16 + offset))
              same
              (holds-same program image resumed filled offset (values offset)
              (ap (λ (a : Activation). a.frame) (sym put.activation)) refl refl (put.holds offset has))

          head : HeldIn program image later (λ offset. ⊥) callee.activation.frame.base filled
          head offset low high marked kept apart = elim (contains-cases offsets offset) [
            | inl has ↦ given offset has marked
            | inr none ↦
                holds-same program image caller filled offset (slice_index memory (layout.ds * 16 + offset)) refl
                (memory-stays program image put offset none) (put.slots offset none)
                (are.carries.held.1.0 offset low high marked
                (λ changeable. none (every offset changeable marked).0) apart)
          ]
