-- One byte, and many, of memory and of the newest frame: what is read of it, and what is carried where it is written.
use Rattle.std.proofs.Common.{◌≡◌, ◌≢◌, ◌≤◌, ◌<◌, ◌⊎◌, inl, inr, ℕ, ◌+◌, ◌-◌, ◌*◌, Bool, true, false, List, [], ◌∷◌, map, Contains, Option, Some, None, refl, sym, ap, ◌∙◌, subst, arith}
use Rattle.std.specs.Prelude.{if◌then◌else◌, slice_index, slice_set}
use Rattle.std.specs.List.{filter_map, cons_option}
use Rattle.std.proofs.lemmas.Bool.{cases_eq, cases_lt}
use Rattle.std.proofs.lemmas.List.{length-set}
use Rattle.dcc_machine.specs.declared.cpu.Cpu.{Cpu}
use Rattle.dcc_machine.specs.declared.image.Image.{Image}
use Rattle.dcc_prog.specs.declared.procedure.Layout.{Layout}
use Rattle.dcc_prog.specs.declared.frame.Program.{Program}
use Rattle.dcc_machine.specs.Access.{stored}
use Rattle.dcc_prog.specs.Clean.{stack_offset, end_of, is_marked, with_marks}
use Rattle.dcc_prog.proofs.StackMarks.{in_rest, at_head}
use Rattle.dcc_stack.specs.Accepted.{AcceptedProgramsAreInForm}
use Rattle.dcc_stack.specs.Standing.{Activation}
use Rattle.dcc_stack.specs.Apart.{IsApart}
use Rattle.dcc_stack.specs.Slots.{Carries, Typed, IsChangeable, AreNested, activations_of, IsExposedIn, Puts, in_memory, in_slot, PutsAll, done, next, MarksAt}
use Rattle.dcc_stack.specs.SlotLaws.{AreCarried, stores_at, marks_at, IsWritable}
use Rattle.dcc_stack.proofs.SlotFrames.{base-end, parts-low}
use Rattle.dcc_stack.proofs.SlotHeld.{Sides, value_at, Held, Stays, holds-value, newest-puts}
use Rattle.dcc_stack.proofs.SlotWrites.{set-same, set-other, set-bytes, marks-one, exposed-same, exposed-changes, outside-changes}
use Rattle.dcc_stack.proofs.SlotPuts.{IsPut, put-one}

-- What is put into a frame leaves it where it is.

one-stays :
    {image : Image} {layout : Layout} {t : Typed} {other : List ℕ} {offset value : ℕ} {u : Typed} {after : List ℕ}
    → Puts image layout t other offset value u after
    → u.activation ≡ t.activation
one-stays (in_memory placed) = refl
one-stays (in_slot none) = refl

pub all-stay : {image : Image} {layout : Layout} {values : ℕ → ℕ} {t u : Typed} {other offsets after : List ℕ}
    → PutsAll image layout values t other offsets u after
    → u.activation ≡ t.activation
all-stay done = refl
all-stay (next puts rest) = all-stay rest ∙ one-stays puts

-- The marks after a byte is stored: a new one, where the byte is one of the stack.
record IsMarking (layout : Layout) (at : ℕ) (offsets : List ℕ) (written : List Bool) : Type 0 where
  marks : List Bool
  newly : MarksAt at written marks
  rest : marks_at layout (at ∷ offsets) written ≡ marks_at layout offsets marks

marking : (layout : Layout) (at : ℕ) (offsets : List ℕ) (written : List Bool) → IsMarking layout at offsets written
marking layout at offsets written = by (stack_offset layout (layout.ds * 16 + at)) refl
  where
    others : List ℕ
    others = filter_map (stack_offset layout) (map (λ offset. layout.ds * 16 + offset) offsets)

    offset-is : (b : Bool) (found : ℕ)
        → (if b then Some (layout.ds * 16 + at - layout.ds * 16) else None) ≡ Some found
        → found ≡ at
    offset-is true found e =
        let same : layout.ds * 16 + at - layout.ds * 16 ≡ found = cc in
        omega (arith, same)
    offset-is false found e = cc

    by : (found : Option ℕ) → stack_offset layout (layout.ds * 16 + at) ≡ found → IsMarking layout at offsets written
    by None e = record {
      marks = written;
      newly = λ offset marked. inr marked;
      rest = ap (λ o. with_marks true (cons_option o others) written) e;
    }
    by (Some found) e =
        let is = offset-is _ found e in
        record {
          marks = slice_set written at true;
          newly = marks-one at written;
          rest =
              ap (λ o. with_marks true (cons_option o others) written) e
              ∙ ap (λ k. with_marks true others (slice_set written k true)) is;
        }

module _ (cpu : Cpu) (image : Image) (program : Program) (form : AcceptedProgramsAreInForm) where
  abbrev layout : Layout
  layout = program.layout

  abbrev address : ℕ → ℕ
  address offset = program.layout.ds * 16 + offset

  abbrev AreIn : List ℕ → List ℕ → List Bool → ℕ → List Typed → Type 0
  AreIn memory other written top typed = AreCarried cpu image program memory other written top typed

  module _ {memory other : List ℕ} {written : List Bool} {top : ℕ} {typed : List Typed}
      (are : AreIn memory other written top typed) where
    abbrev sides : Sides
    sides = record { memory = memory; other = other; written = written }

    below-end : (offset : ℕ) → offset < layout.hi → offset < 65536
    below-end offset below = let fits = are.is_program.is_program.layout.small.hi_fits in omega (arith, below, fits)

    pub read-same : (offset : ℕ) → offset < 65536
        → (program.layout.lo ≤ offset → offset < program.layout.hi
        → (top ≤ offset) × IsExposedIn program top typed offset × (is_marked written offset ≡ true))
        → slice_index other offset ≡ slice_index memory (address offset)
    read-same offset small inside = elim (cases_lt offset layout.lo) [
      | inl before ↦ are.carries.outside offset small (inl before)
      | inr low ↦ elim (cases_lt offset layout.hi) [
        | inl high ↦
            let is = inside low high in
            exposed-same cpu image program form are.is_program sides offset (λ n. ⊥) top typed are.nested is.0 is.1 is.2
            (λ none. none) are.carries.held
        | inr past ↦ are.carries.outside offset small (inr past)
      ]
    ]

    -- a byte takes a value in memory, and the second run changes at this offset alone
    module _ (at value : ℕ) (marks : List Bool) (newly : MarksAt at written marks) (after : List ℕ)
        (kept : (offset : ℕ) → offset ≢ at → slice_index after offset ≡ slice_index other offset) where
      abbrev changed : Sides
      changed = record { memory = slice_set memory (address at) value; other = after; written = marks }

      stays-but : (offset : ℕ) → offset ≢ at → Stays program image sides changed offset
      stays-but offset apart = record {
        memory = set-other memory (address at) value (address offset) (λ same. apart (omega (arith, same)));
        other = kept offset apart;
        marked = λ marked. elim (newly offset marked) [ inl same ↦ absurd (apart same) | inr was ↦ was ];
      }

      outside-but : (offset : ℕ) → offset ≢ at → offset < 65536 → (offset < layout.lo) ⊎ (layout.hi ≤ offset)
          → slice_index after offset ≡ value_at program image changed offset
      outside-but offset apart small outside =
          kept offset apart ∙ are.carries.outside offset small outside ∙ sym (stays-but offset apart).memory

      -- where that lies in the stack, all is the same outside
      outside-all : layout.lo ≤ at → at < layout.hi → (offset : ℕ) → offset < 65536
          → (offset < layout.lo) ⊎ (layout.hi ≤ offset)
          → slice_index after offset ≡ value_at program image changed offset
      outside-all low high offset small outside =
          outside-but offset (λ same. elim outside [
            | inl before ↦ omega (arith, before, low, same)
            | inr past ↦ omega (arith, past, high, same)
          ]) small outside

      new-value : at < 65536 → value_at program image changed at ≡ value
      new-value small =
          let ds = are.is_program.is_program.layout.small.ds_fits in
          set-same memory (address at) value (omega (arith, ds, small, are.size))

    -- Memory.

    -- where a byte of the memory takes a value, all is carried when what the frames hold is told of it
    with-byte : (at value : ℕ) (after : List ℕ) (marks : List Bool)
        → Carries program image (slice_set memory (address at) value) after marks top typed
        → AreIn (slice_set memory (address at) value) after marks top typed
    with-byte at value after marks carries = record {
      is_program = are.is_program;
      nested = are.nested;
      low = are.low;
      size = length-set memory (address at) value ∙ are.size;
      carries = carries;
    }

    pub store-carried : (at value : ℕ) (marks : List Bool) → at < 65536 → value < 256
        → (layout.lo ≤ at → at < layout.hi → IsExposedIn program top typed at)
        → MarksAt at written marks
        → AreIn (slice_set memory (address at) value) (slice_set other at value) marks top typed
    store-carried at value marks small byte exposed newly = with-byte at value second marks (record {
      size = length-set other at value ∙ are.carries.size;
      bytes = set-bytes other at value byte are.carries.bytes;
      outside = λ offset less outside. elim (cases_eq offset at) [
        | inl is ↦
            subst (λ n. slice_index second n ≡ slice_index (slice_set memory (address at) value) (address n)) (sym is)
            same
        | inr apart ↦ outside-but at value marks newly second kept offset apart less outside
      ];
      held = elim (cases_lt at layout.lo) [
        | inl before ↦ beyond (inl before)
        | inr low ↦ elim (cases_lt at layout.hi) [
          | inl high ↦
              exposed-changes cpu image program form are.is_program sides new at stays same (λ n. ⊥) top typed
              are.nested (exposed low high) are.carries.held
          | inr past ↦ beyond (inr past)
        ]
      ];
    })
      where
        second : List ℕ
        second = slice_set other at value

        kept : (offset : ℕ) → offset ≢ at → slice_index second offset ≡ slice_index other offset
        kept offset apart = set-other other at value offset apart

        new : Sides
        new = record { memory = slice_set memory (address at) value; other = second; written = marks }

        stays : (offset : ℕ) → offset ≢ at → Stays program image sides new offset
        stays = stays-but at value marks newly second kept

        same : slice_index second at ≡ value_at program image new at
        same =
            set-same other at value (omega (arith, small, are.carries.size))
            ∙ sym (new-value at value marks newly second kept small)

        beyond : (at < layout.lo) ⊎ (layout.hi ≤ at) → Held program image new (λ n. ⊥) top typed
        beyond outside =
            outside-changes cpu image program form are.is_program sides new at stays same (λ n. ⊥) top typed outside
            are.low are.nested are.carries.held

  -- The newest frame.

  module _ {memory other : List ℕ} {written : List Bool} {top : ℕ} {t : Typed} {callers : List Typed}
      (are : AreIn memory other written top (t ∷ callers)) where
    pub own-carried : (at value : ℕ) (marks : List Bool) {u : Typed} {after : List ℕ}
        → IsWritable image program t top at → value < 256
        → Puts image program.layout t other at value u after → MarksAt at written marks
        → AreIn (slice_set memory (address at) value) after marks top (u ∷ callers)
    own-carried at value marks {u = u} {after = after} may byte puts newly = record {
      is_program = are.is_program;
      nested =
          subst (λ (a : Activation). AreNested program image (a ∷ activations_of callers)) (sym put.activation)
          are.nested;
      low = are.low;
      size = length-set memory (address at) value ∙ are.size;
      carries = record {
        size = put.size ∙ are.carries.size;
        bytes = put.bytes are.carries.bytes;
        outside =
            outside-all are at value marks newly after kept
            (let above = are.low in omega (arith, above, may.low)) below;
        held =
            newest-puts program image (sides are) (changed are at value marks newly after kept) at
            (stays-but are at value marks newly after kept) t u callers (λ n. ⊥) top
            (ap (λ (a : Activation). a.frame) put.activation) put.slots are.nested may.high may.changes
            (λ _. holds-value program image u at value _
            (new-value are at value marks newly after kept small) put.holds) are.carries.held;
      };
    }
      where
        below : at < layout.hi
        below = parts-low image program at t.activation (activations_of callers) are.nested may.high may.apart

        small : at < 65536
        small = below-end are at below

        put : IsPut program image t other at value u after
        put = put-one program image t other at value u after (omega (arith, small, are.carries.size)) byte puts

        kept : (offset : ℕ) → offset ≢ at → slice_index after offset ≡ slice_index other offset
        kept offset apart = elim (put.memory offset) [ inl same ↦ same | inr both ↦ absurd (apart both.0) ]

    pub control-carried : (at value : ℕ) (marks : List Bool) → top ≤ at → at < layout.hi
        → ¬ IsApart image program.layout at t.activation → MarksAt at written marks
        → AreIn (slice_set memory (address at) value) other marks top (t ∷ callers)
    control-carried at value marks low high control newly = with-byte are at value other marks (record {
      size = are.carries.size;
      bytes = are.carries.bytes;
      outside =
          outside-all are at value marks newly other (λ offset apart. refl)
          (let above = are.low in omega (arith, above, low)) high;
      held =
          newest-puts program image (sides are) (changed are at value marks newly other (λ offset apart. refl)) at
          (stays-but are at value marks newly other (λ offset apart. refl)) t t callers (λ n. ⊥) top refl
          (λ offset apart. refl) are.nested inside (λ from. absurd (control (inr from)))
          (λ apart. absurd (control apart)) are.carries.held;
    })
      where
        inside : at < end_of program t.activation.frame
        inside = elim (cases_lt at t.activation.frame.base) [
          | inl before ↦ let up = base-end image program t.activation.frame in omega (arith, before, up)
          | inr from ↦ absurd (control (inr from))
        ]

  -- Many bytes.

  module _ (values : ℕ → ℕ) (bytes : (offset : ℕ) → values offset < 256) where
    pub store-many : (offsets : List ℕ) {memory other : List ℕ} {written : List Bool} {top : ℕ} {typed : List Typed}
        → AreIn memory other written top typed
        → ((offset : ℕ) → Contains offsets offset
        → (offset < 65536) × (layout.lo ≤ offset → offset < layout.hi → IsExposedIn program top typed offset))
        → AreIn (stored (stores_at (λ offset. program.layout.ds * 16 + offset) offsets values) memory)
        (stored (stores_at (λ offset. offset) offsets values) other) (marks_at program.layout offsets written) top typed
    store-many [] are each = are
    store-many (at ∷ offsets) {memory = memory} {other = other} {written = written} {top = top} {typed = typed} are
        each =
        let first = each at (at_head at at offsets refl) in
        let m = marking layout at offsets written in
        subst
        (λ marks. AreIn
        (stored (stores_at (λ offset. program.layout.ds * 16 + offset) (at ∷ offsets) values) memory)
        (stored (stores_at (λ offset. offset) (at ∷ offsets) values) other) marks top typed) (sym m.rest)
        (store-many offsets (store-carried are at (values at) m.marks first.0 (bytes at) first.1 m.newly)
        (λ offset has. each offset (in_rest at offset offsets has)))

    moved : {t u : Typed} {top offset : ℕ} → u.activation ≡ t.activation → IsWritable image program t top offset
        → IsWritable image program u top offset
    moved {u = u} {top = top} {offset = offset} same may = record {
      low = may.low;
      high = subst (λ (a : Activation). offset < end_of program a.frame) (sym same) may.high;
      apart = subst (λ (a : Activation). IsApart image program.layout offset a) (sym same) may.apart;
      changes =
          subst (λ (a : Activation). a.frame.base ≤ offset → IsChangeable image program.layout a.frame offset)
          (sym same) may.changes;
    }

    pub write-many : {t : Typed} {other offsets : List ℕ} {u : Typed} {after : List ℕ}
        → PutsAll image program.layout values t other offsets u after
        → {memory : List ℕ} {written : List Bool} {top : ℕ} {callers : List Typed}
        → AreIn memory other written top (t ∷ callers)
        → ((offset : ℕ) → Contains offsets offset → IsWritable image program t top offset)
        → AreIn (stored (stores_at (λ offset. program.layout.ds * 16 + offset) offsets values) memory) after
        (marks_at program.layout offsets written) top (u ∷ callers)
    write-many done are each = are
    write-many {u = u} {after = after} (next {offset = at} {offsets = offsets} puts rest) {memory = memory}
        {written = written} {top = top} {callers = callers} are each =
        let m = marking layout at offsets written in
        subst
        (λ marks. AreIn
        (stored (stores_at (λ offset. program.layout.ds * 16 + offset) (at ∷ offsets) values) memory)
        after marks top (u ∷ callers)) (sym m.rest)
        (write-many rest
        (own-carried are at (values at) m.marks (each at (at_head at at offsets refl)) (bytes at) puts m.newly)
        (λ offset has. moved (one-stays puts) (each offset (in_rest at offset offsets has))))
