-- Reads and writes of bytes: in memory, where a frame exposes them or outside the stack, and in the newest frame.
use Rattle.std.proofs.Common.{◌≡◌, ◌≢◌, ◌≤◌, ◌<◌, ◌⊎◌, inl, inr, ℕ, zero, suc, ◌+◌, ◌-◌, ◌*◌, ◌/◌, Bool, true, false, List, [], ◌∷◌, map, length, Option, Some, None, refl, sym, ap, ◌∙◌, subst, arith, leb-true, leb-false}
use Rattle.std.specs.Prelude.{◌≤ℤ◌, ◌<ℤ◌, nat_le, not, ◌&&◌, if◌then◌else◌, slice_index, slice_set, pos, ◌-ℤ◌}
use Rattle.std.proofs.lemmas.Bool.{cases_eq, cases_lt, and_parts, and_from, not-true, le-leb, lt-leb}
use Rattle.std.proofs.lemmas.Int.{ints}
use Rattle.std.proofs.lemmas.List.{get_or-set_same, get_or-set_other, get_or_past, length-set}
use Rattle.dcc_machine.specs.declared.cpu.Cpu.{Cpu}
use Rattle.dcc_machine.specs.declared.image.Image.{Image}
use Rattle.dcc_prog.specs.declared.procedure.Layout.{Layout}
use Rattle.dcc_prog.specs.declared.frame.Frame.{Frame}
use Rattle.dcc_prog.specs.declared.frame.Program.{Program}
use Rattle.dcc_prog.specs.FrameForm.{is_framed}
use Rattle.dcc_prog.specs.Trail.{IsEntry}
use Rattle.dcc_prog.specs.Frame.{argument_word, IsPlaced, by_itself}
use Rattle.dcc_prog.specs.Clean.{LiveFrame, end_of, owner, exposes, exposed_by, is_marked}
use Rattle.dcc_prog.proofs.FrameLaws.{arguments-once}
use Rattle.dcc_stack.specs.Accepted.{IsProgramOfFile, IsFrameFor, AcceptedProgramsAreInForm}
use Rattle.dcc_stack.specs.Standing.{Activation}
use Rattle.dcc_stack.specs.Apart.{IsApart}
use Rattle.dcc_stack.specs.Slots.{IsGivenBack, Typed, place_in, IsChangeable, AreNested, activations_of, IsExposedIn, MarksAt}
use Rattle.dcc_stack.proofs.ApartFrames.{control-most, exposed-places}
use Rattle.dcc_stack.proofs.SlotPlaces.{exposed-tells, placed-given-back}
use Rattle.dcc_stack.proofs.SlotFrames.{end-is, base-end, parts-low}
use Rattle.dcc_stack.proofs.SlotHeld.{Sides, value_at, Held, ChangeableIn, Stays, head-stays, newest-puts}

-- One element of a list.

pub set-same : (xs : List ℕ) (at value : ℕ) → at < length xs → slice_index (slice_set xs at value) at ≡ value
set-same xs at value inside = get_or-set_same xs at value 0 inside

pub set-other : (xs : List ℕ) (at value offset : ℕ) → offset ≢ at
    → slice_index (slice_set xs at value) offset ≡ slice_index xs offset
set-other xs at value offset other = get_or-set_other xs at offset value 0 other

pub set-bytes : (xs : List ℕ) (at value : ℕ) → value < 256 → ((offset : ℕ) → slice_index xs offset < 256)
    → (offset : ℕ) → slice_index (slice_set xs at value) offset < 256
set-bytes xs at value byte bytes offset = elim (cases_eq offset at) [
  | inl same ↦ elim (cases_lt at (length xs)) [
    | inl inside ↦
        let is = ap (slice_index (slice_set xs at value)) same ∙ set-same xs at value inside in omega (arith, is, byte)
    | inr past ↦
        let is = ap (slice_index (slice_set xs at value)) same
        ∙ get_or_past (slice_set xs at value) at 0 (omega (arith, past, length-set xs at value)) in
        omega (arith, is)
  ]
  | inr other ↦ let is = set-other xs at value offset other in let byte = bytes offset in omega (arith, is, byte)
]

-- a mark that is set, or another one
pub set-marked : (marks : List Bool) (at : ℕ) (mark : Bool) (offset : ℕ)
    → is_marked (slice_set marks at mark) offset ≡ true
    → ((offset ≡ at) × (mark ≡ true)) ⊎ (is_marked marks offset ≡ true)
set-marked [] at mark offset e = inr e
set-marked (first ∷ rest) zero mark zero e = inl (refl, e)
set-marked (first ∷ rest) zero mark (suc offset) e = inr e
set-marked (first ∷ rest) (suc at) mark zero e = inr e
set-marked (first ∷ rest) (suc at) mark (suc offset) e = elim (set-marked rest at mark offset e) [
  | inl both ↦ inl (ap suc both.0, both.1)
  | inr was ↦ inr was
]

pub marks-one : (offset : ℕ) (written : List Bool) → MarksAt offset written (slice_set written offset true)
marks-one offset written o e = elim (set-marked written offset true o e) [ inl both ↦ inl both.0 | inr was ↦ inr was ]

-- the word of an argument by an offset
record IsInWord (base offset count : ℕ) : Type 0 where
  number : ℕ
  is_argument : number < count
  from : base + 2 * number ≤ offset
  to : offset < base + 2 * number + 2

word-of : (base offset count : ℕ) → base ≤ offset → offset < base + 2 * count → IsInWord base offset count
word-of base offset count low high = record {
  number = (offset - base) / 2;
  is_argument = omega (arith, low, high);
  from = omega (arith, low);
  to = omega (arith, low);
}

module _ (cpu : Cpu) (image : Image) (program : Program) (form : AcceptedProgramsAreInForm)
    (is : IsProgramOfFile cpu image program) where
  abbrev layout : Layout
  layout = program.layout

  abbrev frame-for : (entry : ℕ) → IsEntry image layout entry → (frame : Frame) × IsFrameFor image program entry frame
  frame-for entry reached = form.frames cpu image program entry is reached

  -- a byte of an argument lies in a word that may change, if the word of each argument with that byte is given back
  pub argument-changeable : (frame : LiveFrame) (offset : ℕ) → IsEntry image layout frame.entry → frame.base ≤ offset
      → offset < end_of program frame
      → ((found : Frame) → IsFrameFor image program frame.entry found → (number : ℕ) → number < found.args
      → (argument_word number).first ≤ℤ (pos (offset + 4) -ℤ pos frame.base)
      → (pos (offset + 4) -ℤ pos frame.base) <ℤ (argument_word number).end
      → IsGivenBack image layout frame.entry number)
      → IsChangeable image layout frame offset
  argument-changeable frame offset reached low high given =
      let f = frame-for frame.entry reached in
      let end = end-is image program frame f.0 f.1 in
      let word = word-of frame.base offset f.0.args low (omega (arith, high, end)) in
      record {
        number = word.number;
        count = f.0.args;
        arguments = f.1.arguments;
        is_argument = word.is_argument;
        is_given_back =
            given f.0 f.1 word.number word.is_argument (omega (arith, ints, word.from)) (omega (arith, ints, word.to));
        from = word.from;
        to = word.to;
      }

  -- what stands in memory of an argument may change
  pub placed-changeable : (t : Typed) (offset : ℕ) → IsEntry image layout t.activation.frame.entry
      → t.activation.frame.base ≤ offset → offset < end_of program t.activation.frame
      → IsPlaced image layout t.activation.frame.entry (place_in t offset)
      → IsChangeable image layout t.activation.frame offset
  placed-changeable t offset reached low high placed =
      argument-changeable t.activation.frame offset reached low high
      (λ found f number less from to.
      placed-given-back image program t.activation.frame.entry found f number less (place_in t offset) (from, to)
      placed)

  -- Exposed bytes.

  -- a byte that a frame exposes stands in memory, and is none of the saved BP or the return address
  record IsShown (t : Typed) (offset : ℕ) : Type 0 where
    placed : IsPlaced image layout t.activation.frame.entry (place_in t offset)
    apart : IsApart image layout offset t.activation

  shown : (t : Typed) (offset : ℕ) → IsEntry image layout t.activation.frame.entry
      → exposed_by program t.activation.frame offset ≡ true
      → IsShown t offset
  shown t offset reached e =
      let f = frame-for t.activation.frame.entry reached in
      let exposed : exposes f.0 (place_in t offset) ≡ true =
      subst (λ (o : Option Frame). elim o [ None ↦ false | Some frame ↦ exposes frame (place_in t offset) ] ≡ true)
      f.1.found e in
      let places =
      exposed-places cpu image program [] form is f.0 t.activation.frame.entry offset t.activation.frame f.1.argument
      exposed in
      record {
        placed = by_itself (exposed-tells image program t.activation.frame.entry f.0 f.1 (place_in t offset) exposed);
        apart = elim places [
          | inl local ↦ inl (omega (arith, local, control-most (is_framed image layout t.activation.frame.entry)))
          | inr argument ↦ inr argument.0
        ];
      }

  -- the newest frame holds the byte and exposes it, or not, and an older one exposes it
  exposed-cases : (t : Typed) (callers : List Typed) (top offset : ℕ) → IsExposedIn program top (t ∷ callers) offset
      → ((top ≤ offset) × (offset < end_of program t.activation.frame)
      × (exposed_by program t.activation.frame offset ≡ true))
      ⊎ (((offset < top) ⊎ (end_of program t.activation.frame ≤ offset))
      × IsExposedIn program t.activation.frame.base callers offset)
  exposed-cases t callers top offset e =
      by (nat_le top offset && not (nat_le (end_of program t.activation.frame) offset)) refl e
    where
      frames : List LiveFrame
      frames = map (λ (a : Activation). a.frame) (activations_of callers)

      outside : nat_le top offset && not (nat_le (end_of program t.activation.frame) offset) ≡ false
          → (offset < top) ⊎ (end_of program t.activation.frame ≤ offset)
      outside other = elim (cases_lt offset top) [
        | inl before ↦ inl before
        | inr low ↦ elim (cases_lt offset (end_of program t.activation.frame)) [
          | inl inside ↦
              let clash = sym (and_from (nat_le top offset) (not (nat_le (end_of program t.activation.frame) offset))
              (le-leb top offset low) (ap not (lt-leb (end_of program t.activation.frame) offset inside))) ∙ other in
              cc
          | inr after ↦ inr after
        ]
      ]

      by : (b : Bool) → (nat_le top offset && not (nat_le (end_of program t.activation.frame) offset)) ≡ b
          → elim (if b then Some t.activation.frame else owner program t.activation.frame.base frames offset) [
            | None ↦ false
            | Some live ↦ exposed_by program live offset
          ] ≡ true
          → ((top ≤ offset) × (offset < end_of program t.activation.frame)
          × (exposed_by program t.activation.frame offset ≡ true))
          ⊎ (((offset < top) ⊎ (end_of program t.activation.frame ≤ offset))
          × IsExposedIn program t.activation.frame.base callers offset)
      by true holds e =
          let both = and_parts (nat_le top offset) (not (nat_le (end_of program t.activation.frame) offset)) holds in
          inl (
            leb-true top offset both.0,
            leb-false (end_of program t.activation.frame) offset
                (not-true (nat_le (end_of program t.activation.frame) offset) both.1),
            e,
          )
      by false holds e = inr (outside holds, e)

  pub changeable-inside : (frame : LiveFrame) (offset : ℕ) → IsEntry image layout frame.entry
      → IsChangeable image layout frame offset
      → (frame.base ≤ offset) × (offset < end_of program frame)
  changeable-inside frame offset reached c =
      let f = frame-for frame.entry reached in
      let most = arguments-once c.arguments f.1.arguments in
      let end = end-is image program frame f.0 f.1 in
      (omega (arith, c.from), omega (arith, c.to, c.is_argument, most, end))

  -- A written byte that its frame exposes is the same in both memories.
  pub exposed-same : (s : Sides) (offset : ℕ) (Changes : ℕ → Type 0) (top : ℕ) (typed : List Typed)
      → AreNested program image (activations_of typed) → top ≤ offset → IsExposedIn program top typed offset
      → is_marked s.written offset ≡ true → ¬ Changes offset
      → Held program image s Changes top typed
      → slice_index s.other offset ≡ value_at program image s offset
  exposed-same s offset Changes top [] nested low exposed marked kept held = cc
  exposed-same s offset Changes top (t ∷ callers) nested low exposed marked kept held =
      elim (exposed-cases t callers top offset exposed) [
        | inl own ↦
            let is_shown = shown t offset nested.0 own.2 in
            (held.0 offset own.0 own.1 marked kept is_shown.apart).placed is_shown.placed
        | inr older ↦ elim older.0 [
          | inl before ↦ absurd (omega (arith, before, low))
          | inr after ↦
              let up = base-end image program t.activation.frame in
              exposed-same s offset (ChangeableIn program image t.activation.frame) t.activation.frame.base callers
              nested.3 (omega (arith, after, up)) older.1 marked
              (λ changes.
              let inside = (changeable-inside t.activation.frame offset nested.0 changes).1 in
              omega (arith, inside, after))
              held.1
        ]
      ]

  -- One byte changes in both memories.

  module _ (s r : Sides) (at : ℕ) (stays : (offset : ℕ) → offset ≢ at → Stays program image s r offset)
      (same : slice_index r.other at ≡ value_at program image r at) where
    pub exposed-changes : (Changes : ℕ → Type 0) (top : ℕ) (typed : List Typed)
        → AreNested program image (activations_of typed) → IsExposedIn program top typed at
        → Held program image s Changes top typed
        → Held program image r Changes top typed
    exposed-changes Changes top [] nested exposed held = tt
    exposed-changes Changes top (t ∷ callers) nested exposed held =
        elim (exposed-cases t callers top at exposed) [
          | inl own ↦
              let is_shown = shown t at nested.0 own.2 in
              newest-puts program image s r at stays t t callers Changes top refl (λ offset other. refl) nested own.1
              (λ low. placed-changeable t at nested.0 low own.1 is_shown.placed)
              (λ apart. record { placed = λ _. same; kept = λ none. absurd (none is_shown.placed) }) held
          | inr older ↦ (
            head-stays program image s r Changes Changes top t
                (λ offset low high apart. inl (stays offset (λ is. elim older.0 [
                  | inl before ↦ omega (arith, before, low, is)
                  | inr after ↦ omega (arith, after, high, is)
                ]))) (λ offset is. is) held.0,
            exposed-changes (ChangeableIn program image t.activation.frame) t.activation.frame.base callers nested.3
                older.1 held.1,
          )
        ]

    -- what lies outside the stack lies in no frame
    pub outside-changes : (Changes : ℕ → Type 0) (top : ℕ) (typed : List Typed)
        → (at < layout.lo) ⊎ (layout.hi ≤ at) → layout.lo ≤ top
        → AreNested program image (activations_of typed)
        → Held program image s Changes top typed
        → Held program image r Changes top typed
    outside-changes Changes top [] outside above nested held = tt
    outside-changes Changes top (t ∷ callers) outside above nested held = (
      head-stays program image s r Changes Changes top t
          (λ offset low high apart. inl (stays offset (λ is.
          let below = parts-low image program offset t.activation (activations_of callers) nested high apart in
          elim outside [
            | inl before ↦ omega (arith, before, above, low, is)
            | inr after ↦ omega (arith, after, below, is)
          ]))) (λ offset is. is) held.0,
      outside-changes (ChangeableIn program image t.activation.frame) t.activation.frame.base callers outside nested.1
          nested.3 held.1,
    )
