-- What is put into a frame is held there, and nothing else changes.
use Rattle.std.proofs.Common.{◌≡◌, ◌≢◌, ◌<◌, ◌⊎◌, inl, inr, ℕ, ◌+◌, pos, Bool, true, false, List, [], ◌∷◌, length, Contains, refl, sym, ap, ◌∙◌, subst, arith}
use Rattle.std.specs.Prelude.{◌-ℤ◌, if◌then◌else◌, slice_index}
use Rattle.std.specs.Ordering.{int_eq}
use Rattle.std.proofs.lemmas.Bool.{cases_eq}
use Rattle.std.proofs.lemmas.Bool.Decides.{Decides-int_eq}
use Rattle.std.proofs.lemmas.Int.{ints}
use Rattle.std.proofs.lemmas.List.{length-set}
use Rattle.dcc_machine.specs.declared.image.Image.{Image}
use Rattle.dcc_prog.specs.declared.procedure.Layout.{Layout}
use Rattle.dcc_prog.specs.declared.frame.Program.{Program}
use Rattle.dcc_prog.specs.Frame.{IsPlaced}
use Rattle.dcc_prog.proofs.StackMarks.{head_or_rest, in_rest, at_head}
use Rattle.dcc_stack.specs.Standing.{Activation}
use Rattle.dcc_stack.specs.Slots.{Typed, place_in, Holds, Puts, in_memory, in_slot, PutsAll, done, next}
use Rattle.dcc_stack.proofs.SlotHeld.{holds-same}
use Rattle.dcc_stack.proofs.SlotWrites.{set-same, set-other, set-bytes}

pub contains-cases : (xs : List ℕ) (x : ℕ) → Contains xs x ⊎ (¬ Contains xs x)
contains-cases [] x = inr (λ has. let inside = has.1 in omega (arith, inside))
contains-cases (first ∷ rest) x = elim (cases_eq first x) [
  | inl same ↦ inl (at_head first x rest same)
  | inr other ↦ elim (contains-cases rest x) [
    | inl later ↦ inl (in_rest first x rest later)
    | inr none ↦ inr (λ has. elim (head_or_rest first x rest has) [ inl same ↦ other same | inr later ↦ none later ])
  ]
]

module _ (program : Program) (image : Image) where
  abbrev layout : Layout
  layout = program.layout

  abbrev placed_at : Typed → ℕ → Type 0
  placed_at t offset = IsPlaced image layout t.activation.frame.entry (place_in t offset)

  abbrev placed_by : ℕ → Activation → Type 0
  placed_by offset a = IsPlaced image layout a.frame.entry (pos (offset + 4) -ℤ pos a.frame.base)

  -- one byte

  pub record IsPut (t : Typed) (other : List ℕ) (at value : ℕ) (u : Typed) (after : List ℕ) : Type 0 where
    pub activation : u.activation ≡ t.activation
    pub size : length after ≡ length other
    pub bytes : ((offset : ℕ) → slice_index other offset < 256) → (offset : ℕ) → slice_index after offset < 256
    pub slots : (offset : ℕ) → offset ≢ at → u.slots (place_in t offset) ≡ t.slots (place_in t offset)
    pub memory :
        (offset : ℕ) → (slice_index after offset ≡ slice_index other offset) ⊎ ((offset ≡ at) × placed_at t at)
    pub holds : Holds image program.layout after u at value

  place-apart : (t : Typed) (offset at : ℕ) → offset ≢ at → int_eq (place_in t offset) (place_in t at) ≡ false
  place-apart t offset at other = by (int_eq (place_in t offset) (place_in t at)) refl
    where
      by : (b : Bool) → int_eq (place_in t offset) (place_in t at) ≡ b
          → int_eq (place_in t offset) (place_in t at) ≡ false
      by true e =
          let same = (Decides-int_eq (place_in t offset) (place_in t at)).0 e in
          absurd (other (omega (arith, ints, same)))
      by false e = e

  place-same : (t : Typed) (at : ℕ) → int_eq (place_in t at) (place_in t at) ≡ true
  place-same t at = (Decides-int_eq (place_in t at) (place_in t at)).1 refl

  pub put-one : (t : Typed) (other : List ℕ) (at value : ℕ) (u : Typed) (after : List ℕ) → at < length other
      → value < 256
      → Puts image layout t other at value u after
      → IsPut t other at value u after
  put-one t other at value _ _ inside byte (in_memory placed) = record {
    activation = refl;
    size = length-set other at value;
    bytes = λ bytes offset. set-bytes other at value byte bytes offset;
    slots = λ offset apart. refl;
    memory =
        λ offset. elim (cases_eq offset at) [
          | inl same ↦ inr (same, placed)
          | inr apart ↦ inl (set-other other at value offset apart)
        ];
    holds = record { placed = λ _. set-same other at value inside; kept = λ none. absurd (none placed) };
  }
  put-one t other at value _ _ inside byte (in_slot none) = record {
    activation = refl;
    size = refl;
    bytes = λ bytes offset. bytes offset;
    slots = λ offset apart. ap (λ b. if b then value else t.slots (place_in t offset)) (place-apart t offset at apart);
    memory = λ offset. inl refl;
    holds = record {
      placed = λ placed. absurd (none placed);
      kept = λ _. ap (λ b. if b then value else t.slots (place_in t at)) (place-same t at);
    };
  }

  -- many bytes

  pub record HavePut (values : ℕ → ℕ) (t : Typed) (other offsets : List ℕ) (u : Typed) (after : List ℕ) : Type 0 where
    pub activation : u.activation ≡ t.activation
    pub size : length after ≡ length other
    pub bytes : ((offset : ℕ) → slice_index other offset < 256) → (offset : ℕ) → slice_index after offset < 256
    pub slots : (offset : ℕ) → ¬ Contains offsets offset → u.slots (place_in t offset) ≡ t.slots (place_in t offset)
    pub memory :
        (offset : ℕ)
        → (slice_index after offset ≡ slice_index other offset) ⊎ (Contains offsets offset × placed_at t offset)
    pub holds : (offset : ℕ) → Contains offsets offset → Holds image program.layout after u offset (values offset)

  -- bytes of memory of which nothing is put stay
  pub memory-stays : {values : ℕ → ℕ} {t u : Typed} {other offsets after : List ℕ}
      → HavePut values t other offsets u after
      → (offset : ℕ) → ¬ Contains offsets offset
      → slice_index after offset ≡ slice_index other offset
  memory-stays put offset none = elim (put.memory offset) [ inl same ↦ same | inr both ↦ absurd (none both.0) ]

  module _ (values : ℕ → ℕ) (bytes : (offset : ℕ) → values offset < 256) where
    put-next : (t u after : Typed) (other between others : List ℕ) (at : ℕ) (offsets : List ℕ)
        → IsPut t other at (values at) u between → HavePut values u between offsets after others
        → HavePut values t other (at ∷ offsets) after others
    put-next t u after other between others at offsets one rest = record {
      activation = rest.activation ∙ one.activation;
      size = rest.size ∙ one.size;
      bytes = λ bytes offset. rest.bytes (one.bytes bytes) offset;
      slots = λ offset none.
          ap after.slots (sym (place offset)) ∙ rest.slots offset (λ has. none (in_rest at offset offsets has))
          ∙ ap u.slots (place offset) ∙ one.slots offset (λ same. none (at_head at offset offsets (sym same)));
      memory = λ offset. elim (rest.memory offset) [
        | inl later ↦ elim (one.memory offset) [
          | inl same ↦ inl (later ∙ same)
          | inr both ↦ inr (at_head at offset offsets (sym both.0), subst (placed_at t) (sym both.0) both.1)
        ]
        | inr both ↦ inr (in_rest at offset offsets both.0, subst (placed_by offset) one.activation both.1)
      ];
      holds = λ offset has. elim (contains-cases offsets offset) [
        | inl later ↦ rest.holds offset later
        | inr none ↦ elim (head_or_rest at offset offsets has) [
          | inl same ↦
              holds-same program image u after offset (values offset)
              (ap (λ (a : Activation). a.frame) rest.activation) (memory-stays rest offset none)
              (rest.slots offset none)
              (subst (λ n. Holds image layout between u n (values n)) same one.holds)
          | inr later ↦ absurd (none later)
        ]
      ];
    }
      where
        place : (offset : ℕ) → place_in u offset ≡ place_in t offset
        place offset = ap (λ (a : Activation). pos (offset + 4) -ℤ pos a.frame.base) one.activation

    pub have-put : (t : Typed) (other offsets : List ℕ) (u : Typed) (after : List ℕ)
        → ((offset : ℕ) → Contains offsets offset → offset < length other)
        → PutsAll image layout values t other offsets u after
        → HavePut values t other offsets u after
    have-put t other _ _ _ inside done = record {
      activation = refl;
      size = refl;
      bytes = λ bytes offset. bytes offset;
      slots = λ offset none. refl;
      memory = λ offset. inl refl;
      holds = λ offset has. let within = has.1 in absurd (omega (arith, within));
    }
    have-put t other _ after others inside
        (next {u = u} {between = between} {offset = at} {offsets = offsets} puts rest) =
        let one = put-one t other at (values at) u between (inside at (at_head at at offsets refl)) (bytes at) puts in
        put-next t u after other between others at offsets one
        (have-put u between offsets after others
        (λ offset has. let less = inside offset (in_rest at offset offsets has) in omega (arith, less, one.size)) rest)
