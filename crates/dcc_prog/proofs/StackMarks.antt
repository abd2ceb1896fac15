-- What a step does to the marks of the stack's bytes: those that it stores are marked, and then those that SP rises past
-- are marked no longer.
use Rattle.std.proofs.Common.{◌≡◌, ℕ, zero, suc, ◌+◌, ◌-◌, ◌<◌, ◌≤◌, ◌⊎◌, inl, inr, Bool, true, false, List, [], ◌∷◌, length, get_or, replicate, Contains, refl, sym, ap, ◌∙◌, subst, arith}
use Rattle.std.proofs.lemmas.Bool.{cases_eq, cases_lt}
use Rattle.std.proofs.lemmas.List.{get_or-set_same, get_or-set_other, length-set}
use Rattle.std.proofs.lemmas.List.FromFn.{length-range_with_len, get_or-range_with_len}
use Rattle.std.specs.Prelude.{◌≢◌, slice_set}
use Rattle.std.specs.List.{range_with_len}
use Rattle.dcc_prog.specs.declared.procedure.Layout.{Layout}
use Rattle.dcc_machine.specs.Machine.{State}
use Rattle.dcc_machine.specs.Access.{Access}
use Rattle.dcc_prog.specs.Clean.{stored_bytes, top_in, is_marked, with_marks, written_after}
use Rattle.dcc_prog.specs.CleanLaws.{IsLeftBehind}

-- One mark.

marked-is : (marks : List Bool) (offset : ℕ) → is_marked marks offset ≡ get_or marks offset false
marked-is [] offset = refl
marked-is (mark ∷ rest) zero = refl
marked-is (mark ∷ rest) (suc offset) = marked-is rest offset

pub marked-within : (marks : List Bool) (offset : ℕ) → is_marked marks offset ≡ true → offset < length marks
marked-within [] offset e = cc
marked-within (mark ∷ rest) zero e = omega arith
marked-within (mark ∷ rest) (suc offset) e = let less = marked-within rest offset e in omega (arith, less)

set-same : (marks : List Bool) (offset : ℕ) (mark : Bool) → offset < length marks
    → is_marked (slice_set marks offset mark) offset ≡ mark
set-same marks offset mark within =
    marked-is (slice_set marks offset mark) offset ∙ get_or-set_same marks offset mark false within

set-other : (marks : List Bool) (at offset : ℕ) (mark : Bool) → offset ≢ at
    → is_marked (slice_set marks at mark) offset ≡ is_marked marks offset
set-other marks at offset mark other =
    marked-is (slice_set marks at mark) offset ∙ get_or-set_other marks at offset mark false other
    ∙ sym (marked-is marks offset)

-- a mark of that kind stays
set-keeps : (marks : List Bool) (at offset : ℕ) (mark : Bool) → is_marked marks offset ≡ mark → offset < length marks
    → is_marked (slice_set marks at mark) offset ≡ mark
set-keeps marks at offset mark is within = elim (cases_eq offset at) [
  | inl same ↦ subst (λ n. is_marked (slice_set marks n mark) offset ≡ mark) same (set-same marks offset mark within)
  | inr other ↦ set-other marks at offset mark other ∙ is
]

-- Many marks.

pub length-marks : (mark : Bool) (offsets : List ℕ) (marks : List Bool)
    → length (with_marks mark offsets marks) ≡ length marks
length-marks mark [] marks = refl
length-marks mark (at ∷ rest) marks = length-marks mark rest (slice_set marks at mark) ∙ length-set marks at mark

-- offsets that are marked that way already stay so
marks-keep : (mark : Bool) (offsets : List ℕ) (marks : List Bool) (offset : ℕ) → offset < length marks
    → is_marked marks offset ≡ mark
    → is_marked (with_marks mark offsets marks) offset ≡ mark
marks-keep mark [] marks offset within is = is
marks-keep mark (at ∷ rest) marks offset within is =
    marks-keep mark rest (slice_set marks at mark) offset (omega (arith, within, length-set marks at mark)) (set-keeps marks at offset mark is within)

head-is : (x y : ℕ) (xs : List ℕ) (k : ℕ) → k ≡ 0 → get_or (x ∷ xs) k y ≡ y → x ≡ y
head-is x y xs k zeroth is = subst (λ n. get_or (x ∷ xs) n y ≡ y) zeroth is

-- an element of a list is its head or in its rest
pub head_or_rest : (x y : ℕ) (xs : List ℕ) → Contains (x ∷ xs) y → (x ≡ y) ⊎ Contains xs y
head_or_rest x y xs (zero, inside, is) = inl is
head_or_rest x y xs (suc k, inside, is) = inr (k, omega (arith, inside), is)

pub in_rest : (x y : ℕ) (xs : List ℕ) → Contains xs y → Contains (x ∷ xs) y
in_rest x y xs (k, inside, is) = (suc k, omega (arith, inside), is)

pub at_head : (x y : ℕ) (xs : List ℕ) → x ≡ y → Contains (x ∷ xs) y
at_head x y xs same = (0, omega arith, same)

-- the offsets of the list are marked that way afterwards
marks-take : (mark : Bool) (offsets : List ℕ) (marks : List Bool) (offset : ℕ) → offset < length marks
    → Contains offsets offset
    → is_marked (with_marks mark offsets marks) offset ≡ mark
marks-take mark [] marks offset within (k, inside, is) = absurd (omega (arith, inside))
marks-take mark (at ∷ rest) marks offset within has =
    let within' : offset < length (slice_set marks at mark) = omega (arith, within, length-set marks at mark) in
    elim (head_or_rest at offset rest has) [
      | inl same ↦ marks-keep mark rest (slice_set marks at mark) offset within'
          (subst (λ n. is_marked (slice_set marks n mark) offset ≡ mark) (sym same) (set-same marks offset mark within))
      | inr later ↦ marks-take mark rest (slice_set marks at mark) offset within' later
    ]

-- all others are as they were
marks-leave : (mark : Bool) (offsets : List ℕ) (marks : List Bool) (offset : ℕ) → ¬ Contains offsets offset
    → is_marked (with_marks mark offsets marks) offset ≡ is_marked marks offset
marks-leave mark [] marks offset none = refl
marks-leave mark (at ∷ rest) marks offset none =
    marks-leave mark rest (slice_set marks at mark) offset (λ has. none (in_rest at offset rest has))
    ∙ set-other marks at offset mark (λ same. none (at_head at offset rest (sym same)))

-- what is marked was marked or is in the list
marks-from : (offsets : List ℕ) (marks : List Bool) (offset : ℕ)
    → is_marked (with_marks true offsets marks) offset ≡ true
    → Contains offsets offset ⊎ (is_marked marks offset ≡ true)
marks-from [] marks offset is = inr is
marks-from (at ∷ rest) marks offset is = elim (marks-from rest (slice_set marks at true) offset is) [
  | inl later ↦ inl (in_rest at offset rest later)
  | inr was ↦ elim (cases_eq offset at) [
    | inl same ↦ inl (at_head at offset rest (sym same))
    | inr other ↦ inr (sym (set-other marks at offset true other) ∙ was)
  ]
]

-- Ranges.

range-has : (from count offset : ℕ) → from ≤ offset → offset < from + count
    → Contains (range_with_len from count) offset
range-has from count offset low high =
    let inside : offset - from < count = omega (arith, low, high) in
    let sum : from + (offset - from) ≡ offset = omega (arith, low) in
    (offset - from, omega (arith, inside, length-range_with_len from count), get_or-range_with_len from count (offset - from) offset inside ∙ sum)

range-within : (from count offset : ℕ) → Contains (range_with_len from count) offset
    → (from ≤ offset) × (offset < from + count)
range-within from count offset (k, inside, is) =
    let less : k < count = omega (arith, inside, length-range_with_len from count) in
    let sum : offset ≡ from + k = sym is ∙ get_or-range_with_len from count k offset less in
    (omega (arith, sum), omega (arith, sum, less))

-- No marks.

pub none-marked : (count offset : ℕ) → is_marked (replicate count false) offset ≡ false
none-marked zero offset = refl
none-marked (suc count) zero = refl
none-marked (suc count) (suc offset) = none-marked count offset

none-set : (count at : ℕ) → slice_set (replicate count false) at false ≡ replicate count false
none-set zero at = refl
none-set (suc count) zero = refl
none-set (suc count) (suc at) = ap (λ l. false ∷ l) (none-set count at)

pub none-left : (offsets : List ℕ) (count : ℕ)
    → with_marks false offsets (replicate count false) ≡ replicate count false
none-left [] count = refl
none-left (at ∷ rest) count = ap (with_marks false rest) (none-set count at) ∙ none-left rest count

-- A step.

-- SP rises past the offset, or not
pub left-or_not : (layout : Layout) (s t : State) (offset : ℕ)
    → IsLeftBehind layout s t offset ⊎ (¬ IsLeftBehind layout s t offset)
left-or_not layout s t offset = elim (cases_lt offset (top_in layout s)) [
  | inl below ↦ inr (λ left. let low = left.0 in omega (arith, below, low))
  | inr low ↦ elim (cases_lt offset (top_in layout t)) [
    | inl high ↦ inl (low, high)
    | inr above ↦ inr (λ left. let high = left.1 in omega (arith, above, high))
  ]
]

-- what a step from one state to another, with these accesses, does to the marks
pub record MarksGo (layout : Layout) (list : List Access) (s t : State) (before after : List Bool) : Type 0 where
  pub size : length after ≡ length before
  pub left : (offset : ℕ) → offset < length before → IsLeftBehind layout s t offset → is_marked after offset ≡ false
  pub stored : (offset : ℕ) → offset < length before → Contains (stored_bytes layout list) offset
      → ¬ IsLeftBehind layout s t offset
      → is_marked after offset ≡ true
  pub kept : (offset : ℕ) → is_marked before offset ≡ true → ¬ IsLeftBehind layout s t offset
      → is_marked after offset ≡ true
  pub from : (offset : ℕ) → is_marked after offset ≡ true
      → Contains (stored_bytes layout list) offset ⊎ (is_marked before offset ≡ true)

module _ (layout : Layout) (list : List Access) (s t : State) (written : List Bool) where
  abbrev with_stored : List Bool
  with_stored = with_marks true (stored_bytes layout list) written

  abbrev passed : List ℕ
  passed = range_with_len (top_in layout s) (top_in layout t - top_in layout s)

  not-passed : (offset : ℕ) → ¬ IsLeftBehind layout s t offset → ¬ Contains passed offset
  not-passed offset stands has =
      let x = range-within (top_in layout s) (top_in layout t - top_in layout s) offset has in
      let low = x.0 in
      let high = x.1 in
      stands (low, omega (arith, low, high))

  size-is : length (written_after layout list (top_in layout s) (top_in layout t) written) ≡ length written
  size-is = length-marks false passed with_stored ∙ length-marks true (stored_bytes layout list) written

  after-left : (offset : ℕ) → offset < length written → IsLeftBehind layout s t offset
      → is_marked (with_marks false passed with_stored) offset ≡ false
  after-left offset within left =
      let low = left.0 in
      let high = left.1 in
      marks-take false passed with_stored offset (omega (arith, within, length-marks true (stored_bytes layout list) written))
      (range-has (top_in layout s) (top_in layout t - top_in layout s) offset low (omega (arith, low, high)))

  after-from : (offset : ℕ) → is_marked (with_marks false passed with_stored) offset ≡ true
      → Contains (stored_bytes layout list) offset ⊎ (is_marked written offset ≡ true)
  after-from offset is = elim (left-or_not layout s t offset) [
    | inl left ↦
        let within : offset < length written = omega (arith, marked-within (with_marks false passed with_stored) offset is, size-is) in
        let both = sym is ∙ after-left offset within left in
        absurd (cc)
    | inr stands ↦ marks-from (stored_bytes layout list) written offset (sym (marks-leave false passed with_stored offset (not-passed offset stands)) ∙ is)
  ]

  pub marks-go : MarksGo layout list s t written (written_after layout list (top_in layout s) (top_in layout t) written)
  marks-go = record {
    size = size-is;
    left = after-left;
    stored = λ offset within has stands.
        marks-leave false passed with_stored offset (not-passed offset stands)
        ∙ marks-take true (stored_bytes layout list) written offset within has;
    kept = λ offset is stands.
        marks-leave false passed with_stored offset (not-passed offset stands)
        ∙ marks-keep true (stored_bytes layout list) written offset (marked-within written offset is) is;
    from = after-from;
  }

-- a step that stores nothing and leaves SP
pub marks-stay : (layout : Layout) (s t : State) (written : List Bool) → top_in layout t ≡ top_in layout s
    → MarksGo layout [] s t written written
marks-stay layout s t written same = record {
  size = refl;
  left = λ offset within left. let low = left.0 in let high = left.1 in absurd (omega (arith, low, high, same));
  stored = λ offset within has stands. let inside = has.1 in absurd (omega (arith, inside));
  kept = λ offset is stands. is;
  from = λ offset is. inr is;
}
