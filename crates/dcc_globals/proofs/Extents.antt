-- How far global variables go: they lie apart, off the stack, and have all bytes that are in runs or gaps.
use Rattle.std.proofs.Common.{◌≡◌, ◌≢◌, ℕ, zero, suc, ◌+◌, ◌-◌, ◌%◌, ◌<◌, ◌≤◌, ◌==◌, min, Bool, true, false, inl, inr, List, [], ◌∷◌, ◌++◌, length, refl, sym, ap, ◌∙◌, subst, true≢false, arith}
use Rattle.std.specs.Prelude.{◌&&◌, ◌||◌, not, nat_le, nat_lt, if◌then◌else◌, ◌⊎◌}
use Rattle.std.specs.List.{list_any, flat_map}
use Rattle.std.proofs.lemmas.Bool.{cases_Bool, and_parts, and_from, or_parts, or_cases, or_left, or_right, or_from, not-true, not-false, not_from_false, false_from_ne_true, lt-ltb, le-ltb, ltb-true, ltb-false, leb-true, leb-false, eqb-true, eq-eqb}
use Rattle.std.proofs.lemmas.List.Folds.{list_any-append}
use Rattle.dcc_num.specs.declared.Width.{Width}
use Rattle.dcc_num.specs.declared.Width.TheVariants.{Byte as byte_width, Word as word_width}
use Rattle.dcc_machine.specs.declared.instr.Ea.{Ea}
use Rattle.dcc_globals.specs.declared.pieces.Piece.{Piece}
use Rattle.dcc_globals.specs.declared.pieces.Piece.TheVariants.{OneByte, OneWord, Broken}
use Rattle.dcc_globals.specs.Pieces.{Data, pieces, pieces_of, pieces_at, broken_at, is_whole, is_fixed, is_in_stack, has_byte, crosses}
use Rattle.dcc_globals.specs.Gaps.{count_from, is_in_run, is_crossed, is_in_gap, is_within_part, is_cut, goes_on, begins, extent}
use Rattle.dcc_globals.proofs.Counting.{count_from-le}

any-implies : {X : Type 0} (p q : X → Bool) → ((x : X) → p x ≡ true → q x ≡ true) → (xs : List X) → list_any p xs ≡ true → list_any q xs ≡ true
any-implies p q gives [] h = absurd (true≢false (sym h))
any-implies p q gives (x ∷ xs) h = elim (or_cases (p x) (list_any p xs) h) [
  | inl here ↦ or_left (q x) (list_any q xs) (gives x here)
  | inr there ↦ or_right (q x) (list_any q xs) (any-implies p q gives xs there)
]

-- Counts.

pub counted : (test : ℕ → Bool) (most at i : ℕ) → at ≤ i → i < at + count_from test most at → test i ≡ true
counted test zero at i from below = absurd (omega (arith, from, below))
counted test (suc most) at i from below = elim (cases_Bool (test at)) [
  | inl passes ↦
      let e : count_from test (suc most) at ≡ suc (count_from test most (at + 1)) = ap (λ b. if b then suc (count_from test most (at + 1)) else 0) passes in
      by passes (omega (arith, e, below)) (λ later less. counted test most (at + 1) i later less)
  | inr fails ↦
      let e : count_from test (suc most) at ≡ 0 = ap (λ b. if b then suc (count_from test most (at + 1)) else 0) fails in
      absurd (omega (arith, e, from, below))
]
  where
    by : test at ≡ true → i < at + suc (count_from test most (at + 1))
        → (at + 1 ≤ i → i < at + 1 + count_from test most (at + 1) → test i ≡ true) → test i ≡ true
    by passes less rest = elim (cases_Bool (at == i)) [
      | inl same ↦ subst (λ k. test k ≡ true) (eqb-true at i same) passes
      | inr other ↦
          let apart : at ≢ i = λ e. true≢false (sym (eq-eqb at i e) ∙ other) in
          rest (omega (arith, apart, from)) (omega (arith, less))
    ]

pub stops : (test : ℕ → Bool) (most at : ℕ) → count_from test most at < most → test (at + count_from test most at) ≡ false
stops test zero at less = absurd (omega (arith, less))
stops test (suc most) at less = elim (cases_Bool (test at)) [
  | inl passes ↦
      let e : count_from test (suc most) at ≡ suc (count_from test most (at + 1)) = ap (λ b. if b then suc (count_from test most (at + 1)) else 0) passes in
      ap test (omega (arith, e)) ∙ stops test most (at + 1) (omega (arith, e, less))
  | inr fails ↦
      let e : count_from test (suc most) at ≡ 0 = ap (λ b. if b then suc (count_from test most (at + 1)) else 0) fails in
      ap test (omega (arith, e)) ∙ fails
]

-- Bytes of runs and gaps.

abbrev pub is_covered : Data → ℕ → Bool
is_covered d at = is_in_run d at || is_in_gap d at

crosses-byte : (at : ℕ) (p : Piece) → crosses at p ≡ true → has_byte at p ≡ true
crosses-byte at (OneByte first) h = absurd (true≢false (sym h))
crosses-byte at (OneWord first) h = or_right (first == at) (first + 1 == at) h
crosses-byte at (Broken first) h = absurd (true≢false (sym h))

crosses-before : (at : ℕ) (p : Piece) → crosses at p ≡ true → has_byte (at - 1) p ≡ true
crosses-before at (OneByte first) h = absurd (true≢false (sym h))
crosses-before at (OneWord first) h =
    or_left (first == (at - 1)) (first + 1 == (at - 1)) (eq-eqb first (at - 1) (let e = eqb-true (first + 1) at h in omega (arith, e)))
crosses-before at (Broken first) h = absurd (true≢false (sym h))

crossed-covers : (d : Data) (at : ℕ) → is_crossed d at ≡ true → (is_in_run d at ≡ true) × (is_in_run d (at - 1) ≡ true)
unfolding is_crossed is_in_run
crossed-covers d at h =
    (any-implies (crosses at) (has_byte at) (crosses-byte at) (pieces d) h, any-implies (crosses at) (has_byte (at - 1)) (crosses-before at) (pieces d) h)

within-covers : (d : Data) (at : ℕ) → is_within_part d at ≡ true → (is_in_gap d at ≡ true) × (is_in_gap d (at - 1) ≡ true)
unfolding is_within_part
within-covers d at h =
    let (before, rest) = and_parts (is_in_gap d (at - 1)) (is_in_gap d at && not (is_cut d at)) h in
    ((and_parts (is_in_gap d at) (not (is_cut d at)) rest).0, before)

-- a byte that goes on is covered, and so is the one before it
pub goes-covered : (d : Data) (at : ℕ) → goes_on d at ≡ true → (0 < at) × (is_covered d at ≡ true) × (is_covered d (at - 1) ≡ true)
unfolding goes_on
goes-covered d at h =
    let (some, rest) = and_parts (nat_lt 0 at) (is_crossed d at || is_within_part d at) h in
    elim (or_cases (is_crossed d at) (is_within_part d at) rest) [
      | inl crossed ↦
          let (here, before) = crossed-covers d at crossed in
          (ltb-true 0 at some, or_left (is_in_run d at) (is_in_gap d at) here, or_left (is_in_run d (at - 1)) (is_in_gap d (at - 1)) before)
      | inr within ↦
          let (here, before) = within-covers d at within in
          (ltb-true 0 at some, or_right (is_in_run d at) (is_in_gap d at) here, or_right (is_in_run d (at - 1)) (is_in_gap d (at - 1)) before)
    ]

pub begins-parts : (d : Data) (at : ℕ) → begins d at ≡ true → (is_covered d at ≡ true) × (goes_on d at ≡ false)
unfolding begins
begins-parts d at h =
    let (covered, first) = and_parts (is_covered d at) (not (goes_on d at)) h in
    (covered, not-true (goes_on d at) first)

begins-from : (d : Data) (at : ℕ) → is_covered d at ≡ true → goes_on d at ≡ false → begins d at ≡ true
unfolding begins
begins-from d at covered first =
    and_from (is_covered d at) (not (goes_on d at)) covered (not_from_false (goes_on d at) first)

-- Extents.

pub extent-some : (d : Data) (at : ℕ) → 0 < extent d at
unfolding extent
extent-some d at = omega arith

pub extent-fits : (d : Data) (at : ℕ) → at < 65536 → at + extent d at ≤ 65536
unfolding extent
extent-fits d at inside = let h = count_from-le (goes_on d) (65536 - (at + 1)) (at + 1) in omega (arith, h, inside)

pub extent-goes : (d : Data) (at i : ℕ) → at < i → i < at + extent d at → goes_on d i ≡ true
unfolding extent
extent-goes d at i after below = counted (goes_on d) (65536 - (at + 1)) (at + 1) i (omega (arith, after)) (omega (arith, below))

pub extent-stops : (d : Data) (at : ℕ) → at + extent d at < 65536 → goes_on d (at + extent d at) ≡ false
unfolding extent
extent-stops d at inside =
    ap (goes_on d) (omega arith) ∙ stops (goes_on d) (65536 - (at + 1)) (at + 1) (omega (arith, inside))

-- all bytes of a variable are covered
pub extent-covered : (d : Data) (at i : ℕ) → begins d at ≡ true → at ≤ i → i < at + extent d at → is_covered d i ≡ true
extent-covered d at i first from below = elim (cases_Bool (at == i)) [
  | inl same ↦ subst (λ k. is_covered d k ≡ true) (eqb-true at i same) (begins-parts d at first).0
  | inr other ↦
      let apart : at ≢ i = λ e. true≢false (sym (eq-eqb at i e) ∙ other) in
      (goes-covered d i (extent-goes d at i (omega (arith, apart, from)) below)).1
]

-- a variable ends before the next begins
pub ends-before : (d : Data) (at next : ℕ) → at < next → begins d next ≡ true → at + extent d at ≤ next
ends-before d at next after first = elim (cases_Bool (nat_lt next (at + extent d at))) [
  | inl within ↦
      absurd (true≢false (sym (extent-goes d at next after (ltb-true next (at + extent d at) within)) ∙ (begins-parts d next first).1))
  | inr apart ↦ ltb-false next (at + extent d at) apart
]

-- the variable that has a byte
pub record IsOwner (d : Data) (at owner : ℕ) : Type 0 where
  pub first : begins d owner ≡ true
  pub from : owner ≤ at
  pub below : at < owner + extent d owner

pub owner-of : (d : Data) (at : ℕ) → at < 65536 → is_covered d at ≡ true → (owner : ℕ) × IsOwner d at owner
owner-of d zero inside covered = (
  zero,
  record {
    first = begins-from d zero covered (false_from_ne_true (goes_on d zero) (λ goes. let h = (goes-covered d zero goes).0 in absurd (omega (arith, h))));
    from = omega arith;
    below = let h = extent-some d zero in omega (arith, h);
  },
)
owner-of d (suc at) inside covered = elim (cases_Bool (goes_on d (suc at))) [
  | inr first ↦ (
    suc at,
    record {
      first = begins-from d (suc at) covered first;
      from = omega arith;
      below = let h = extent-some d (suc at) in omega (arith, h);
    },
  )
  | inl goes ↦ further goes (owner-of d at (omega (arith, inside)) (before goes))
]
  where
    before : goes_on d (suc at) ≡ true → is_covered d at ≡ true
    before goes = subst (λ k. is_covered d k ≡ true) (let e : suc at - 1 ≡ at = omega arith in e) (goes-covered d (suc at) goes).2

    further : goes_on d (suc at) ≡ true → (owner : ℕ) × IsOwner d at owner → (owner : ℕ) × IsOwner d (suc at) owner
    further goes (owner, is) = (
      owner,
      record {
        first = is.first;
        from = let h = is.from in omega (arith, h);
        below = inside-still is;
      },
    )
      where
        inside-still : IsOwner d at owner → suc at < owner + extent d owner
        inside-still is = elim (cases_Bool (nat_lt (suc at) (owner + extent d owner))) [
          | inl within ↦ ltb-true (suc at) (owner + extent d owner) within
          | inr past ↦
              let end : owner + extent d owner ≡ suc at = let h = is.below in let g = ltb-false (suc at) (owner + extent d owner) past in omega (arith, h, g) in
              absurd (true≢false (sym goes ∙ ap (goes_on d) (sym end) ∙ extent-stops d owner (omega (arith, end, inside))))
        ]

-- Off the stack.

broken-off : (lo hi first at : ℕ) → list_any (has_byte at) (broken_at lo hi first) ≡ true → is_in_stack lo hi at ≡ false
broken-off lo hi first at = by (is_in_stack lo hi first) refl
  where
    by : (t : Bool) → is_in_stack lo hi first ≡ t → list_any (has_byte at) (if t then [] else Broken first ∷ []) ≡ true → is_in_stack lo hi at ≡ false
    by true is h = absurd (true≢false (sym h))
    by false is h = elim (or_cases (first == at) false h) [
      | inl same ↦ subst (λ k. is_in_stack lo hi k ≡ false) (eqb-true first at same) is
      | inr none ↦ absurd (true≢false (sym none))
    ]

byte-off : (lo hi first at : ℕ) → list_any (has_byte at) (pieces_at lo hi byte_width first) ≡ true → is_in_stack lo hi at ≡ false
byte-off lo hi first at = by (is_in_stack lo hi first) refl
  where
    by : (t : Bool) → is_in_stack lo hi first ≡ t → list_any (has_byte at) (if t then [] else OneByte first ∷ []) ≡ true → is_in_stack lo hi at ≡ false
    by true is h = absurd (true≢false (sym h))
    by false is h = elim (or_cases (first == at) false h) [
      | inl same ↦ subst (λ k. is_in_stack lo hi k ≡ false) (eqb-true first at same) is
      | inr none ↦ absurd (true≢false (sym none))
    ]

whole-off : (lo hi first at : ℕ) → is_whole lo hi first ≡ true → (first == at) || (first + 1 == at) ≡ true → is_in_stack lo hi at ≡ false
whole-off lo hi first at whole has =
    let (fits, both) = and_parts (nat_lt (first + 1) 65536) (not (is_in_stack lo hi first) && not (is_in_stack lo hi (first + 1))) whole in
    let (one, other) = and_parts (not (is_in_stack lo hi first)) (not (is_in_stack lo hi (first + 1))) both in
    elim (or_cases (first == at) (first + 1 == at) has) [
      | inl same ↦ subst (λ k. is_in_stack lo hi k ≡ false) (eqb-true first at same) (not-true (is_in_stack lo hi first) one)
      | inr same ↦ subst (λ k. is_in_stack lo hi k ≡ false) (eqb-true (first + 1) at same) (not-true (is_in_stack lo hi (first + 1)) other)
    ]

word-off : (lo hi first at : ℕ) → list_any (has_byte at) (pieces_at lo hi word_width first) ≡ true → is_in_stack lo hi at ≡ false
word-off lo hi first at = by (is_whole lo hi first) refl
  where
    by : (t : Bool) → is_whole lo hi first ≡ t
        → list_any (has_byte at) (if t then OneWord first ∷ [] else broken_at lo hi first ++ broken_at lo hi ((first + 1) % 65536)) ≡ true → is_in_stack lo hi at ≡ false
    by true is h = elim (or_cases ((first == at) || (first + 1 == at)) false h) [
      | inl has ↦ whole-off lo hi first at is has
      | inr none ↦ absurd (true≢false (sym none))
    ]
    by false is h =
        let one = broken_at lo hi first in
        let other = broken_at lo hi ((first + 1) % 65536) in
        elim (or_cases (list_any (has_byte at) one) (list_any (has_byte at) other) (sym (list_any-append (has_byte at) one other) ∙ h)) [
          | inl here ↦ broken-off lo hi first at here
          | inr there ↦ broken-off lo hi ((first + 1) % 65536) at there
        ]

at-off : (lo hi : ℕ) (width : Width) (first at : ℕ) → list_any (has_byte at) (pieces_at lo hi width first) ≡ true → is_in_stack lo hi at ≡ false
at-off lo hi byte_width first at h = byte-off lo hi first at h
at-off lo hi word_width first at h = word-off lo hi first at h

operand-off : (lo hi : ℕ) (operand : Width × Ea) (at : ℕ) → list_any (has_byte at) (pieces_of lo hi operand) ≡ true → is_in_stack lo hi at ≡ false
operand-off lo hi operand at = by (is_fixed operand.1)
  where
    by : (t : Bool) → list_any (has_byte at) (if t then pieces_at lo hi operand.0 operand.1.disp else []) ≡ true → is_in_stack lo hi at ≡ false
    by true h = at-off lo hi operand.0 operand.1.disp at h
    by false h = absurd (true≢false (sym h))

all-off : (lo hi : ℕ) (operands : List (Width × Ea)) (at : ℕ) → list_any (has_byte at) (flat_map (pieces_of lo hi) operands) ≡ true → is_in_stack lo hi at ≡ false
all-off lo hi [] at h = absurd (true≢false (sym h))
all-off lo hi (x ∷ operands) at h =
    elim (or_cases (list_any (has_byte at) (pieces_of lo hi x)) (list_any (has_byte at) (flat_map (pieces_of lo hi) operands))
    (sym (list_any-append (has_byte at) (pieces_of lo hi x) (flat_map (pieces_of lo hi) operands)) ∙ h)) [
      | inl here ↦ operand-off lo hi x at here
      | inr there ↦ all-off lo hi operands at there
    ]

run-off : (d : Data) (at : ℕ) → is_in_run d at ≡ true → is_in_stack d.lo d.hi at ≡ false
unfolding is_in_run pieces
run-off d at h = all-off d.lo d.hi d.operands at h

gap-off : (d : Data) (at : ℕ) → is_in_gap d at ≡ true → is_in_stack d.lo d.hi at ≡ false
unfolding is_in_gap
gap-off d at h =
    let (inside, rest) = and_parts (nat_lt at (min 65536 (length d.bytes))) (not (is_in_stack d.lo d.hi at) && not (is_in_run d at)) h in
    not-true (is_in_stack d.lo d.hi at) (and_parts (not (is_in_stack d.lo d.hi at)) (not (is_in_run d at)) rest).0

-- what is covered lies off the stack
pub covered-off : (d : Data) (at : ℕ) → is_covered d at ≡ true → is_in_stack d.lo d.hi at ≡ false
covered-off d at h = elim (or_cases (is_in_run d at) (is_in_gap d at) h) [
  | inl run ↦ run-off d at run
  | inr gap ↦ gap-off d at gap
]

-- a byte of the image off the stack is covered
pub image-covered : (d : Data) (at : ℕ) → at < 65536 → at < length d.bytes → is_in_stack d.lo d.hi at ≡ false → is_covered d at ≡ true
unfolding is_in_gap
image-covered d at inside there off = by (is_in_run d at) refl
  where
    by : (t : Bool) → is_in_run d at ≡ t → t || (nat_lt at (min 65536 (length d.bytes)) && (not (is_in_stack d.lo d.hi at) && not (is_in_run d at))) ≡ true
    by true is = refl
    by false is =
        and_from (nat_lt at (min 65536 (length d.bytes))) (not (is_in_stack d.lo d.hi at) && not (is_in_run d at))
        (lt-ltb at (min 65536 (length d.bytes)) (omega (arith, inside, there)))
        (and_from (not (is_in_stack d.lo d.hi at)) (not (is_in_run d at)) (not_from_false (is_in_stack d.lo d.hi at) off) (not_from_false (is_in_run d at) is))
