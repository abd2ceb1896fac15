-- The first memory of a text whose global variables lie apart and hold the bytes of a data segment.
use Rattle.std.proofs.Common.{◌≡◌, ℕ, zero, suc, ◌+◌, ◌-◌, ◌%◌, ◌<◌, ◌≤◌, Bool, true, false, inl, inr, List, [], ◌∷◌, length, map, get_or, refl, sym, ap, ◌∙◌, subst, true≢false, arith}
use Rattle.std.specs.Prelude.{◌&&◌, ◌||◌, nat_le, nat_lt, if◌then◌else◌, All, ◌⊎◌}
use Rattle.std.specs.List.{list_all, list_any, range_with_len}
use Rattle.std.proofs.lemmas.Bool.{cases_Bool, and_parts, and_from, or_cases, or_left, or_right, or_from, le-leb, lt-ltb, le-ltb, lt-leb, ltb-true, ltb-false, leb-true, leb-false, false_from_ne_true}
use Rattle.std.proofs.lemmas.List.{get_or_past}
use Rattle.std.proofs.lemmas.List.Elements.{All-head, All-tail}
use Rattle.std.proofs.lemmas.List.FromFn.{fill_by_all, get_or-map-range_with_len, length-map-range_with_len}
use Rattle.dcc_ir.specs.Tree.{Program}
use Rattle.dcc_ir.specs.Run.{first_memory}
use Rattle.dcc_c.specs.Placement.{after_global}
use Rattle.dcc_c.specs.Rules.{are_apart, all_apart}
use Rattle.dcc_c.specs.Run as c
use Rattle.dcc_c.specs.Tree.{Global}
use Rattle.dcc_globals.specs.Pieces.{is_in_stack}
use Rattle.dcc_globals.proofs.Written.{HoldsAt}

-- the variable has the byte; `is_in`: one of the variables does
abbrev pub has : ℕ → Global → Bool
has k g = nat_le g.at k && nat_lt k (after_global g)

abbrev pub is_in : ℕ → List Global → Bool
is_in k globals = list_any (has k) globals

-- the variable holds the bytes of the segment
pub record HoldsData (image : List ℕ) (g : Global) : Type 0 where
  pub bytes : List ℕ
  pub holds : HoldsAt g bytes
  pub are : (i : ℕ) → g.at + i < after_global g → get_or bytes i 0 ≡ get_or image (g.at + i) 0

not-has : (k : ℕ) (g : Global) → has k g ≡ false → (k < g.at) ⊎ (after_global g ≤ k)
not-has k g h = elim (cases_Bool (nat_le g.at k)) [
  | inr less ↦ inl (leb-false g.at k less)
  | inl more ↦ inr (ltb-false k (after_global g) (sym (ap (λ b. b && nat_lt k (after_global g)) more) ∙ h))
]

apart-has : (k : ℕ) (g other : Global) → are_apart g other ≡ true → has k other ≡ true → has k g ≡ false
apart-has k g other apart there = false_from_ne_true (has k g) (λ here.
    let (from, below) = and_parts (nat_le g.at k) (nat_lt k (after_global g)) here in
    let (from2, below2) = and_parts (nat_le other.at k) (nat_lt k (after_global other)) there in
    let a = leb-true g.at k from in
    let b = ltb-true k (after_global g) below in
    let x = leb-true other.at k from2 in
    let y = ltb-true k (after_global other) below2 in
    elim (or_cases (nat_le (after_global g) other.at) (nat_le (after_global other) g.at) apart) [
      | inl first ↦ let h = leb-true (after_global g) other.at first in omega (arith, b, x, h)
      | inr second ↦ let h = leb-true (after_global other) g.at second in omega (arith, a, y, h)
    ])

apart-in : (k : ℕ) (g : Global) (others : List Global) → list_all (are_apart g) others ≡ true → is_in k others ≡ true → has k g ≡ false
apart-in k g [] apart there = absurd (true≢false (sym there))
apart-in k g (x ∷ others) apart there =
    let (first, rest) = and_parts (are_apart g x) (list_all (are_apart g) others) apart in
    elim (or_cases (has k x) (is_in k others) there) [
      | inl here ↦ apart-has k g x first here
      | inr later ↦ apart-in k g others rest later
    ]

abbrev left : Global → List ℕ → List ℕ
left g memory = c.with_values g.type g.at g.init memory

module _ (image : List ℕ) where
  -- one variable: its bytes are the segment's, and the others stay
  one-at : (g : Global) → HoldsData image g → (memory : List ℕ) → length memory ≡ 65536
      → ((k : ℕ) → has k g ≡ true → get_or memory k 0 ≡ 0)
      → (k : ℕ) → get_or (c.with_values g.type g.at g.init memory) k 0 ≡ (if has k g then get_or image k 0 else get_or memory k 0)
  one-at g is memory whole empty k = by (has k g) refl
    where
      by : (t : Bool) → has k g ≡ t → get_or (c.with_values g.type g.at g.init memory) k 0 ≡ (if t then get_or image k 0 else get_or memory k 0)
      by true there =
          let (from, below) = and_parts (nat_le g.at k) (nat_lt k (after_global g)) there in
          let low = leb-true g.at k from in
          let high = ltb-true k (after_global g) below in
          let at : g.at + (k - g.at) ≡ k = omega (arith, low) in
          ap (λ x. get_or (c.with_values g.type g.at g.init memory) x 0) (sym at)
          ∙ is.holds.there memory (k - g.at) whole
          (λ j first last. empty j (and_from (nat_le g.at j) (nat_lt j (after_global g)) (le-leb g.at j first) (lt-ltb j (after_global g) last)))
          (omega (arith, at, high))
          ∙ is.are (k - g.at) (omega (arith, at, high))
          ∙ ap (λ x. get_or image x 0) at
      by false away = is.holds.elsewhere memory k (not-has k g away)

  all-at : (globals : List Global) → all_apart globals ≡ true → All (HoldsData image) globals → (memory : List ℕ) → length memory ≡ 65536
      → ((k : ℕ) → is_in k globals ≡ true → get_or memory k 0 ≡ 0)
      → (k : ℕ) → get_or (c.with_globals globals memory) k 0 ≡ (if is_in k globals then get_or image k 0 else get_or memory k 0)
  all-at [] apart are memory whole empty k = refl
  all-at (g ∷ globals) apart are memory whole empty k =
      all-at globals rest (All-tail (HoldsData image) g globals are) (left g memory) (own.holds.sized memory ∙ whole) still-empty k ∙ by (is_in k globals) refl
    where
      own : HoldsData image g
      own = All-head (HoldsData image) g globals are

      first : list_all (are_apart g) globals ≡ true
      first = (and_parts (list_all (are_apart g) globals) (all_apart globals) apart).0

      rest : all_apart globals ≡ true
      rest = (and_parts (list_all (are_apart g) globals) (all_apart globals) apart).1

      after-at : (k : ℕ) → get_or (left g memory) k 0 ≡ (if has k g then get_or image k 0 else get_or memory k 0)
      after-at k = one-at g own memory whole (λ j there. empty j (or_left (has j g) (is_in j globals) there)) k

      still-empty : (k : ℕ) → is_in k globals ≡ true → get_or (left g memory) k 0 ≡ 0
      still-empty k there =
          after-at k ∙ ap (λ t. if t then get_or image k 0 else get_or memory k 0) (apart-in k g globals first there)
          ∙ empty k (or_right (has k g) (is_in k globals) there)

      by : (t : Bool) → is_in k globals ≡ t → (if t then get_or image k 0 else get_or (left g memory) k 0) ≡ (if has k g || t then get_or image k 0 else get_or memory k 0)
      by true is = sym (ap (λ t. if t then get_or image k 0 else get_or memory k 0) (or_right (has k g) true refl))
      by false is = after-at k ∙ sym (ap (λ t. if t then get_or image k 0 else get_or memory k 0) (or-none (has k g)))
        where
          or-none : (t : Bool) → t || false ≡ t
          or-none true = refl
          or-none false = refl

  globals-length : (globals : List Global) → All (HoldsData image) globals → (memory : List ℕ) → length (c.with_globals globals memory) ≡ length memory
  globals-length [] are memory = refl
  globals-length (g ∷ globals) are memory =
      globals-length globals (All-tail (HoldsData image) g globals are) _ ∙ (All-head (HoldsData image) g globals are).holds.sized memory

-- The whole memory.

stack-length : (lo hi fill : ℕ) → length (c.stack_memory lo hi fill) ≡ 65536
unfolding c.stack_memory
stack-length lo hi fill = length-map-range_with_len (c.stack_byte lo hi fill) 0 65536

stack-at : (lo hi fill k : ℕ) → k < 65536 → get_or (c.stack_memory lo hi fill) k 0 ≡ c.stack_byte lo hi fill k
unfolding c.stack_memory
stack-at lo hi fill k there = get_or-map-range_with_len (c.stack_byte lo hi fill) 0 65536 k k 0 there (omega arith)

stack-past : (lo hi fill k : ℕ) → 65536 ≤ k → get_or (c.stack_memory lo hi fill) k 0 ≡ 0
stack-past lo hi fill k past = get_or_past (c.stack_memory lo hi fill) k 0 (omega (arith, stack-length lo hi fill, past))

-- what the program's memory holds
abbrev first_byte : List ℕ → ℕ → ℕ → ℕ → ℕ → ℕ
first_byte image lo hi fill at = if nat_le lo at && nat_lt at hi then fill % 256 else get_or image at 0

module _ (image : List ℕ) (lo hi fill : ℕ) (globals : List Global) (apart : all_apart globals ≡ true) (are : All (HoldsData image) globals)
    (off : (k : ℕ) → is_in k globals ≡ true → is_in_stack lo hi k ≡ false)
    (missing : (k : ℕ) → k < 65536 → is_in_stack lo hi k ≡ false → is_in k globals ≡ false → get_or image k 0 ≡ 0) where
  abbrev stack : List ℕ
  stack = c.stack_memory lo hi fill

  abbrev whole : List ℕ
  whole = c.with_globals globals stack

  empty : (k : ℕ) → is_in k globals ≡ true → get_or stack k 0 ≡ 0
  empty k there = elim (cases_Bool (nat_lt k 65536)) [
    | inl inside ↦ stack-at lo hi fill k (ltb-true k 65536 inside) ∙ ap (λ t. if t then fill % 256 else 0) (off k there)
    | inr past ↦ stack-past lo hi fill k (ltb-false k 65536 past)
  ]

  each : (k : ℕ) → k < 65536 → get_or whole k 0 ≡ first_byte image lo hi fill k
  each k inside = all-at image globals apart are stack (stack-length lo hi fill) empty k ∙ by (is_in k globals) refl
    where
      by : (t : Bool) → is_in k globals ≡ t → (if t then get_or image k 0 else get_or stack k 0) ≡ (if is_in_stack lo hi k then fill % 256 else get_or image k 0)
      by true there = sym (ap (λ t. if t then fill % 256 else get_or image k 0) (off k there))
      by false none = stack-at lo hi fill k inside ∙ in-stack (is_in_stack lo hi k) refl
        where
          in-stack : (s : Bool) → is_in_stack lo hi k ≡ s → (if s then fill % 256 else 0) ≡ (if s then fill % 256 else get_or image k 0)
          in-stack true is = refl
          in-stack false is = sym (missing k inside is none)

  -- the first memory of a text with these variables
  pub memory-is : (p : Program) → p.image ≡ image → p.lo ≡ lo → p.hi ≡ hi → whole ≡ first_memory p fill
  unfolding first_memory
  memory-is p image_is lo_is hi_is =
      fill_by_all (first_byte image lo hi fill) whole 65536 0 (globals-length image globals are stack ∙ stack-length lo hi fill) each
      ∙ ap (λ i. map (first_byte i lo hi fill) (range_with_len 0 65536)) (sym image_is)
      ∙ ap (λ l. map (first_byte p.image l hi fill) (range_with_len 0 65536)) (sym lo_is)
      ∙ ap (λ h. map (first_byte p.image p.lo h fill) (range_with_len 0 65536)) (sym hi_is)
