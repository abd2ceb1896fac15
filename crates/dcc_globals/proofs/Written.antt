-- What the initial values of one global variable leave in memory.
use Rattle.std.proofs.Common.{◌≡◌, ◌≢◌, ℕ, zero, suc, ◌+◌, ◌-◌, ◌*◌, ◌/◌, ◌%◌, ◌<◌, ◌≤◌, ◌==◌, min, Bool, true, false, inl, inr, List, [], ◌∷◌, length, take, drop, get_or, slice_set, None, Some, refl, sym, ap, ◌∙◌, subst, true≢false, arith}
use Rattle.std.specs.Prelude.{◌&&◌, ◌||◌, not, nat_le, nat_lt, if◌then◌else◌, All, codes, ◌⊎◌}
use Rattle.std.proofs.lemmas.Bool.{cases_Bool, and_parts, eqb-true, eqb-false, ne_eqb, eq-eqb, cases_eq, ltb-true, ltb-false}
use Rattle.std.proofs.lemmas.List.{length-set, get_or-set_same, get_or-set_other, get_or_past, get_or-take, get_or-drop, length-take, length-drop}
use Rattle.std.proofs.lemmas.List.Elements.{All-head, All-tail, All-take, All-drop}
use Rattle.dcc_c.specs.declared.syntax.Base.TheVariants.{Uchar, Uint}
use Rattle.dcc_c.specs.Memory.{store}
use Rattle.dcc_c.specs.Placement.{bytes_of, after_global}
use Rattle.dcc_c.specs.Run as c
use Rattle.dcc_c.specs.Tree.{Global}
use Rattle.dcc_c.specs.Types.{plain, size_of}
use Rattle.dcc_globals.specs.Globals.{significant, number_of, scalar_values, scalar, array}
use Rattle.dcc_globals.proofs.InitialLaws.{significant-le}

abbrev pub IsByte : ℕ → Type 0
IsByte byte = byte < 256

-- Bytes that are written one after another.

abbrev written : ℕ → List ℕ → List ℕ → List ℕ
written at bytes memory = c.with_values (plain Uchar) at bytes memory

written-length : (at : ℕ) (bytes memory : List ℕ) → length (written at bytes memory) ≡ length memory
written-length at [] memory = refl
written-length at (n ∷ bytes) memory = written-length (at + 1) bytes _ ∙ length-set memory (at % 65536) (n % 256)

written-before : (at : ℕ) (bytes memory : List ℕ) (k : ℕ) → k < at → at + length bytes ≤ 65536 → get_or (written at bytes memory) k 0 ≡ get_or memory k 0
written-before at [] memory k below fit = refl
written-before at (n ∷ bytes) memory k below fit =
    written-before (at + 1) bytes _ k (omega (arith, below)) (omega (arith, fit))
    ∙ get_or-set_other memory (at % 65536) k (n % 256) 0 (λ e. omega (arith, e, below, fit))

written-after : (at : ℕ) (bytes memory : List ℕ) (k : ℕ) → at + length bytes ≤ k → at + length bytes ≤ 65536 → get_or (written at bytes memory) k 0 ≡ get_or memory k 0
written-after at [] memory k above fit = refl
written-after at (n ∷ bytes) memory k above fit =
    written-after (at + 1) bytes _ k (omega (arith, above)) (omega (arith, fit))
    ∙ get_or-set_other memory (at % 65536) k (n % 256) 0 (λ e. omega (arith, e, above, fit))

written-there : (at : ℕ) (bytes memory : List ℕ) (i : ℕ) → i < length bytes → All IsByte bytes → length memory ≡ 65536 → at + length bytes ≤ 65536
    → get_or (written at bytes memory) (at + i) 0 ≡ get_or bytes i 0
written-there at [] memory i there are whole fit = absurd (omega (arith, there))
written-there at (n ∷ bytes) memory zero there are whole fit =
    let small : n < 256 = All-head IsByte n bytes are in
    let place : at % 65536 ≡ at + 0 = omega (arith, fit) in
    written-before (at + 1) bytes _ (at + 0) (omega arith) (omega (arith, fit))
    ∙ ap (λ x. get_or (store 1 memory at n) x 0) (sym place)
    ∙ get_or-set_same memory (at % 65536) (n % 256) 0 (omega (arith, whole))
    ∙ omega (arith, small)
written-there at (n ∷ bytes) memory (suc i) there are whole fit =
    ap (λ x. get_or (written at (n ∷ bytes) memory) x 0) (omega arith)
    ∙ written-there (at + 1) bytes _ i (omega (arith, there)) (All-tail IsByte n bytes are) (length-set memory (at % 65536) (n % 256) ∙ whole) (omega (arith, fit))

-- A global variable holds bytes at first: from its offset on as many as it has, of which those that are missing are 0.

pub record HoldsAt (g : Global) (bytes : List ℕ) : Type 0 where
  pub sized : (memory : List ℕ) → length (c.with_values g.type g.at g.init memory) ≡ length memory
  pub elsewhere :
      (memory : List ℕ) (k : ℕ) → (k < g.at) ⊎ (after_global g ≤ k)
      → get_or (c.with_values g.type g.at g.init memory) k 0 ≡ get_or memory k 0
  pub there :
      (memory : List ℕ) (i : ℕ) → length memory ≡ 65536
      → ((j : ℕ) → g.at ≤ j → j < after_global g → get_or memory j 0 ≡ 0)
      → g.at + i < after_global g → get_or (c.with_values g.type g.at g.init memory) (g.at + i) 0 ≡ get_or bytes i 0

-- Arrays.

-- behind the last byte that isn't 0 all are 0
insignificant : (bytes : List ℕ) (i : ℕ) → significant bytes ≤ i → get_or bytes i 0 ≡ 0
insignificant [] i past = refl
insignificant (b ∷ bytes) i past = by ((significant bytes == 0) && (b == 0)) refl i past (λ k h. insignificant bytes k h)
  where
    by : (t : Bool) → ((significant bytes == 0) && (b == 0)) ≡ t → (i : ℕ) → (if t then 0 else significant bytes + 1) ≤ i
        → ((k : ℕ) → significant bytes ≤ k → get_or bytes k 0 ≡ 0) → get_or (b ∷ bytes) i 0 ≡ 0
    by true is zero h rest = eqb-true b 0 (and_parts (significant bytes == 0) (b == 0) is).1
    by true is (suc i) h rest =
        let none = eqb-true (significant bytes) 0 (and_parts (significant bytes == 0) (b == 0) is).0 in
        rest i (omega (arith, none))
    by false is zero h rest = absurd (omega (arith, h))
    by false is (suc i) h rest = rest i (omega (arith, h))

array-size : (at size : ℕ) (bytes : List ℕ) → after_global (array at size bytes) ≡ at + size
array-size at size bytes = omega arith

abbrev held : List ℕ → List ℕ
held bytes = take (significant bytes) bytes

pub array-holds : (at size : ℕ) (bytes : List ℕ) → length bytes ≤ size → at + size ≤ 65536 → All IsByte bytes → HoldsAt (array at size bytes) bytes
array-holds at size bytes short fits are = record {
  sized = λ memory. written-length at (held bytes) memory;
  elsewhere = λ memory k where_is. elim where_is [
    | inl below ↦ written-before at (held bytes) memory k below (omega (arith, few))
    | inr above ↦ written-after at (held bytes) memory k (let h : at + 1 * size ≤ k = above in omega (arith, count, h, significant-le bytes, short)) (omega (arith, few))
  ];
  there = λ memory i whole empty inside. elim (cases_Bool (nat_lt i (length (held bytes)))) [
    | inl within ↦
        written-there at (held bytes) memory i (ltb-true i (length (held bytes)) within) (All-take IsByte (significant bytes) bytes are) whole (omega (arith, few))
        ∙ get_or-take (significant bytes) bytes i 0 (let h = ltb-true i (length (held bytes)) within in omega (arith, h, count))
    | inr past ↦
        let far : length (held bytes) ≤ i = ltb-false i (length (held bytes)) past in
        written-after at (held bytes) memory (at + i) (omega (arith, far)) (omega (arith, few))
        ∙ empty (at + i) (omega arith) inside
        ∙ sym (insignificant bytes i (omega (arith, far, count)))
  ];
}
  where
    count : length (held bytes) ≡ significant bytes
    count = let e = length-take (significant bytes) bytes in let h = significant-le bytes in omega (arith, e, h)

    few : at + length (held bytes) ≤ 65536
    few = let h = significant-le bytes in omega (arith, count, h, short, fits)

-- Scalars.

-- a byte and its rest, by their number
low-byte : (low rest : ℕ) → low < 256 → (low + 256 * rest) % 256 ≡ low
low-byte low rest small = omega (arith, small)

high-byte : (low rest : ℕ) → low < 256 → (low + 256 * rest) / 256 ≡ rest
high-byte low rest small = omega (arith, small)

store-length : (count : ℕ) (memory : List ℕ) (at n : ℕ) → length (store count memory at n) ≡ length memory
store-length zero memory at n = refl
store-length (suc count) memory at n = store-length count _ (at + 1) (n / 256) ∙ length-set memory (at % 65536) (n % 256)

store-elsewhere : (count : ℕ) (memory : List ℕ) (at n k : ℕ) → at + count ≤ 65536 → (k < at) ⊎ (at + count ≤ k) → get_or (store count memory at n) k 0 ≡ get_or memory k 0
store-elsewhere zero memory at n k fits away = refl
store-elsewhere (suc count) memory at n k fits away =
    store-elsewhere count _ (at + 1) (n / 256) k (omega (arith, fits)) (elim away [ inl below ↦ inl (omega (arith, below)) | inr above ↦ inr (omega (arith, above)) ])
    ∙ get_or-set_other memory (at % 65536) k (n % 256) 0
    (λ e. elim away [ inl below ↦ absurd (omega (arith, e, below, fits)) | inr above ↦ absurd (omega (arith, e, above, fits)) ])

abbrev stored-low : List ℕ → ℕ → ℕ → List ℕ → List ℕ
stored-low memory at b bytes = slice_set memory (at % 65536) (number_of (b ∷ bytes) % 256)

store-there : (count : ℕ) (memory : List ℕ) (at : ℕ) (bytes : List ℕ) (i : ℕ) → length bytes ≤ count → at + count ≤ 65536 → length memory ≡ 65536 → All IsByte bytes → i < count
    → get_or (store count memory at (number_of bytes)) (at + i) 0 ≡ get_or bytes i 0
store-there zero memory at bytes i short fits whole are inside = absurd (omega (arith, inside))
store-there (suc count) memory at [] i short fits whole are inside =
    by i inside (λ j less. store-there count (slice_set memory (at % 65536) 0) (at + 1) [] j (omega arith) (omega (arith, fits)) (length-set memory (at % 65536) 0 ∙ whole) are less)
  where
    place : at % 65536 ≡ at
    place = omega (arith, fits)

    by : (i : ℕ) → i < suc count → ((j : ℕ) → j < count → get_or (store count (slice_set memory (at % 65536) 0) (at + 1) 0) (at + 1 + j) 0 ≡ 0)
        → get_or (store count (slice_set memory (at % 65536) 0) (at + 1) 0) (at + i) 0 ≡ 0
    by zero inside rest =
        ap (λ x. get_or (store count (slice_set memory (at % 65536) 0) (at + 1) 0) x 0) (omega arith)
        ∙ store-elsewhere count (slice_set memory (at % 65536) 0) (at + 1) 0 at (omega (arith, fits)) (inl (omega arith))
        ∙ ap (λ x. get_or (slice_set memory (at % 65536) 0) x 0) (sym place)
        ∙ get_or-set_same memory (at % 65536) 0 0 (omega (arith, whole))
    by (suc i) inside rest =
        ap (λ x. get_or (store count (slice_set memory (at % 65536) 0) (at + 1) 0) x 0) (omega arith) ∙ rest i (omega (arith, inside))
store-there (suc count) memory at (b ∷ bytes) i short fits whole are inside =
    by i inside
    (λ j less. store-there count (stored-low memory at b bytes) (at + 1) bytes j (omega (arith, short)) (omega (arith, fits))
    (length-set memory (at % 65536) (number_of (b ∷ bytes) % 256) ∙ whole) (All-tail IsByte b bytes are) less)
  where
    small : b < 256
    small = All-head IsByte b bytes are

    place : at % 65536 ≡ at
    place = omega (arith, fits)

    by : (i : ℕ) → i < suc count → ((j : ℕ) → j < count → get_or (store count (stored-low memory at b bytes) (at + 1) (number_of bytes)) (at + 1 + j) 0 ≡ get_or bytes j 0)
        → get_or (store count (stored-low memory at b bytes) (at + 1) (number_of (b ∷ bytes) / 256)) (at + i) 0 ≡ get_or (b ∷ bytes) i 0
    by zero inside rest =
        ap (λ x. get_or (store count (stored-low memory at b bytes) (at + 1) (number_of (b ∷ bytes) / 256)) x 0) (omega arith)
        ∙ store-elsewhere count (stored-low memory at b bytes) (at + 1) (number_of (b ∷ bytes) / 256) at (omega (arith, fits)) (inl (omega arith))
        ∙ ap (λ x. get_or (stored-low memory at b bytes) x 0) (sym place)
        ∙ get_or-set_same memory (at % 65536) (number_of (b ∷ bytes) % 256) 0 (omega (arith, whole))
        ∙ low-byte b (number_of bytes) small
    by (suc i) inside rest =
        ap (λ x. get_or (store count (stored-low memory at b bytes) (at + 1) (number_of (b ∷ bytes) / 256)) x 0) (omega arith)
        ∙ ap (λ m. get_or (store count (stored-low memory at b bytes) (at + 1) m) (at + 1 + i) 0) (high-byte b (number_of bytes) small)
        ∙ rest i (omega (arith, inside))

-- bytes of the number 0 are 0
zero-bytes : (bytes : List ℕ) (i : ℕ) → number_of bytes ≡ 0 → get_or bytes i 0 ≡ 0
zero-bytes [] i none = refl
zero-bytes (b ∷ bytes) zero none = omega (arith, none)
zero-bytes (b ∷ bytes) (suc i) none = zero-bytes bytes i (omega (arith, none))

-- a scalar of `size` bytes
module _ (g : Global) (size : ℕ) (bytes : List ℕ) (sized : size_of g.type ≡ size) (one : g.len ≡ None) (values : g.init ≡ scalar_values bytes)
    (short : length bytes ≤ size) (fits : g.at + size ≤ 65536) (are : All IsByte bytes) where
  end-is : after_global g ≡ g.at + size
  end-is = ap (λ len. g.at + bytes_of g.type len) one ∙ ap (λ n. g.at + n * 1) sized ∙ omega arith

  abbrev left : List ℕ → List ℕ
  left memory = c.with_values g.type g.at g.init memory

  left-none : (memory : List ℕ) → number_of bytes ≡ 0 → left memory ≡ memory
  left-none memory none =
      ap (λ values. c.with_values g.type g.at values memory) (values ∙ ap (λ t. if t then [] else number_of bytes ∷ []) (eq-eqb (number_of bytes) 0 none))

  left-some : (memory : List ℕ) → (number_of bytes ≡ 0 → ⊥) → left memory ≡ store size memory g.at (number_of bytes)
  left-some memory some =
      ap (λ values. c.with_values g.type g.at values memory) (values ∙ ap (λ t. if t then [] else number_of bytes ∷ []) (ne_eqb (number_of bytes) 0 some))
      ∙ ap (λ n. store n memory g.at (number_of bytes)) sized

  pub scalar-holds : HoldsAt g bytes
  scalar-holds = elim (cases_eq (number_of bytes) 0) [
    | inl none ↦ record {
      sized = λ memory. ap length (left-none memory none);
      elsewhere = λ memory k away. ap (λ m. get_or m k 0) (left-none memory none);
      there = λ memory i whole empty inside. ap (λ m. get_or m (g.at + i) 0) (left-none memory none) ∙ empty (g.at + i) (omega arith) inside ∙ sym (zero-bytes bytes i none);
    }
    | inr some ↦ record {
      sized = λ memory. ap length (left-some memory some) ∙ store-length size memory g.at (number_of bytes);
      elsewhere = λ memory k away. ap (λ m. get_or m k 0) (left-some memory some)
          ∙ store-elsewhere size memory g.at (number_of bytes) k fits (elim away [ inl below ↦ inl below | inr above ↦ inr (omega (arith, above, end-is)) ]);
      there = λ memory i whole empty inside. ap (λ m. get_or m (g.at + i) 0) (left-some memory some)
          ∙ store-there size memory g.at bytes i short fits whole are (omega (arith, inside, end-is));
    }
  ]
