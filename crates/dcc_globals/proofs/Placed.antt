-- The global variables of a data segment: where they lie, how they are named, and what they hold.
use Rattle.std.proofs.Common.{◌≡◌, ◌≢◌, ℕ, zero, suc, ◌+◌, ◌-◌, ◌*◌, ◌<◌, ◌≤◌, ◌==◌, min, Bool, true, false, inl, inr, List, [], ◌∷◌, length, map, take, drop, get_or, None, Some, refl, sym, ap, ◌∙◌, subst, true≢false, arith}
use Rattle.std.specs.Prelude.{◌&&◌, ◌||◌, not, nat_le, nat_lt, if◌then◌else◌, filter, codes, All, ◌⊎◌}
use Rattle.std.specs.List.{list_all, list_any, range_with_len}
use Rattle.std.proofs.lemmas.Bool.{cases_Bool, and_parts, and_from, or_cases, or_left, or_right, or_from, le-leb, lt-ltb, le-ltb, lt-leb, ltb-true, ltb-false, leb-true, leb-false, eqb-true, eqb-false, eq-eqb, ne_eqb, not_from_false, false_from_ne_true}
use Rattle.std.proofs.lemmas.List.{get_or-take, get_or-drop, get_or_past, length-take, length-drop}
use Rattle.std.proofs.lemmas.List.Elements.{All-nil, All-cons, All-take, All-drop}
use Rattle.dcc_c.specs.declared.syntax.Base.TheVariants.{Uchar, Uint}
use Rattle.dcc_c.specs.Grammar.{is_among}
use Rattle.dcc_c.specs.Placement.{after_global}
use Rattle.dcc_c.specs.Rules.{all_differ, allows_global, are_apart, all_apart, is_off_stack, has_element}
use Rattle.dcc_c.specs.Token.{same_bytes}
use Rattle.dcc_c.specs.Tree.{Word, Global}
use Rattle.dcc_c.specs.Types.{plain, size_of}
use Rattle.dcc_text.specs.Hex.{name_at}
use Rattle.dcc_text.proofs.HexLaws.{name_at-differ}
use Rattle.dcc_globals.specs.Pieces.{Data, pieces, is_in_stack, spoils}
use Rattle.dcc_globals.specs.Gaps.{is_in_run, begins, extent}
use Rattle.dcc_globals.specs.Globals.{number_of, significant, scalar_values, scalar, array, is_scalar, bytes_at, global_of_size, global_at, globals_of}
use Rattle.dcc_variables.specs.Globals.{is_data_name, HaveNames}
use Rattle.dcc_globals.specs.Laws.{AreAllowed}
use Rattle.dcc_globals.proofs.InitialLaws.{significant-le}
use Rattle.dcc_globals.proofs.Extents.{is_covered, covered-off, image-covered, extent-some, extent-fits, extent-covered, ends-before, IsOwner, owner-of}
use Rattle.dcc_globals.proofs.Written.{IsByte, HoldsAt, array-holds, scalar-holds}
use Rattle.dcc_globals.proofs.FirstMemory.{has, is_in, HoldsData}

-- One variable.

-- the variable is a scalar of one or two bytes, or an array
pub data IsEither (d : Data) (at size : ℕ) (g : Global) : Type 0 where
  a_byte : size ≡ 1 → g ≡ scalar at 1 (bytes_at d at 1) → IsEither d at size g
  a_word : size ≡ 2 → g ≡ scalar at 2 (bytes_at d at 2) → IsEither d at size g
  an_array : g ≡ array at size (bytes_at d at size) → IsEither d at size g

scalar-small : (d : Data) (at size : ℕ) → is_scalar d at size ≡ true → size ≤ 2
unfolding is_scalar
scalar-small d at size is =
    let (run, rest) = and_parts (is_in_run d at) (nat_le size 2 && not (list_any (spoils at size) (pieces d))) is in
    leb-true size 2 (and_parts (nat_le size 2) (not (list_any (spoils at size) (pieces d))) rest).0

scalar-either : (d : Data) (at size : ℕ) → 0 < size → size ≤ 2 → IsEither d at size (scalar at size (bytes_at d at size))
scalar-either d at zero some small = absurd (omega (arith, some))
scalar-either d at (suc zero) some small = a_byte refl refl
scalar-either d at (suc (suc zero)) some small = a_word refl refl
scalar-either d at (suc (suc (suc n))) some small = absurd (omega (arith, small))

size-either : (d : Data) (at size : ℕ) → 0 < size → IsEither d at size (global_of_size d at size)
unfolding global_of_size
size-either d at size some = by (is_scalar d at size) refl
  where
    by : (t : Bool) → is_scalar d at size ≡ t → IsEither d at size (if t then scalar at size (bytes_at d at size) else array at size (bytes_at d at size))
    by true is = scalar-either d at size some (scalar-small d at size is)
    by false is = an_array refl

pub either : (d : Data) (at : ℕ) → IsEither d at (extent d at) (global_at d at)
either d at = size-either d at (extent d at) (extent-some d at)

either-at : (d : Data) (at size : ℕ) (g : Global) → IsEither d at size g → g.at ≡ at
either-at d at size g (a_byte one is) = ap (λ (x : Global). x.at) is
either-at d at size g (a_word two is) = ap (λ (x : Global). x.at) is
either-at d at size g (an_array is) = ap (λ (x : Global). x.at) is

either-end : (d : Data) (at size : ℕ) (g : Global) → IsEither d at size g → after_global g ≡ at + size
either-end d at size g (a_byte one is) = ap after_global is ∙ omega (arith, one)
either-end d at size g (a_word two is) = ap after_global is ∙ omega (arith, two)
either-end d at size g (an_array is) = ap after_global is ∙ omega arith

pub at-is : (d : Data) (at : ℕ) → (global_at d at).at ≡ at
at-is d at = either-at d at (extent d at) (global_at d at) (either d at)

pub end-is : (d : Data) (at : ℕ) → after_global (global_at d at) ≡ at + extent d at
end-is d at = either-end d at (extent d at) (global_at d at) (either d at)

-- It is allowed.

values-few : (bytes : List ℕ) → length (scalar_values bytes) ≤ 1
values-few bytes = by (number_of bytes == 0)
  where
    by : (t : Bool) → length (if t then [] else number_of bytes ∷ []) ≤ 1
    by true = omega arith
    by false = omega arith

pub bytes-short : (d : Data) (at size : ℕ) → length (bytes_at d at size) ≤ size
bytes-short d at size = let e = length-take size (drop at d.bytes) in omega (arith, e)

array-few : (size : ℕ) (bytes : List ℕ) → length bytes ≤ size → length (take (significant bytes) bytes) ≤ size
array-few size bytes short = let e = length-take (significant bytes) bytes in omega (arith, e, short)

either-allowed : (d : Data) (at size : ℕ) (g : Global) → 0 < size → at + size ≤ 65536 → IsEither d at size g → allows_global g ≡ true
either-allowed d at size g some fits (a_byte one is) =
    ap allows_global is
    ∙ and_from (nat_le (at + 1 * 1) 65536) _ (le-leb (at + 1 * 1) 65536 (omega (arith, one, fits))) (le-leb (length (scalar_values (bytes_at d at 1))) 1 (values-few (bytes_at d at 1)))
either-allowed d at size g some fits (a_word two is) =
    ap allows_global is
    ∙ and_from (nat_le (at + 2 * 1) 65536) _ (le-leb (at + 2 * 1) 65536 (omega (arith, two, fits))) (le-leb (length (scalar_values (bytes_at d at 2))) 1 (values-few (bytes_at d at 2)))
either-allowed d at size g some fits (an_array is) =
    ap allows_global is
    ∙ and_from (nat_lt 0 size) _ (lt-ltb 0 size some)
    (and_from (nat_le (at + 1 * size) 65536) _ (le-leb (at + 1 * size) 65536 (omega (arith, fits)))
    (le-leb (length (take (significant (bytes_at d at size)) (bytes_at d at size))) size (array-few size (bytes_at d at size) (bytes-short d at size))))

-- It holds the bytes of the segment.

bytes-are : (d : Data) (at size i : ℕ) → i < size → get_or (bytes_at d at size) i 0 ≡ get_or d.bytes (at + i) 0
bytes-are d at size i inside = get_or-take size (drop at d.bytes) i 0 inside ∙ get_or-drop at d.bytes i 0

pub bytes-all : (d : Data) (at size : ℕ) → All IsByte d.bytes → All IsByte (bytes_at d at size)
bytes-all d at size are = All-take IsByte size (drop at d.bytes) (All-drop IsByte at d.bytes are)

holds-from : (d : Data) (at size : ℕ) (g : Global) → g.at ≡ at → after_global g ≡ at + size → HoldsAt g (bytes_at d at size) → HoldsData d.bytes g
holds-from d at size g at_is end_is holds = record {
  bytes = bytes_at d at size;
  holds = holds;
  are = λ i inside. bytes-are d at size i (omega (arith, inside, at_is, end_is)) ∙ ap (λ k. get_or d.bytes (k + i) 0) (sym at_is);
}

either-holds : (d : Data) (at size : ℕ) (g : Global) → at + size ≤ 65536 → All IsByte d.bytes → IsEither d at size g → HoldsData d.bytes g
either-holds d at size g fits are (a_byte one is) =
    subst (HoldsData d.bytes) (sym is)
    (holds-from d at 1 (scalar at 1 (bytes_at d at 1)) refl (omega arith)
    (scalar-holds (scalar at 1 (bytes_at d at 1)) 1 (bytes_at d at 1) refl refl refl (bytes-short d at 1) (omega (arith, one, fits)) (bytes-all d at 1 are)))
either-holds d at size g fits are (a_word two is) =
    subst (HoldsData d.bytes) (sym is)
    (holds-from d at 2 (scalar at 2 (bytes_at d at 2)) refl (omega arith)
    (scalar-holds (scalar at 2 (bytes_at d at 2)) 2 (bytes_at d at 2) refl refl refl (bytes-short d at 2) (omega (arith, two, fits)) (bytes-all d at 2 are)))
either-holds d at size g fits are (an_array is) =
    subst (HoldsData d.bytes) (sym is)
    (holds-from d at size (array at size (bytes_at d at size)) refl (omega arith)
    (array-holds at size (bytes_at d at size) (bytes-short d at size) fits (bytes-all d at size are)))

-- Its name.

abbrev pub named : Word → ℕ → Word
named prefix at = name_at prefix at

pub data IsNamed (at : ℕ) (word : Word) : Type 0 where
  of_scalar : word ≡ name_at (codes "g_") at → IsNamed at word
  of_array : word ≡ name_at (codes "d_") at → IsNamed at word

either-named : (d : Data) (at size : ℕ) (g : Global) → IsEither d at size g → IsNamed at g.name
either-named d at size g (a_byte one is) = of_scalar (ap (λ (x : Global). x.name) is)
either-named d at size g (a_word two is) = of_scalar (ap (λ (x : Global). x.name) is)
either-named d at size g (an_array is) = of_array (ap (λ (x : Global). x.name) is)

named-data : (at : ℕ) (word : Word) → IsNamed at word → is_data_name word ≡ true
named-data at word (of_scalar is) = ap is_data_name is
named-data at word (of_array is) = ap is_data_name is

names-apart : (a b : ℕ) (one other : Word) → a < 65536 → b < 65536 → a ≢ b → IsNamed a one → IsNamed b other → same_bytes one other ≡ false
names-apart a b one other first second apart (of_scalar is) (of_scalar also) =
    ap (λ w. same_bytes w other) is ∙ ap (same_bytes (name_at (codes "g_") a)) also ∙ name_at-differ (codes "g_") a b first second apart
names-apart a b one other first second apart (of_scalar is) (of_array also) =
    ap (λ w. same_bytes w other) is ∙ ap (same_bytes (name_at (codes "g_") a)) also
names-apart a b one other first second apart (of_array is) (of_scalar also) =
    ap (λ w. same_bytes w other) is ∙ ap (same_bytes (name_at (codes "d_") a)) also
names-apart a b one other first second apart (of_array is) (of_array also) =
    ap (λ w. same_bytes w other) is ∙ ap (same_bytes (name_at (codes "d_") a)) also ∙ name_at-differ (codes "d_") a b first second apart

-- The list.

module _ (d : Data) where
  abbrev pub from : ℕ → ℕ → List Global
  from at n = map (global_at d) (filter (begins d) (range_with_len at n))

  -- what holds of each variable that begins below the end of the segment
  each : (P : Global → Type 0) → ((at : ℕ) → at < 65536 → begins d at ≡ true → P (global_at d at)) → (at n : ℕ) → at + n ≤ 65536 → All P (from at n)
  each P holds at zero fits = All-nil P
  each P holds at (suc n) fits = by (begins d at) refl (each P holds (at + 1) n (omega (arith, fits)))
    where
      by : (t : Bool) → begins d at ≡ t → All P (from (at + 1) n) → All P (map (global_at d) (if t then at ∷ filter (begins d) (range_with_len (at + 1) n) else filter (begins d) (range_with_len (at + 1) n)))
      by true is rest = All-cons P (global_at d at) (from (at + 1) n) (holds at (omega (arith, fits)) is) rest
      by false is rest = rest

  pub all-pass : (p : Global → Bool) → ((at : ℕ) → at < 65536 → begins d at ≡ true → p (global_at d at) ≡ true) → (at n : ℕ) → at + n ≤ 65536 → list_all p (from at n) ≡ true
  all-pass p holds at zero fits = refl
  all-pass p holds at (suc n) fits = by (begins d at) refl (all-pass p holds (at + 1) n (omega (arith, fits)))
    where
      by : (t : Bool) → begins d at ≡ t → list_all p (from (at + 1) n) ≡ true → list_all p (map (global_at d) (if t then at ∷ filter (begins d) (range_with_len (at + 1) n) else filter (begins d) (range_with_len (at + 1) n))) ≡ true
      by true is rest = and_from (p (global_at d at)) (list_all p (from (at + 1) n)) (holds at (omega (arith, fits)) is) rest
      by false is rest = rest

  -- a test that holds of later variables
  later-pass : (p : Global → Bool) (low : ℕ) → ((at : ℕ) → low ≤ at → at < 65536 → begins d at ≡ true → p (global_at d at) ≡ true) → (at n : ℕ) → low ≤ at → at + n ≤ 65536 → list_all p (from at n) ≡ true
  later-pass p low holds at zero above fits = refl
  later-pass p low holds at (suc n) above fits = by (begins d at) refl (later-pass p low holds (at + 1) n (omega (arith, above)) (omega (arith, fits)))
    where
      by : (t : Bool) → begins d at ≡ t → list_all p (from (at + 1) n) ≡ true → list_all p (map (global_at d) (if t then at ∷ filter (begins d) (range_with_len (at + 1) n) else filter (begins d) (range_with_len (at + 1) n))) ≡ true
      by true is rest = and_from (p (global_at d at)) (list_all p (from (at + 1) n)) (holds at above (omega (arith, fits)) is) rest
      by false is rest = rest

  two-apart : (at next : ℕ) → at < next → begins d next ≡ true → are_apart (global_at d at) (global_at d next) ≡ true
  two-apart at next after is =
      or_left (nat_le (after_global (global_at d at)) (global_at d next).at) _
      (le-leb (after_global (global_at d at)) (global_at d next).at (omega (arith, end-is d at, at-is d next, ends-before d at next after is)))

  apart-from : (at n : ℕ) → at + n ≤ 65536 → all_apart (from at n) ≡ true
  apart-from at zero fits = refl
  apart-from at (suc n) fits = by (begins d at) refl (apart-from (at + 1) n (omega (arith, fits)))
    where
      by : (t : Bool) → begins d at ≡ t → all_apart (from (at + 1) n) ≡ true → all_apart (map (global_at d) (if t then at ∷ filter (begins d) (range_with_len (at + 1) n) else filter (begins d) (range_with_len (at + 1) n))) ≡ true
      by true is rest =
          and_from (list_all (are_apart (global_at d at)) (from (at + 1) n)) (all_apart (from (at + 1) n))
          (later-pass (are_apart (global_at d at)) (at + 1) (λ next above inside first. two-apart at next (omega (arith, above)) first) (at + 1) n (omega arith) (omega (arith, fits))) rest
      by false is rest = rest

  off-stack : (at : ℕ) → at < 65536 → begins d at ≡ true → is_off_stack d.lo d.hi (global_at d at) ≡ true
  off-stack at inside is = elim (cases_Bool (nat_le d.hi d.lo)) [
    | inl none ↦ or_left (nat_le d.hi d.lo) _ none
    | inr some ↦ or_right (nat_le d.hi d.lo) _ (apart (leb-false d.hi d.lo some))
  ]
    where
      apart : d.lo < d.hi → (nat_le (after_global (global_at d at)) d.lo || nat_le d.hi (global_at d at).at) ≡ true
      apart some = elim (cases_Bool (nat_le d.hi at)) [
        | inl above ↦ or_right (nat_le (after_global (global_at d at)) d.lo) _ (le-leb d.hi (global_at d at).at (let h = leb-true d.hi at above in omega (arith, h, at-is d at)))
        | inr not_above ↦ or_left (nat_le (after_global (global_at d at)) d.lo) _ (le-leb (after_global (global_at d at)) d.lo (below some (leb-false d.hi at not_above)))
      ]
        where
          -- a byte of the variable that lies in the stack can't be covered
          clash : (k : ℕ) → d.lo ≤ k → k < d.hi → at ≤ k → k < at + extent d at → ⊥
          clash k low high from_here below_end =
              true≢false (sym (and_from (nat_le d.lo k) (nat_lt k d.hi) (le-leb d.lo k low) (lt-ltb k d.hi high))
              ∙ covered-off d k (extent-covered d at k is from_here below_end))

          below : d.lo < d.hi → at < d.hi → after_global (global_at d at) ≤ d.lo
          below some under = elim (cases_Bool (nat_le (at + extent d at) d.lo)) [
            | inl ends ↦ let h = leb-true (at + extent d at) d.lo ends in omega (arith, h, end-is d at)
            | inr goes ↦
                let h = leb-false (at + extent d at) d.lo goes in
                elim (cases_Bool (nat_le d.lo at)) [
                  | inl within ↦ absurd (clash at (leb-true d.lo at within) under (omega arith) (let e = extent-some d at in omega (arith, e)))
                  | inr before ↦ absurd (clash d.lo (omega arith) some (let b = leb-false d.lo at before in omega (arith, b)) h)
                ]
          ]

  pub are-allowed : AreAllowed d.lo d.hi (globals_of d)
  unfolding globals_of
  are-allowed = record {
    allowed = all-pass allows_global
        (λ at inside is. either-allowed d at (extent d at) (global_at d at) (extent-some d at) (extent-fits d at inside) (either d at)) 0 65536 (omega arith);
    apart = apart-from 0 65536 (omega arith);
    off_stack = all-pass (is_off_stack d.lo d.hi) off-stack 0 65536 (omega arith);
  }

  -- Names.

  name-is : (at : ℕ) → IsNamed at (global_at d at).name
  name-is at = either-named d at (extent d at) (global_at d at) (either d at)

  names-begin : (at n : ℕ) → at + n ≤ 65536 → list_all is_data_name (map (λ (g : Global). g.name) (from at n)) ≡ true
  names-begin at zero fits = refl
  names-begin at (suc n) fits = by (begins d at) refl (names-begin (at + 1) n (omega (arith, fits)))
    where
      by : (t : Bool) → begins d at ≡ t → list_all is_data_name (map (λ (g : Global). g.name) (from (at + 1) n)) ≡ true → list_all is_data_name (map (λ (g : Global). g.name) (map (global_at d) (if t then at ∷ filter (begins d) (range_with_len (at + 1) n) else filter (begins d) (range_with_len (at + 1) n)))) ≡ true
      by true is rest = and_from (is_data_name (global_at d at).name) _ (named-data at (global_at d at).name (name-is at)) rest
      by false is rest = rest

  not-later : (at low n : ℕ) → at < low → low + n ≤ 65536 → is_among (map (λ (g : Global). g.name) (from low n)) (global_at d at).name ≡ false
  not-later at low zero less fits = refl
  not-later at low (suc n) less fits = by (begins d low) refl (not-later at (low + 1) n (omega (arith, less)) (omega (arith, fits)))
    where
      by : (t : Bool) → begins d low ≡ t → is_among (map (λ (g : Global). g.name) (from (low + 1) n)) (global_at d at).name ≡ false → is_among (map (λ (g : Global). g.name) (map (global_at d) (if t then low ∷ filter (begins d) (range_with_len (low + 1) n) else filter (begins d) (range_with_len (low + 1) n)))) (global_at d at).name ≡ false
      by true is rest =
          or_from (same_bytes (global_at d at).name (global_at d low).name) _
          (names-apart at low (global_at d at).name (global_at d low).name (omega (arith, less, fits)) (omega (arith, fits)) (λ e. omega (arith, e, less)) (name-is at) (name-is low)) rest
      by false is rest = rest

  names-differ : (at n : ℕ) → at + n ≤ 65536 → all_differ (map (λ (g : Global). g.name) (from at n)) ≡ true
  names-differ at zero fits = refl
  names-differ at (suc n) fits = by (begins d at) refl (names-differ (at + 1) n (omega (arith, fits)))
    where
      by : (t : Bool) → begins d at ≡ t → all_differ (map (λ (g : Global). g.name) (from (at + 1) n)) ≡ true → all_differ (map (λ (g : Global). g.name) (map (global_at d) (if t then at ∷ filter (begins d) (range_with_len (at + 1) n) else filter (begins d) (range_with_len (at + 1) n)))) ≡ true
      by true is rest =
          and_from (not (is_among (map (λ (g : Global). g.name) (from (at + 1) n)) (global_at d at).name)) _
          (not_from_false _ (not-later at (at + 1) n (omega arith) (omega (arith, fits)))) rest
      by false is rest = rest

  pub have-names : HaveNames (globals_of d)
  unfolding globals_of
  have-names = record { begin = names-begin 0 65536 (omega arith); differ = names-differ 0 65536 (omega arith) }

  -- What they have and hold.

  pub all-hold : All IsByte d.bytes → All (HoldsData d.bytes) (globals_of d)
  unfolding globals_of
  all-hold are =
      each (HoldsData d.bytes) (λ at inside is. either-holds d at (extent d at) (global_at d at) (extent-fits d at inside) are (either d at)) 0 65536 (omega arith)

  has-parts : (k at : ℕ) → has k (global_at d at) ≡ true → (at ≤ k) × (k < at + extent d at)
  has-parts k at h =
      let (first, last) = and_parts (nat_le (global_at d at).at k) (nat_lt k (after_global (global_at d at))) h in
      let a = leb-true (global_at d at).at k first in
      let b = ltb-true k (after_global (global_at d at)) last in
      (omega (arith, a, at-is d at), omega (arith, b, end-is d at))

  has-from : (k at : ℕ) → at ≤ k → k < at + extent d at → has k (global_at d at) ≡ true
  has-from k at first last =
      and_from (nat_le (global_at d at).at k) (nat_lt k (after_global (global_at d at)))
      (le-leb (global_at d at).at k (omega (arith, first, at-is d at))) (lt-ltb k (after_global (global_at d at)) (omega (arith, last, end-is d at)))

  -- a byte of a variable is covered
  in-covered : (k at n : ℕ) → is_in k (from at n) ≡ true → is_covered d k ≡ true
  in-covered k at zero h = absurd (true≢false (sym h))
  in-covered k at (suc n) h = by (begins d at) refl h (λ later. in-covered k (at + 1) n later)
    where
      by : (t : Bool) → begins d at ≡ t → is_in k (map (global_at d) (if t then at ∷ filter (begins d) (range_with_len (at + 1) n) else filter (begins d) (range_with_len (at + 1) n))) ≡ true → (is_in k (from (at + 1) n) ≡ true → is_covered d k ≡ true) → is_covered d k ≡ true
      by true is h rest = elim (or_cases (has k (global_at d at)) (is_in k (from (at + 1) n)) h) [
        | inl here ↦ let (first, last) = has-parts k at here in extent-covered d at k is first last
        | inr later ↦ rest later
      ]
      by false is h rest = rest h

  pub in-off : (k : ℕ) → is_in k (globals_of d) ≡ true → is_in_stack d.lo d.hi k ≡ false
  unfolding globals_of
  in-off k h = covered-off d k (in-covered k 0 65536 h)

  abbrev list-if : ℕ → ℕ → Bool → List Global
  list-if at n t = map (global_at d) (if t then at ∷ filter (begins d) (range_with_len (at + 1) n) else filter (begins d) (range_with_len (at + 1) n))

  -- what a variable has is in the list
  owned-in : (k owner at n : ℕ) → begins d owner ≡ true → at ≤ owner → owner < at + n → has k (global_at d owner) ≡ true → is_in k (from at n) ≡ true
  owned-in k owner at zero first above below there = absurd (omega (arith, above, below))
  owned-in k owner at (suc n) first above below there = elim (cases_Bool (at == owner)) [
    | inl same ↦ here (eqb-true at owner same)
    | inr other ↦ by (begins d at) (λ e. true≢false (sym (eq-eqb at owner e) ∙ other)) (λ more. owned-in k owner (at + 1) n first more (omega (arith, below)) there)
  ]
    where
      here : at ≡ owner → is_in k (list-if at n (begins d at)) ≡ true
      here same =
          ap (λ t. is_in k (list-if at n t)) (subst (λ o. begins d o ≡ true) (sym same) first)
          ∙ or_left (has k (global_at d at)) (is_in k (from (at + 1) n)) (subst (λ o. has k (global_at d o) ≡ true) (sym same) there)

      by : (t : Bool) → at ≢ owner → (at + 1 ≤ owner → is_in k (from (at + 1) n) ≡ true) → is_in k (list-if at n t) ≡ true
      by true apart rest = or_right (has k (global_at d at)) (is_in k (from (at + 1) n)) (rest (omega (arith, above, apart)))
      by false apart rest = rest (omega (arith, above, apart))

  missing-below : (k : ℕ) → k < 65536 → is_in_stack d.lo d.hi k ≡ false → is_in k (from 0 65536) ≡ false → get_or d.bytes k 0 ≡ 0
  missing-below k inside off none = elim (cases_Bool (nat_lt k (length d.bytes))) [
    | inr past ↦ get_or_past d.bytes k 0 (ltb-false k (length d.bytes) past)
    | inl there ↦ absurd (owned (owner-of d k inside (image-covered d k inside (ltb-true k (length d.bytes) there) off)))
  ]
    where
      owned : (owner : ℕ) × IsOwner d k owner → ⊥
      owned (owner, is) =
          true≢false (sym (owned-in k owner 0 65536 is.first (omega arith) (let h = is.from in omega (arith, h, inside)) (has-from k owner is.from is.below)) ∙ none)

  -- a byte off the stack that no variable has is 0
  pub missing-zero : (k : ℕ) → k < 65536 → is_in_stack d.lo d.hi k ≡ false → is_in k (globals_of d) ≡ false → get_or d.bytes k 0 ≡ 0
  unfolding globals_of
  missing-zero k inside off none = missing-below k inside off none
