-- Laws of words of bits.
use Rattle.std.proofs.Common.{◌≡◌, ◌≢◌, ℕ, zero, suc, ◌+◌, ◌-◌, ◌*◌, ◌/◌, ◌%◌, ◌^◌, ◌<◌, ◌≤◌, min, max, Bool, true, false, ◌&&◌, ◌||◌, not, ◌⊎◌, inl, inr, MatchBool, MatchOption, Option, Some, None, List, [], ◌∷◌, ◌++◌, length, get_or, replicate, slice_set, refl, sym, ap, ◌∙◌, subst, arith, w64, bit_and, bit_or}
use Rattle.std.specs.Prelude.{◌==◌}
use Rattle.std.specs.Int.{bit_at, bit_not, trailing_zeros}
use Rattle.std.proofs.lemmas.Bool.{false≢true, cases_Bool, cases_eq, cases_lt, eqb-true, eq-eqb, or_parts, not-false}
use Rattle.std.proofs.lemmas.List.{ext_get_or, get_or_read, length-set, length-replicate, get_or-replicate, get_or-set_same, get_or-set_other, set-get_or, get_or_past}
use Rattle.std.proofs.lemmas.List.Elements.{All-set, All-replicate, All-get_or, All-from_get_or}
use Rattle.std.proofs.lemmas.List.FromFn.{length-map-range_with_len, get_or-map-range_with_len, fill_by_all}
use Rattle.std.proofs.Math.Nat.{div-div-eq-div-mul, div-le_self}
use Rattle.std.proofs.lemmas.Nat.{or_lt, and_le_l, pow-add}
use Rattle.std.proofs.lemmas.Nat.Bits.{bit_at-zero, bit_at_and, bit_at_or, bit_at_not, bit_at-lt, bit_at_set_same, bit_at_set_other, bit_at_above, bit_at-trailing_zeros, same_from_bits_below}
use Rattle.dcc_flow.specs.Bits.{words_for, bit, flowed, is_other, differ, IsNext, AreNoneFrom}
use Rattle.dcc_flow.specs.Words.{bit_in, bits_in, AreWords, flowed_word, flowed_words, IsNextSet, AreNoneSet}

-- One bit.

two : (a : ℕ) → a < 2 → (a ≡ 0) ⊎ (a ≡ 1)
two a h = elim (cases_eq a 0) [ inl e ↦ inl e | inr o ↦ inr (omega arith) ]

for_bits : (P : ℕ → Type 0) → P 0 → P 1 → (a : ℕ) → a < 2 → P a
for_bits P p q a h = elim (two a h) [ inl e ↦ subst P (sym e) p | inr e ↦ subst P (sym e) q ]

or_bits : (a b : ℕ) → a < 2 → b < 2 → (max a b == 1) ≡ ((a == 1) || (b == 1))
or_bits a b h k = for_bits (λ x. (max x b == 1) ≡ ((x == 1) || (b == 1)))
    (for_bits (λ y. (max 0 y == 1) ≡ ((0 == 1) || (y == 1))) refl refl b k)
    (for_bits (λ y. (max 1 y == 1) ≡ ((1 == 1) || (y == 1))) refl refl b k) a h

and_bits : (a b : ℕ) → a < 2 → b < 2 → (min a b == 1) ≡ ((a == 1) && (b == 1))
and_bits a b h k = for_bits (λ x. (min x b == 1) ≡ ((x == 1) && (b == 1)))
    (for_bits (λ y. (min 0 y == 1) ≡ ((0 == 1) && (y == 1))) refl refl b k)
    (for_bits (λ y. (min 1 y == 1) ≡ ((1 == 1) && (y == 1))) refl refl b k) a h

not_bit : (a : ℕ) → a < 2 → (1 - a == 1) ≡ not (a == 1)
not_bit a h = for_bits (λ x. (1 - x == 1) ≡ not (x == 1)) refl refl a h

same_bit : (a b : ℕ) → a < 2 → b < 2 → (a == 1) ≡ (b == 1) → a ≡ b
same_bit a b h k = for_bits (λ x. (x == 1) ≡ (b == 1) → x ≡ b)
    (for_bits (λ y. (0 == 1) ≡ (y == 1) → 0 ≡ y) (λ e. refl) (λ e. absurd (false≢true e)) b k)
    (for_bits (λ y. (1 == 1) ≡ (y == 1) → 1 ≡ y) (λ e. absurd (false≢true (sym e))) (λ e. refl) b k) a h

flowed_bit : (a u o w i : ℕ) → w < 2 ^ 64 → i < 64 →
    (bit_at (flowed_word a u o w) i == 1) ≡ ((bit_at a i == 1) || (bit_at u i == 1) || ((bit_at o i == 1) && not (bit_at w i == 1)))
flowed_bit a u o w i h k =
    let first = bit_at_or (bit_or a u) (bit_and o (bit_not w64 w)) i in
    let left = bit_at_or a u i in
    let right = bit_at_and o (bit_not w64 w) i in
    let other = bit_at_not w64 w i h k in
    let l : bit_at (bit_or a u) i < 2 = bit_at-lt (bit_or a u) i in
    let r : bit_at (bit_and o (bit_not w64 w)) i < 2 = bit_at-lt (bit_and o (bit_not w64 w)) i in
    ap (λ x. x == 1) first
    ∙ or_bits (bit_at (bit_or a u) i) (bit_at (bit_and o (bit_not w64 w)) i) l r
    ∙ ap (λ x. x || (bit_at (bit_and o (bit_not w64 w)) i == 1)) (ap (λ x. x == 1) left ∙ or_bits (bit_at a i) (bit_at u i) (bit_at-lt a i) (bit_at-lt u i))
    ∙ ap (λ x. ((bit_at a i == 1) || (bit_at u i == 1)) || x)
    (ap (λ x. x == 1) right
    ∙ and_bits (bit_at o i) (bit_at (bit_not w64 w) i) (bit_at-lt o i) (bit_at-lt (bit_not w64 w) i)
    ∙ ap (λ x. (bit_at o i == 1) && x) (ap (λ x. x == 1) other ∙ not_bit (bit_at w i) (bit_at-lt w i)))
    ∙ assoc (bit_at a i == 1) (bit_at u i == 1) ((bit_at o i == 1) && not (bit_at w i == 1))
  where
    assoc : (x y z : Bool) → ((x || y) || z) ≡ (x || y || z)
    assoc true y z = refl
    assoc false y z = refl

-- Lists of words.

pub length_bits : (words : List ℕ) (len : ℕ) → length (bits_in words len) ≡ len
length_bits words len = length-map-range_with_len (bit_in words) 0 len

pub bit_at_place : (words : List ℕ) (len i : ℕ) → i < len → bit (bits_in words len) i ≡ bit_in words i
bit_at_place words len i h = get_or-map-range_with_len (bit_in words) 0 len i i false h (omega arith)

pub word_within : (words : List ℕ) (len i : ℕ) → length words ≡ words_for len → i < len → i / 64 < length words
word_within words len i e h = omega arith

-- words of zeros
clear_word : (n place : ℕ) → bit_in (replicate n 0) place ≡ false
clear_word n place =
    let zeros : get_or (replicate n 0) (place / 64) 0 ≡ 0 = elim (cases_lt (place / 64) n) [
      | inl inside ↦ get_or-replicate n (place / 64) 0 0 inside
      | inr past ↦ get_or_past (replicate n 0) (place / 64) 0 (omega (arith, length-replicate {A = ℕ} n 0))
    ] in
    ap (λ x. bit_at x (place % 64) == 1) zeros ∙ ap (λ x. x == 1) (bit_at-zero (place % 64))

pub no_words : (len : ℕ) → AreWords (replicate (words_for len) 0) len
no_words len = record {
  count = length-replicate (words_for len) 0;
  fits = All-replicate (λ word. word < 2 ^ 64) (words_for len) 0 (omega arith);
  clear = λ place h. clear_word (words_for len) place;
}

pub no_bits : (n len : ℕ) → bits_in (replicate n 0) len ≡ replicate len false
no_bits n len = ext_get_or false (bits_in (replicate n 0) len) (replicate len false) (length_bits (replicate n 0) len ∙ sym (length-replicate len false)) (λ i h.
    let inside : i < len = omega (arith, length_bits (replicate n 0) len) in
    bit_at_place (replicate n 0) len i inside ∙ clear_word n i ∙ sym (get_or-replicate len i false false inside))

-- a further word without bits is as one that isn't there
pub word_more : (words : List ℕ) (place : ℕ) → bit_in (words ++ 0 ∷ []) place ≡ bit_in words place
word_more words place = ap (λ w. bit_at w (place % 64) == 1) (same words (place / 64))
  where
    same : (xs : List ℕ) (n : ℕ) → get_or (xs ++ 0 ∷ []) n 0 ≡ get_or xs n 0
    same [] zero = refl
    same [] (suc n) = refl
    same (x ∷ xs) zero = refl
    same (x ∷ xs) (suc n) = same xs n

-- One bit is set.
module _ (words : List ℕ) (i : ℕ) (within : i / 64 < length words) where
  abbrev pub with_bit : List ℕ
  with_bit = slice_set words (i / 64) (bit_or (get_or words (i / 64) 0) (1 * 2 ^ (i % 64) % 2 ^ 64))

  pub set_here : bit_in with_bit i ≡ true
  set_here =
      let word = get_or words (i / 64) 0 in
      let new = bit_or word (1 * 2 ^ (i % 64) % 2 ^ 64) in
      ap (λ x. bit_at x (i % 64) == 1) (get_or-set_same words (i / 64) new 0 within)
      ∙ ap (λ x. x == 1) (bit_at_set_same w64 word (i % 64) (omega arith))

  pub set_there : (place : ℕ) → place ≢ i → bit_in with_bit place ≡ bit_in words place
  set_there place off =
      let word = get_or words (i / 64) 0 in
      let new = bit_or word (1 * 2 ^ (i % 64) % 2 ^ 64) in
      elim (cases_eq (place / 64) (i / 64)) [
        | inl e ↦
            let far : place % 64 ≢ i % 64 = λ f. off (omega arith) in
            ap (λ q. bit_at (get_or (slice_set words (i / 64) new) q 0) (place % 64) == 1) e
            ∙ ap (λ x. bit_at x (place % 64) == 1) (get_or-set_same words (i / 64) new 0 within)
            ∙ ap (λ x. x == 1) (bit_at_set_other w64 word (i % 64) (omega arith) (place % 64) far)
            ∙ ap (λ q. bit_at (get_or words q 0) (place % 64) == 1) (sym e)
        | inr o ↦ ap (λ x. bit_at x (place % 64) == 1) (get_or-set_other words (i / 64) (place / 64) new 0 o)
      ]

module _ (words : List ℕ) (len i : ℕ) (are : AreWords words len) (inside : i < len) where
  abbrev pub within : i / 64 < length words
  within = word_within words len i are.count inside

  abbrev pub set_one : List ℕ
  set_one = with_bit words i within

  pub set_words : AreWords set_one len
  set_words =
      let word = get_or words (i / 64) 0 in
      record {
        count = length-set words (i / 64) (bit_or word (1 * 2 ^ (i % 64) % 2 ^ 64)) ∙ are.count;
        fits = All-set (λ x. x < 2 ^ 64) words (i / 64) (bit_or word (1 * 2 ^ (i % 64) % 2 ^ 64))
            (or_lt 64 word (1 * 2 ^ (i % 64) % 2 ^ 64) (All-get_or (λ x. x < 2 ^ 64) words (i / 64) 0 within are.fits) (omega arith)) are.fits;
        clear = λ place h. set_there words i within place (λ e. omega arith) ∙ are.clear place h;
      }

  pub set_bits : bits_in set_one len ≡ slice_set (bits_in words len) i true
  set_bits =
      let same_len = length_bits words len in
      ext_get_or false (bits_in set_one len) (slice_set (bits_in words len) i true) (length_bits set_one len ∙ sym (length-set (bits_in words len) i true ∙ same_len)) (λ k h.
      let below : k < len = omega (arith, length_bits set_one len) in
      bit_at_place set_one len k below ∙ elim (cases_eq k i) [
        | inl e ↦ ap (bit_in set_one) e ∙ set_here words i within ∙ sym (ap (λ j. bit (slice_set (bits_in words len) i true) j) e ∙ get_or-set_same (bits_in words len) i true false (omega arith))
        | inr o ↦ set_there words i within k o ∙ sym (get_or-set_other (bits_in words len) i k true false o ∙ bit_at_place words len k below)
      ])

-- Lists that differ.

pub differ_same : (xs : List Bool) → differ xs xs ≡ false
differ_same [] = refl
differ_same (true ∷ xs) = differ_same xs
differ_same (false ∷ xs) = differ_same xs

same_value : (x y : Bool) → is_other x y ≡ false → x ≡ y
same_value true y h = sym (not-false y h)
same_value false y h = sym h

pub same_lists : (xs ys : List Bool) → differ xs ys ≡ false → xs ≡ ys
same_lists [] [] h = refl
same_lists [] (y ∷ ys) h = absurd (false≢true (sym h))
same_lists (x ∷ xs) [] h = absurd (false≢true (sym h))
same_lists (x ∷ xs) (y ∷ ys) h =
    let parts = or_parts (is_other x y) (differ xs ys) h in
    let heads = same_value x y parts.0 in
    let tails = same_lists xs ys parts.1 in
    cc

-- words with the same bits are the same
pub same_words : (xs ys : List ℕ) (len : ℕ) → AreWords xs len → AreWords ys len → bits_in xs len ≡ bits_in ys len → xs ≡ ys
same_words xs ys len a b e = ext_get_or 0 xs ys (a.count ∙ sym b.count) (λ q h.
    same_from_bits_below 64 (get_or xs q 0) (get_or ys q 0) (All-get_or (λ x. x < 2 ^ 64) xs q 0 h a.fits) (All-get_or (λ x. x < 2 ^ 64) ys q 0 (omega (arith, a.count, b.count)) b.fits) (λ j k.
    let place = 64 * q + j in
    let at : place / 64 ≡ q = omega arith in
    let low : place % 64 ≡ j = omega arith in
    let both : bit_in xs place ≡ bit_in ys place = elim (cases_lt place len) [
      | inl inside ↦ sym (bit_at_place xs len place inside) ∙ ap (λ l. bit l place) e ∙ bit_at_place ys len place inside
      | inr past ↦ a.clear place past ∙ sym (b.clear place past)
    ] in
    let here : (bit_at (get_or xs q 0) j == 1) ≡ (bit_at (get_or ys q 0) j == 1) =
    subst (λ (p : ℕ × ℕ). (bit_at (get_or xs p.0 0) p.1 == 1) ≡ (bit_at (get_or ys p.0 0) p.1 == 1)) (pair_is at low) both in
    same_bit (bit_at (get_or xs q 0) j) (bit_at (get_or ys q 0) j) (bit_at-lt (get_or xs q 0) j) (bit_at-lt (get_or ys q 0) j) here))
  where
    pair_is : {m n p q : ℕ} → m ≡ p → n ≡ q → ◌≡◌ {A = ℕ × ℕ} (m, n) (p, q)
    pair_is e f = cc

-- All words flow.
module _ (words used out written : List ℕ) (len : ℕ) (are : AreWords words len) (uses : AreWords used len) (outs : AreWords out len) (writes : AreWords written len) where
  word : ℕ → ℕ
  word k = flowed_word (get_or words k 0) (get_or used k 0) (get_or out k 0) (get_or written k 0)

  after : List ℕ
  after = flowed_words words used out written

  after_length : length after ≡ length words
  unfolding after
  after_length = length-map-range_with_len (λ k. flowed_word (get_or words k 0) (get_or used k 0) (get_or out k 0) (get_or written k 0)) 0 (length words)

  after_at : (k : ℕ) → k < length words → get_or after k 0 ≡ word k
  unfolding after word
  after_at k h = get_or-map-range_with_len (λ k. flowed_word (get_or words k 0) (get_or used k 0) (get_or out k 0) (get_or written k 0)) 0 (length words) k k 0 h (omega arith)

  small : (k : ℕ) → k < length words → get_or written k 0 < 2 ^ 64
  small k h = All-get_or (λ x. x < 2 ^ 64) written k 0 (omega (arith, are.count, writes.count)) writes.fits

  after_bit : (place : ℕ) → bit_in after place ≡ (bit_in words place || bit_in used place || (bit_in out place && not (bit_in written place)))
  unfolding word
  after_bit place = elim (cases_lt (place / 64) (length words)) [
    | inl inside ↦
        let q = place / 64 in
        ap (λ x. bit_at x (place % 64) == 1) (after_at q inside)
        ∙ flowed_bit (get_or words q 0) (get_or used q 0) (get_or out q 0) (get_or written q 0) (place % 64) (small q inside) (omega arith)
    | inr past ↦
        let gone : len ≤ place = omega (arith, are.count) in
        let none : bit_in after place ≡ false =
        ap (λ x. bit_at x (place % 64) == 1) (get_or_past after (place / 64) 0 (omega (arith, after_length))) ∙ ap (λ x. x == 1) (bit_at-zero (place % 64)) in
        none ∙ sym (dark place gone)
  ]
    where
      dark : (place : ℕ) → len ≤ place → (bit_in words place || bit_in used place || (bit_in out place && not (bit_in written place))) ≡ false
      dark place gone = ap (λ x. x || bit_in used place || (bit_in out place && not (bit_in written place))) (are.clear place gone)
          ∙ ap (λ x. x || (bit_in out place && not (bit_in written place))) (uses.clear place gone)
          ∙ ap (λ x. x && not (bit_in written place)) (outs.clear place gone)

  pub flowed_are : AreWords (flowed_words words used out written) len
  unfolding after word
  flowed_are = record {
    count = after_length ∙ are.count;
    fits = All-from_get_or (λ x. x < 2 ^ 64) after 0 (λ k h.
        let inside : k < length words = omega (arith, after_length) in
        subst (λ x. x < 2 ^ 64) (sym (after_at k inside))
        (or_lt 64 (bit_or (get_or words k 0) (get_or used k 0)) (bit_and (get_or out k 0) (bit_not w64 (get_or written k 0)))
        (or_lt 64 (get_or words k 0) (get_or used k 0) (All-get_or (λ x. x < 2 ^ 64) words k 0 inside are.fits)
        (All-get_or (λ x. x < 2 ^ 64) used k 0 (omega (arith, are.count, uses.count)) uses.fits))
        (and_below (get_or out k 0) (bit_not w64 (get_or written k 0)) (All-get_or (λ x. x < 2 ^ 64) out k 0 (omega (arith, are.count, outs.count)) outs.fits))));
    clear = λ place gone. after_bit place ∙ ap (λ x. x || bit_in used place || (bit_in out place && not (bit_in written place))) (are.clear place gone)
        ∙ ap (λ x. x || (bit_in out place && not (bit_in written place))) (uses.clear place gone)
        ∙ ap (λ x. x && not (bit_in written place)) (outs.clear place gone);
  }
    where
      and_below : (a b : ℕ) → a < 2 ^ 64 → bit_and a b < 2 ^ 64
      and_below a b h = omega (arith, h, and_le_l a b)

  pub flowed_bits : bits_in (flowed_words words used out written) len ≡ flowed (bits_in words len) (bits_in used len) (bits_in out len) (bits_in written len)
  unfolding after
  flowed_bits =
      fill_by_all (λ i. bit (bits_in words len) i || bit (bits_in used len) i || (bit (bits_in out len) i && not (bit (bits_in written len) i)))
      (bits_in after len) (length (bits_in words len)) false (length_bits after len ∙ sym (length_bits words len)) (λ k h.
      let inside : k < len = omega (arith, length_bits words len) in
      bit_at_place after len k inside ∙ after_bit k
      ∙ sym (ap (λ x. x || bit (bits_in used len) k || (bit (bits_in out len) k && not (bit (bits_in written len) k))) (bit_at_place words len k inside)
      ∙ ap (λ x. bit_in words k || x || (bit (bits_in out len) k && not (bit (bits_in written len) k))) (bit_at_place used len k inside)
      ∙ ap (λ x. bit_in words k || bit_in used k || (x && not (bit (bits_in written len) k))) (bit_at_place out len k inside)
      ∙ ap (λ x. bit_in words k || bit_in used k || (bit_in out k && not x)) (bit_at_place written len k inside)))

  -- whether a word changed is whether a place did
  pub flowed_differ : (changed : Bool) → MatchBool changed (flowed_words words used out written ≢ words) (flowed_words words used out written ≡ words)
      → changed ≡ differ (bits_in words len) (bits_in (flowed_words words used out written) len)
  unfolding after
  flowed_differ true other = elim (cases_Bool (differ (bits_in words len) (bits_in after len))) [
    | inl t ↦ sym t
    | inr f ↦ absurd (other (same_words after words len flowed_are are (sym (same_lists (bits_in words len) (bits_in after len) f))))
  ]
  flowed_differ false same = sym (ap (λ l. differ (bits_in words len) (bits_in l len)) same ∙ differ_same (bits_in words len))

-- Words flow one after another.

pub record FlowedTo (words initial used out written : List ℕ) (k : ℕ) (changed : Bool) : Type 0 where
  pub same_length : length words ≡ length initial
  pub below : (q : ℕ) → q < k → get_or words q 0 ≡ flowed_word (get_or initial q 0) (get_or used q 0) (get_or out q 0) (get_or written q 0)
  pub kept : (q : ℕ) → k ≤ q → get_or words q 0 ≡ get_or initial q 0
  pub change : MatchBool changed (words ≢ initial) (words ≡ initial)

pub flowed_none : (words used out written : List ℕ) → FlowedTo words words used out written 0 false
flowed_none words used out written = record { same_length = refl; below = λ q h. absurd (omega arith); kept = λ q h. refl; change = refl }

change_more : (words initial : List ℕ) (k new : ℕ) → k < length words → get_or words k 0 ≡ get_or initial k 0 → (b : Bool) → MatchBool b (words ≢ initial) (words ≡ initial) →
    (t : Bool) → (new == get_or words k 0) ≡ t → MatchBool (b || not t) (slice_set words k new ≢ initial) (slice_set words k new ≡ initial)
change_more words initial k new inside same true other t e = λ equal.
    let here : new ≡ get_or words k 0 = sym (get_or-set_same words k new 0 inside) ∙ ap (λ l. get_or l k 0) equal ∙ sym same in
    other (sym (ap (slice_set words k) here ∙ set-get_or words k 0) ∙ equal)
change_more words initial k new inside same false h true e =
    ap (slice_set words k) (eqb-true new (get_or words k 0) e) ∙ set-get_or words k 0 ∙ h
change_more words initial k new inside same false h false e = λ equal.
    let here : new ≡ get_or words k 0 = sym (get_or-set_same words k new 0 inside) ∙ ap (λ l. get_or l k 0) equal ∙ sym same in
    false≢true (sym e ∙ eq-eqb new (get_or words k 0) here)

pub flowed_more : (words initial used out written : List ℕ) (k new : ℕ) (changed : Bool) → k < length words
    → new ≡ flowed_word (get_or words k 0) (get_or used k 0) (get_or out k 0) (get_or written k 0)
    → FlowedTo words initial used out written k changed
    → FlowedTo (slice_set words k new) initial used out written (k + 1) (changed || not (new == get_or words k 0))
flowed_more words initial used out written k new changed inside is h = record {
  same_length = length-set words k new ∙ h.same_length;
  below = λ q less. elim (cases_eq q k) [
    | inl e ↦
        ap (λ j. get_or (slice_set words k new) j 0) e ∙ get_or-set_same words k new 0 inside ∙ is
        ∙ ap (λ x. flowed_word x (get_or used k 0) (get_or out k 0) (get_or written k 0)) (h.kept k (omega arith))
        ∙ ap (λ j. flowed_word (get_or initial j 0) (get_or used j 0) (get_or out j 0) (get_or written j 0)) (sym e)
    | inr o ↦ get_or-set_other words k q new 0 o ∙ h.below q (omega arith)
  ];
  kept = λ q le. get_or-set_other words k q new 0 (λ e. omega arith) ∙ h.kept q (omega arith);
  change = change_more words initial k new inside (h.kept k (omega arith)) changed h.change (new == get_or words k 0) refl;
}

pub flowed_all : (words initial used out written : List ℕ) (k : ℕ) (changed : Bool) → length initial ≤ k
    → FlowedTo words initial used out written k changed → words ≡ flowed_words initial used out written
flowed_all words initial used out written k changed all h =
    fill_by_all (λ q. flowed_word (get_or initial q 0) (get_or used q 0) (get_or out q 0) (get_or written q 0)) words (length initial) 0 h.same_length (λ q less. h.below q (omega arith))

pub length_flowed : (words used out written : List ℕ) → length (flowed_words words used out written) ≡ length words
length_flowed words used out written =
    length-map-range_with_len (λ k. flowed_word (get_or words k 0) (get_or used k 0) (get_or out k 0) (get_or written k 0)) 0 (length words)

-- Words that keep a list.

pub record Keep (words : List ℕ) (len : ℕ) (bits : List Bool) : Type 0 where
  pub are : AreWords words len
  pub view : bits_in words len ≡ bits

keep_len : {words : List ℕ} {len : ℕ} {bits : List Bool} → Keep words len bits → length bits ≡ len
keep_len {words} {len} k = sym (ap length k.view) ∙ length_bits words len

pub same_count :
    {words others : List ℕ} {len other : ℕ} {bits list : List Bool}
    → Keep words len bits → Keep others other list → length list ≡ length bits → length others ≡ length words
same_count k o e = o.are.count ∙ ap words_for (sym (keep_len o) ∙ e ∙ keep_len k) ∙ sym k.are.count

-- the word of a place
pub place_word : {words : List ℕ} {len : ℕ} {bits : List Bool} → Keep words len bits → (i : ℕ) → i < length bits → i / 64 < length words
place_word {words} {len} k i inside = word_within words len i k.are.count (omega (arith, keep_len k))

pub place_bit : {words : List ℕ} {len : ℕ} {bits : List Bool} → Keep words len bits → (i : ℕ) → i < length bits → bit_in words i ≡ bit bits i
place_bit {words} {len} k i inside =
    sym (bit_at_place words len i (omega (arith, keep_len k))) ∙ ap (λ l. bit l i) k.view

-- The word of a place takes its bit.
pub record SetsPlace (words : List ℕ) (len : ℕ) (bits : List Bool) (i word : ℕ) : Type 0 where
  pub are : AreWords (slice_set words (i / 64) word) len
  pub places : bits_in (slice_set words (i / 64) word) len ≡ slice_set bits i true

pub set_place :
    {words : List ℕ} {len : ℕ} {bits : List Bool} → Keep words len bits → (i word : ℕ) → i < length bits
    → word ≡ get_or words (i / 64) word → SetsPlace words len bits i (bit_or word (1 * 2 ^ (i % 64) % 2 ^ 64))
set_place {words} {len} {bits} k i word inside is =
    let below : i < len = omega (arith, keep_len k) in
    let read : word ≡ get_or words (i / 64) 0 = get_or_read words (i / 64) word (place_word k i inside) is 0 in
    subst (λ w. SetsPlace words len bits i (bit_or w (1 * 2 ^ (i % 64) % 2 ^ 64))) (sym read) (record {
      are = set_words words len i k.are below;
      places = set_bits words len i k.are below ∙ ap (λ l. slice_set l i true) k.view;
    })

-- Words flow as the lists do that they keep.
pub record Flowing (words after : List ℕ) (len : ℕ) (bits used out written : List Bool) : Type 0 where
  pub are : AreWords after len
  pub places : bits_in after len ≡ flowed bits used out written
  pub differs : (b : Bool) → MatchBool b (after ≢ words) (after ≡ words) → b ≡ differ bits (bits_in after len)

-- words that keep a list keep another one of that length with the same values
keep_same : {words others : List ℕ} {len other : ℕ} {bits list : List Bool}
    → Keep words len bits → Keep others other list → length list ≡ length bits → Keep others len list
keep_same {others = others} {list = list} k o e =
    subst (λ n. Keep others n list) (sym (keep_len o) ∙ e ∙ keep_len k) o

pub flowing :
    {words uses outs writes : List ℕ} {len ul ol wl : ℕ} {bits used out written : List Bool}
    → Keep words len bits → Keep uses ul used → Keep outs ol out → Keep writes wl written
    → length used ≡ length bits → length out ≡ length bits → length written ≡ length bits
    → (now : List ℕ) → now ≡ flowed_words words uses outs writes → Flowing words now len bits used out written
flowing {words} {uses} {outs} {writes} {len = len} {bits = bits} {used = used} {out = out} {written = written} k u o w e f g now is =
    let us = keep_same k u e in
    let os = keep_same k o f in
    let ws = keep_same k w g in
    subst (λ l. Flowing words l len bits used out written) (sym is) (record {
      are = flowed_are words uses outs writes len k.are us.are os.are ws.are;
      places = flowed_bits words uses outs writes len k.are us.are os.are ws.are
          ∙ ap (λ l. flowed l (bits_in uses len) (bits_in outs len) (bits_in writes len)) k.view
          ∙ ap (λ l. flowed bits l (bits_in outs len) (bits_in writes len)) us.view
          ∙ ap (λ l. flowed bits used l (bits_in writes len)) os.view ∙ ap (flowed bits used out) ws.view;
      differs = λ b told. flowed_differ words uses outs writes len k.are us.are os.are ws.are b told
          ∙ ap (λ l. differ l (bits_in (flowed_words words uses outs writes) len)) k.view;
    })

-- The next bit that is set.

shifted_bit : (w s i : ℕ) → bit_at (w / 2 ^ s) i ≡ bit_at w (s + i)
shifted_bit w s i = ap (λ x. x % 2) (div-div-eq-div-mul w (2 ^ s) (2 ^ i) ∙ ap (λ d. w / d) (sym (pow-add 2 s i)))

-- a bit of a word, by what is left of the word
module _ (words : List ℕ) (k s : ℕ) (small : s < 64) where
  abbrev pub rest : ℕ
  rest = get_or words k 0 / 2 ^ s

  rest_bit : (i : ℕ) → s + i < 64 → bit_in words (64 * k + s + i) ≡ (bit_at rest i == 1)
  rest_bit i less =
      let place = 64 * k + s + i in
      let at : place / 64 ≡ k = omega arith in
      let low : place % 64 ≡ s + i = omega arith in
      ap (λ q. bit_at (get_or words q 0) (place % 64) == 1) at ∙ ap (λ j. bit_at (get_or words k 0) j == 1) low
      ∙ ap (λ x. x == 1) (sym (shifted_bit (get_or words k 0) s i))

  -- where nothing is left, no bit from there to the word's end is set
  pub rest_none : rest ≡ 0 → (n : ℕ) → 64 * k + s ≤ n → n < 64 * (k + 1) → bit_in words n ≡ false
  rest_none none n low high =
      let i = n - (64 * k + s) in
      let is : n ≡ 64 * k + s + i = omega arith in
      ap (bit_in words) is ∙ rest_bit i (omega arith) ∙ ap (λ w. bit_at w i == 1) none ∙ ap (λ x. x == 1) (bit_at-zero i)

  module _ (word : get_or words k 0 < 2 ^ 64) (some : 0 < rest) where
    abbrev pub zeros : ℕ
    zeros = trailing_zeros w64 rest

    lowest : (zeros < 64) × (bit_at rest zeros ≡ 1) × ((i : ℕ) → i < zeros → bit_at rest i ≡ 0)
    lowest =
        let whole : rest ≤ get_or words k 0 = div-le_self (get_or words k 0) (2 ^ s) in
        bit_at-trailing_zeros w64 rest some (omega (arith, whole, word))

    pub rest_within : s + zeros < 64
    rest_within = elim (cases_lt (s + zeros) 64) [
      | inl less ↦ less
      | inr past ↦
          let none = bit_at_above (get_or words k 0) 64 (s + zeros) word past in
          let both : 1 ≡ 0 = sym lowest.1 ∙ shifted_bit (get_or words k 0) s zeros ∙ none in
          absurd (omega (arith, both))
    ]

    -- the lowest bit that is left is the next one
    pub rest_some : (from : ℕ) → from ≤ 64 * k + s → ((n : ℕ) → from ≤ n → n < 64 * k + s → bit_in words n ≡ false)
        → IsNextSet words from (64 * k + s + zeros)
    rest_some from after none = record {
      after = omega arith;
      there = rest_bit zeros rest_within ∙ ap (λ x. x == 1) lowest.1;
      between = λ n low high. elim (cases_lt n (64 * k + s)) [
        | inl less ↦ none n low less
        | inr past ↦
            let i = n - (64 * k + s) in
            let is : n ≡ 64 * k + s + i = omega arith in
            let below : i < zeros = omega arith in
            ap (bit_in words) is ∙ rest_bit i (omega (arith, rest_within, below)) ∙ ap (λ x. x == 1) (lowest.2 i below)
      ];
    }

-- no bit past the words is set
pub past_words : (words : List ℕ) (n : ℕ) → length words ≤ n / 64 → bit_in words n ≡ false
past_words words n past = ap (λ w. bit_at w (n % 64) == 1) (get_or_past words (n / 64) 0 past) ∙ ap (λ x. x == 1) (bit_at-zero (n % 64))

pub none_kept : {words : List ℕ} {len : ℕ} {bits : List Bool} → Keep words len bits → (from : ℕ) → AreNoneSet words from → AreNoneFrom bits from
none_kept {words} {len} {bits} k from none n low = elim (cases_lt n (length bits)) [
  | inl inside ↦ sym (place_bit k n inside) ∙ none n low
  | inr past ↦ get_or_past bits n false past
]

pub next_kept : {words : List ℕ} {len : ℕ} {bits : List Bool} → Keep words len bits → (from place : ℕ) → IsNextSet words from place → IsNext bits from place
next_kept {words} {len} {bits} k from place is =
    let inside : place < length bits = elim (cases_lt place (length bits)) [
      | inl less ↦ less
      | inr past ↦ absurd (false≢true (sym (k.are.clear place (omega (arith, past, keep_len k))) ∙ is.there))
    ] in
    record {
      after = is.after;
      within = inside;
      there = sym (place_bit k place inside) ∙ is.there;
      between = λ n low high. sym (place_bit k n (omega (arith, high, inside))) ∙ is.between n low high;
    }

pub next_of_words : {words : List ℕ} {len : ℕ} {bits : List Bool} → Keep words len bits → (from : ℕ) (r : Option ℕ)
    → MatchOption r (AreNoneSet words from) (IsNextSet words from) → MatchOption r (AreNoneFrom bits from) (IsNext bits from)
next_of_words k from (Some place) h = next_kept k from place h
next_of_words k from None h = none_kept k from h
