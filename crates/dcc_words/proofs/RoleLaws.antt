-- What locations become where pairs become words: halves have 8 bits and words 16, each word has one half of either kind,
-- and no word is a location of the graph.
use Rattle.std.proofs.Common.{◌≡◌, ◌≢◌, ℕ, zero, suc, ◌+◌, ◌<◌, ◌≤◌, Bool, true, false, ◌&&◌, not, List, [], ◌∷◌, ◌++◌, length, map, get_or, slice_get, slice_set, drop, ◌-◌, inl, inr, Some, refl, sym, ap, ◌∙◌, subst, true≢false, nat_lt, arith, eqb-true}
use Rattle.std.specs.Prelude.{if◌then◌else◌, ◌==◌}
use Rattle.std.specs.List.{list_all}
use Rattle.std.proofs.lemmas.Bool.{and_parts, and_from}
use Rattle.std.proofs.lemmas.List.{get_or_append_left, get_or-append-add, length-append, get_or-set_same, get_or-set_other, length-set}
use Rattle.std.proofs.Math.Seq.{drop-cons}
use Rattle.std.proofs.lemmas.Option.{slice_get_within, get_or_from_slice_get}
use Rattle.dcc_ir.specs.declared.syntax.Loc.{Loc}
use Rattle.dcc_ir.specs.declared.syntax.Loc.TheVariants.{Half, Flag, Cell, Temp}
use Rattle.dcc_ir.specs.Location.{same_location, location_width}
use Rattle.dcc_ir.specs.WellFormed.{is_location}
use Rattle.dcc_ir.proofs.PathLaws.{decided}
use Rattle.dcc_ir.proofs.LocationLaws.{location_same}
use Rattle.dcc_ir.proofs.ReachedLaws.{contained, all_at}
use Rattle.dcc_words.specs.declared.roles.Pair.{Pair}
use Rattle.dcc_words.specs.declared.roles.Role.{Role}
use Rattle.dcc_words.specs.declared.roles.Role.TheVariants.{Alone, Low, High}
use Rattle.dcc_words.specs.Words.{role_among, role_in, are_halves}
use Rattle.dcc_words.specs.Roles.{role_at}

-- a half of the word of the pair at a place of the list
pub record IsOf (half : Pair → ℕ) (pairs : List Pair) (first : ℕ) (l : Loc) (word : ℕ) : Type 0 where
  pub place : ℕ
  pub pair : Pair
  pub placed : slice_get pairs place ≡ Some pair
  pub is : l ≡ Temp (half pair)
  pub word_is : word ≡ first + place

abbrev lower : Pair → ℕ
lower pair = pair.low

abbrev upper : Pair → ℕ
upper pair = pair.high

later : (half : Pair → ℕ) (pair : Pair) (pairs : List Pair) (first : ℕ) (l : Loc) (word : ℕ) → IsOf half pairs (suc first) l word
    → IsOf half (pair ∷ pairs) first l word
later half pair pairs first l word h = record {
  place = suc h.place;
  pair = h.pair;
  placed = h.placed;
  is = h.is;
  word_is = omega (arith, h.word_is);
}

low-of : (pairs : List Pair) (first : ℕ) (l : Loc) (word : ℕ) → role_among pairs first l ≡ Low word → IsOf lower pairs first l word
low-of [] first l word is = absurd (cc)
low-of (pair ∷ pairs) first l word is =
    go (same_location l (Temp pair.low)) refl (same_location l (Temp pair.high)) (low-of pairs (suc first) l word) is
  where
    go : (b : Bool) → same_location l (Temp pair.low) ≡ b → (c : Bool)
        → (role_among pairs (suc first) l ≡ Low word → IsOf lower pairs (suc first) l word)
        → (if b then Low first else if c then High first else role_among pairs (suc first) l) ≡ Low word → IsOf lower (pair ∷ pairs) first l word
    go true here c more is = record {
      place = 0;
      pair = pair;
      placed = refl;
      is = location_same l (Temp pair.low) here;
      word_is = let same : first ≡ word = cc in omega (arith, same);
    }
    go false here true more is = absurd (cc)
    go false here false more is = later lower pair pairs first l word (more is)

high-of : (pairs : List Pair) (first : ℕ) (l : Loc) (word : ℕ) → role_among pairs first l ≡ High word → IsOf upper pairs first l word
high-of [] first l word is = absurd (cc)
high-of (pair ∷ pairs) first l word is =
    go (same_location l (Temp pair.low)) (same_location l (Temp pair.high)) refl (high-of pairs (suc first) l word) is
  where
    go : (b c : Bool) → same_location l (Temp pair.high) ≡ c
        → (role_among pairs (suc first) l ≡ High word → IsOf upper pairs (suc first) l word)
        → (if b then Low first else if c then High first else role_among pairs (suc first) l) ≡ High word → IsOf upper (pair ∷ pairs) first l word
    go true c here more is = absurd (cc)
    go false true here more is = record {
      place = 0;
      pair = pair;
      placed = refl;
      is = location_same l (Temp pair.high) here;
      word_is = let same : first ≡ word = cc in omega (arith, same);
    }
    go false false here more is = later upper pair pairs first l word (more is)

-- two that are halves of one word, of one kind, are one
one-of : (half : Pair → ℕ) (pairs : List Pair) (first : ℕ) (l m : Loc) (word : ℕ) → IsOf half pairs first l word → IsOf half pairs first m word → l ≡ m
one-of half pairs first l m word h k =
    let place : k.place ≡ h.place = omega (arith, h.word_is, k.word_is) in
    let found : Some h.pair ≡ Some k.pair = sym h.placed ∙ sym (ap (slice_get pairs) place) ∙ k.placed in
    let same : h.pair ≡ k.pair = cc in
    h.is ∙ ap (λ p. Temp (half p)) same ∙ sym k.is

-- The widths after the words have come.

abbrev pub sixteens : List Pair → List ℕ
sixteens pairs = map (λ pair. 16) pairs

abbrev pub widened : List ℕ → List Pair → List ℕ
widened bits pairs = bits ++ sixteens pairs

-- as many as pairs
pub sixteens-count : (pairs : List Pair) → length (sixteens pairs) ≡ length pairs
sixteens-count [] = refl
sixteens-count (pair ∷ pairs) = ap suc (sixteens-count pairs)

sixteen : (pairs : List Pair) (k : ℕ) → k < length pairs → get_or (sixteens pairs) k 0 ≡ 16
sixteen [] k less = absurd (omega (arith, less))
sixteen (pair ∷ pairs) zero less = refl
sixteen (pair ∷ pairs) (suc k) less = sixteen pairs k (omega (arith, less))

below-true : (m n : ℕ) → m < n → nat_lt m n ≡ true
below-true m n less = grind arith

true-below : (m n : ℕ) → nat_lt m n ≡ true → m < n
true-below m n is = grind arith

module _ (bits : List ℕ) (pairs : List Pair) where
  pub location-stays : (l : Loc) → is_location bits l ≡ true → is_location (widened bits pairs) l ≡ true
  location-stays (Temp n) is =
      below-true n (length (widened bits pairs)) (omega (arith, true-below n (length bits) is, length-append bits (sixteens pairs)))
  location-stays (Half r h) is = refl
  location-stays (Flag f) is = refl
  location-stays (Cell n h) is = refl

  pub width-stays : (l : Loc) → is_location bits l ≡ true → location_width (widened bits pairs) l ≡ location_width bits l
  width-stays (Temp n) is = get_or_append_left bits (sixteens pairs) 0 n (true-below n (length bits) is)
  width-stays (Half r h) is = refl
  width-stays (Flag f) is = refl
  width-stays (Cell n h) is = refl

-- The roles of a graph's locations.

-- a word after the temporaries
pub record IsWord (bits bits' : List ℕ) (word : ℕ) : Type 0 where
  pub placed : is_location bits' (Temp word) ≡ true
  pub wide : location_width bits' (Temp word) ≡ 16
  pub fresh : (l : Loc) → is_location bits l ≡ true → l ≡ Temp word → ⊥

-- What is told of roles: halves of one kind of one word are one location, which has 8 bits; words follow the temporaries.
pub record AreRoles (bits bits' : List ℕ) (role : Loc → Role) : Type 0 where
  pub low_one : (l m : Loc) (word : ℕ) → role l ≡ Low word → role m ≡ Low word → l ≡ m
  pub high_one : (l m : Loc) (word : ℕ) → role l ≡ High word → role m ≡ High word → l ≡ m
  pub low_wide : (l : Loc) (word : ℕ) → role l ≡ Low word → location_width bits l ≡ 8
  pub high_wide : (l : Loc) (word : ℕ) → role l ≡ High word → location_width bits l ≡ 8
  pub low_word : (l : Loc) (word : ℕ) → role l ≡ Low word → IsWord bits bits' word
  pub high_word : (l : Loc) (word : ℕ) → role l ≡ High word → IsWord bits bits' word
  pub stays : (l : Loc) → is_location bits l ≡ true → is_location bits' l ≡ true
  pub width_stays : (l : Loc) → is_location bits l ≡ true → location_width bits' l ≡ location_width bits l

module _ (bits : List ℕ) (pairs : List Pair) (halves : list_all (are_halves bits) pairs ≡ true) where
  pair-halves : (place : ℕ) (pair : Pair) → slice_get pairs place ≡ Some pair → are_halves bits pair ≡ true
  pair-halves place pair placed = all_at (are_halves bits) pairs pair halves (contained pairs place pair placed)

  word-of : (word place : ℕ) → word ≡ length bits + place → place < length pairs → IsWord bits (widened bits pairs) word
  word-of word place is less = record {
    placed = below-true word (length (widened bits pairs))
        (omega (arith, is, less, length-append bits (sixteens pairs), sixteens-count pairs));
    wide = ap (λ n. get_or (widened bits pairs) n 0) is ∙ get_or-append-add bits (sixteens pairs) place 0 ∙ sixteen pairs place less;
    fresh = λ l here same. let below = subst (λ x. is_location bits x ≡ true) same here in absurd (omega (arith, true-below word (length bits) below, is));
  }

  pub roles-are : AreRoles bits (widened bits pairs) (role_in pairs bits)
  roles-are = record {
    low_one = λ l m word h k. one-of lower pairs (length bits) l m word (low-of pairs (length bits) l word h) (low-of pairs (length bits) m word k);
    high_one = λ l m word h k. one-of upper pairs (length bits) l m word (high-of pairs (length bits) l word h) (high-of pairs (length bits) m word k);
    low_wide = λ l word h.
        let o = low-of pairs (length bits) l word h in
        let p = and_parts (location_width bits (Temp o.pair.low) == 8) (location_width bits (Temp o.pair.high) == 8) (pair-halves o.place o.pair o.placed) in
        ap (location_width bits) o.is ∙ eqb-true (location_width bits (Temp o.pair.low)) 8 p.0;
    high_wide = λ l word h.
        let o = high-of pairs (length bits) l word h in
        let p = and_parts (location_width bits (Temp o.pair.low) == 8) (location_width bits (Temp o.pair.high) == 8) (pair-halves o.place o.pair o.placed) in
        ap (location_width bits) o.is ∙ eqb-true (location_width bits (Temp o.pair.high)) 8 p.1;
    low_word = λ l word h.
        let o = low-of pairs (length bits) l word h in
        word-of word o.place o.word_is (slice_get_within pairs o.place o.pair o.placed);
    high_word = λ l word h.
        let o = high-of pairs (length bits) l word h in
        word-of word o.place o.word_is (slice_get_within pairs o.place o.pair o.placed);
    stays = location-stays bits pairs;
    width_stays = width-stays bits pairs;
  }

-- within the list the default plays no part
get_or-default : {A : Type 0} (xs : List A) (k : ℕ) (d e : A) → k < length xs → get_or xs k e ≡ get_or xs k d
get_or-default [] k d e less = absurd (omega (arith, less))
get_or-default (x ∷ xs) zero d e less = refl
get_or-default (x ∷ xs) (suc k) d e less = get_or-default xs k d e (omega (arith, less))

-- How code keeps roles: those of one pair more.

set-here : (of : List Role) (n m : ℕ) (role : Role) → n < length of → get_or (slice_set of n role) m Alone ≡ (if m == n then role else get_or of m Alone)
set-here of n m role inside = elim (decided (m == n)) [
  | inl t ↦
      let same = eqb-true m n t in
      ap (λ k. get_or (slice_set of n role) k Alone) same ∙ get_or-set_same of n role Alone inside ∙ sym (ap (λ b. if b then role else get_or of m Alone) t)
  | inr f ↦
      get_or-set_other of n m role Alone (λ same. true≢false (sym (ap (λ k. k == n) same ∙ itself n) ∙ f)) ∙ sym (ap (λ b. if b then role else get_or of m Alone) f)
]
  where
    itself : (n : ℕ) → (n == n) ≡ true
    itself n = grind arith

pub role-step : (of : List Role) (pair : Pair) (pairs : List Pair) (word : ℕ) → pair.low < length of → pair.high < length of
    → ((l : Loc) → role_at of l ≡ role_among pairs (suc word) l) → (l : Loc)
    → role_at (slice_set (slice_set of pair.high (High word)) pair.low (Low word)) l ≡ role_among (pair ∷ pairs) word l
role-step of pair pairs word low high are (Temp n) =
    set-here (slice_set of pair.high (High word)) pair.low n (Low word) (omega (arith, low, length-set of pair.high (High word)))
    ∙ ap (λ r. if n == pair.low then Low word else r)
    (set-here of pair.high n (High word) high ∙ ap (λ r. if n == pair.high then High word else r) (are (Temp n)))
role-step of pair pairs word low high are (Half r h) = are (Half r h)
role-step of pair pairs word low high are (Flag f) = are (Flag f)
role-step of pair pairs word low high are (Cell n h) = are (Cell n h)

-- where code begins there are none
pub no-roles : (count : ℕ) (of : List Role) → ((n : ℕ) → get_or of n Alone ≡ Alone) → (word : ℕ) (l : Loc) → role_at of l ≡ role_among [] word l
no-roles count of none word (Temp n) = none n
no-roles count of none word (Half r h) = refl
no-roles count of none word (Flag f) = refl
no-roles count of none word (Cell n h) = refl

-- a half is among the temporaries
pub half-below : (bits : List ℕ) (n : ℕ) → location_width bits (Temp n) ≡ 8 → n < length bits
half-below bits n wide = elim (decided (nat_lt n (length bits))) [
  | inl t ↦ true-below n (length bits) t
  | inr f ↦ absurd (no (get_or_past bits n f))
]
  where
    past : (bits : List ℕ) (n : ℕ) → length bits ≤ n → get_or bits n 0 ≡ 0
    past [] n over = refl
    past (w ∷ bits) zero over = absurd (omega (arith, over))
    past (w ∷ bits) (suc n) over = past bits n (omega (arith, over))

    get_or_past : (bits : List ℕ) (n : ℕ) → nat_lt n (length bits) ≡ false → get_or bits n 0 ≡ 0
    get_or_past bits n f = past bits n (grind arith)

    no : get_or bits n 0 ≡ 0 → ⊥
    no zero_is = absurd (omega (arith, zero_is, wide))

-- the roles of one pair more, from the last of the list on
pub roles-step : (bits : List ℕ) (pairs : List Pair) (of : List Role) (k : ℕ) (d : Pair) (word : ℕ) → list_all (are_halves bits) pairs ≡ true → length of ≡ length bits
    → 0 < k → k ≤ length pairs → word ≡ length bits + (k - 1) → ((l : Loc) → role_at of l ≡ role_among (drop k pairs) (length bits + k) l) → (l : Loc)
    → role_at (slice_set (slice_set of (get_or pairs (k - 1) d).high (High word)) (get_or pairs (k - 1) d).low (Low word)) l
    ≡ role_among (drop (k - 1) pairs) (length bits + (k - 1)) l
roles-step bits pairs of k d word halves count some inside is are l =
    role-step of pair (drop k pairs) word (omega (arith, count, half-below bits pair.low (eqb-true (location_width bits (Temp pair.low)) 8 p.0)))
    (omega (arith, count, half-below bits pair.high (eqb-true (location_width bits (Temp pair.high)) 8 p.1)))
    (λ x. are x ∙ ap (λ n. role_among (drop k pairs) n x) next) l
    ∙ ap (λ n. role_among (pair ∷ drop k pairs) n l) is ∙ ap (λ ps. role_among ps (length bits + (k - 1)) l) (sym front)
  where
    pair : Pair
    pair = get_or pairs (k - 1) d

    less : k - 1 < length pairs
    less = omega (arith, some, inside)

    p : ((location_width bits (Temp pair.low) == 8) ≡ true) × ((location_width bits (Temp pair.high) == 8) ≡ true)
    p =
        and_parts (location_width bits (Temp pair.low) == 8) (location_width bits (Temp pair.high) == 8)
        (all_at (are_halves bits) pairs pair halves (k - 1, less, get_or-default pairs (k - 1) d pair less))

    next : length bits + k ≡ suc word
    next = omega (arith, is, some)

    one : suc (k - 1) ≡ k
    one = omega (arith, some)

    front : drop (k - 1) pairs ≡ pair ∷ drop k pairs
    front = drop-cons pairs (k - 1) d less ∙ ap (λ n. pair ∷ drop n pairs) one
