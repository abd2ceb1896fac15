-- Marks that are taken away from a range of offsets.
use Rattle.std.proofs.Common.{◌≡◌, ℕ, zero, suc, ◌+◌, ◌-◌, ◌<◌, ◌≤◌, ◌⊎◌, inl, inr, Bool, true, false, List, [], ◌∷◌, ◌++◌, length, get_or, set, take, replicate, refl, sym, ap, ◌∙◌, subst, arith}
use Rattle.std.specs.Prelude.{min, max}
use Rattle.std.specs.List.{range_with_len}
use Rattle.std.proofs.lemmas.Bool.{cases_lt}
use Rattle.std.proofs.lemmas.List.{map-id, set-get_or, length-set, get_or-set_other}
use Rattle.std.proofs.lemmas.List.FromFn.{map-range_with_len_more}
use Rattle.dcc_prog.specs.Clean.{is_marked, with_marks}
use Rattle.dcc_watch.specs.Marks.{HasNoneBelow}
use Rattle.dcc_watch.proofs.Bytes.{marks-append}

range-more : (a n : ℕ) → range_with_len a (n + 1) ≡ range_with_len a n ++ (a + n) ∷ []
range-more a n =
    sym (map-id (range_with_len a (n + 1))) ∙ map-range_with_len_more (λ (k : ℕ). k) a n (a + n) refl
    ∙ ap (λ l. l ++ (a + n) ∷ []) (map-id (range_with_len a n))

pub set-beyond : {A : Type 0} (l : List A) (i : ℕ) (a : A) → length l ≤ i → set l i a ≡ l
set-beyond [] i a le = refl
set-beyond (x ∷ xs) zero a le = absurd (omega (arith, le))
set-beyond (x ∷ xs) (suc i) a le = ap (λ l. x ∷ l) (set-beyond xs i a (omega (arith, le)))

-- the offsets from the first up to the second, without it, are not marked in the second list
pub cleared : ℕ → ℕ → List Bool → List Bool
cleared from to marks = with_marks false (range_with_len from (to - from)) marks

pub cleared-is : (from to : ℕ) (marks : List Bool) → cleared from to marks ≡ with_marks false (range_with_len from (to - from)) marks
unfolding cleared
cleared-is from to marks = refl

pub cleared-none : (from to : ℕ) (marks : List Bool) → to ≤ from → marks ≡ cleared from to marks
unfolding cleared
cleared-none from to marks le =
    let nothing : to - from ≡ 0 = omega arith in
    ap (λ n. with_marks false (range_with_len from n) marks) (sym nothing)

pub cleared-more : (from at : ℕ) (before marks : List Bool) → from ≤ at → before ≡ cleared from at marks
    → set before at false ≡ cleared from (at + 1) marks
unfolding cleared
cleared-more from at before marks le is =
    let next : (at - from) + 1 ≡ at + 1 - from = omega arith in
    let here : from + (at - from) ≡ at = omega arith in
    let range = range_with_len from (at - from) in
    ap (λ l. set l at false) is
    ∙ sym (marks-append false range (at ∷ []) marks)
    ∙ ap (λ n. with_marks false (range ++ n ∷ []) marks) (sym here)
    ∙ ap (λ l. with_marks false l marks) (sym (range-more from (at - from)))
    ∙ ap (λ n. with_marks false (range_with_len from n) marks) next

-- Places that are not marked anyway.

abbrev unmarked : List Bool → ℕ → Type 0
unmarked marks n = get_or marks n false ≡ false

is-marked : (marks : List Bool) (n : ℕ) → is_marked marks n ≡ get_or marks n false
is-marked [] n = refl
is-marked (mark ∷ marks) zero = refl
is-marked (mark ∷ marks) (suc n) = is-marked marks n

set-unmarked : (marks : List Bool) (n : ℕ) → unmarked marks n → set marks n false ≡ marks
set-unmarked marks n is = ap (λ mark. set marks n mark) (sym is) ∙ set-get_or marks n false

-- what is taken away at a place leaves the others
stays-unmarked : (marks : List Bool) (n i : ℕ) → unmarked marks n → unmarked (set marks i false) n
stays-unmarked [] n i is = refl
stays-unmarked (mark ∷ marks) zero zero is = refl
stays-unmarked (mark ∷ marks) zero (suc i) is = is
stays-unmarked (mark ∷ marks) (suc n) zero is = is
stays-unmarked (mark ∷ marks) (suc n) (suc i) is = stays-unmarked marks n i is

set-is-unmarked : (marks : List Bool) (n : ℕ) → unmarked (set marks n false) n
set-is-unmarked [] n = refl
set-is-unmarked (mark ∷ marks) zero = refl
set-is-unmarked (mark ∷ marks) (suc n) = set-is-unmarked marks n

-- one place more
grown : (from k : ℕ) (marks : List Bool) → cleared from (from + suc k) marks ≡ set (cleared from (from + k) marks) (from + k) false
grown from k marks =
    let next : from + k + 1 ≡ from + suc k = omega arith in
    sym (cleared-more from (from + k) (cleared from (from + k) marks) marks (omega arith) refl
    ∙ ap (λ n. cleared from n marks) next)

-- places that are not marked are left
idle : (k from : ℕ) (marks : List Bool) → ((n : ℕ) → from ≤ n → n < from + k → unmarked marks n)
    → cleared from (from + k) marks ≡ marks
idle zero from marks none = sym (cleared-none from (from + 0) marks (omega arith))
idle (suc k) from marks none =
    grown from k marks
    ∙ ap (λ l. set l (from + k) false) (idle k from marks (λ n low high. none n low (omega (arith, high))))
    ∙ set-unmarked marks (from + k) (none (from + k) (omega arith) (omega arith))

-- the first places, and then the others
in-two : (k from middle : ℕ) (marks : List Bool) → from ≤ middle
    → cleared from (middle + k) marks ≡ cleared middle (middle + k) (cleared from middle marks)
in-two zero from middle marks le =
    let end : middle + 0 ≡ middle = omega arith in
    ap (λ n. cleared from n marks) end ∙ cleared-none middle (middle + 0) (cleared from middle marks) (omega arith)
in-two (suc k) from middle marks le =
    let next : middle + k + 1 ≡ middle + suc k = omega arith in
    sym (cleared-more from (middle + k) (cleared from (middle + k) marks) marks (omega (arith, le)) refl
    ∙ ap (λ n. cleared from n marks) next)
    ∙ ap (λ l. set l (middle + k) false) (in-two k from middle marks le)
    ∙ sym (grown middle k (cleared from middle marks))

length-grown : (k from : ℕ) (marks : List Bool) → length (cleared from (from + k) marks) ≡ length marks
length-grown zero from marks = ap length (sym (cleared-none from (from + 0) marks (omega arith)))
length-grown (suc k) from marks =
    ap length (grown from k marks)
    ∙ length-set (cleared from (from + k) marks) (from + k) false
    ∙ length-grown k from marks

-- past the end is no place
beyond : (k from : ℕ) (marks : List Bool) → length marks ≤ from → cleared from (from + k) marks ≡ marks
beyond zero from marks short = sym (cleared-none from (from + 0) marks (omega arith))
beyond (suc k) from marks short =
    grown from k marks
    ∙ ap (λ l. set l (from + k) false) (beyond k from marks short)
    ∙ set-beyond marks (from + k) false (omega (arith, short))

-- what is not marked stays so, and each place of the range is so
kept-unmarked : (k from : ℕ) (marks : List Bool) (n : ℕ) → unmarked marks n → unmarked (cleared from (from + k) marks) n
kept-unmarked zero from marks n is = ap (λ l. get_or l n false) (sym (cleared-none from (from + 0) marks (omega arith))) ∙ is
kept-unmarked (suc k) from marks n is =
    ap (λ l. get_or l n false) (grown from k marks)
    ∙ stays-unmarked (cleared from (from + k) marks) n (from + k) (kept-unmarked k from marks n is)

made-unmarked : (k from : ℕ) (marks : List Bool) (n : ℕ) → from ≤ n → n < from + k → unmarked (cleared from (from + k) marks) n
made-unmarked zero from marks n low high = absurd (omega (arith, low, high))
made-unmarked (suc k) from marks n low high =
    ap (λ l. get_or l n false) (grown from k marks) ∙ last (cases_lt n (from + k)) (made-unmarked k from marks n low)
  where
    last : (n < from + k) ⊎ (from + k ≤ n) → (n < from + k → unmarked (cleared from (from + k) marks) n)
        → unmarked (set (cleared from (from + k) marks) (from + k) false) n
    last (inl lt) before = stays-unmarked (cleared from (from + k) marks) n (from + k) (before lt)
    last (inr le) before =
        let here : from + k ≡ n = omega (arith, le, high) in
        subst (λ i. unmarked (set (cleared from (from + k) marks) (from + k) false) i) here
        (set-is-unmarked (cleared from (from + k) marks) (from + k))

-- Where nothing below an offset is marked, what is taken away from there on, and within the segment, is all.

module _ (from to lowest : ℕ) (marks : List Bool) (count : length marks ≡ 65536) (none : HasNoneBelow lowest marks) where
  below : (n : ℕ) → n < lowest → unmarked marks n
  below n lt = sym (is-marked marks n) ∙ none n lt

  -- the end, within the segment
  abbrev pub end : ℕ
  end = min to 65536

  within-segment : cleared from to marks ≡ cleared from end marks
  within-segment = by (cases_lt end from)
    where
      by : (end < from) ⊎ (from ≤ end) → cleared from to marks ≡ cleared from end marks
      by (inl lt) = outside (cases_lt to 65536)
        where
          outside : (to < 65536) ⊎ (65536 ≤ to) → cleared from to marks ≡ cleared from end marks
          outside (inl small) = let same : to ≡ end = omega arith in ap (λ n. cleared from n marks) same
          outside (inr large) = whole (cases_lt to from)
            where
              whole : (to < from) ⊎ (from ≤ to) → cleared from to marks ≡ cleared from end marks
              whole (inl less) = sym (cleared-none from to marks (omega (arith, less))) ∙ cleared-none from end marks (omega (arith, lt))
              whole (inr le) =
                  let there : from + (to - from) ≡ to = omega (arith, le) in
                  ap (λ n. cleared from n marks) (sym there)
                  ∙ beyond (to - from) from marks (omega (arith, lt, count, large))
                  ∙ cleared-none from end marks (omega (arith, lt))
      by (inr le) =
          let there : end + (to - end) ≡ to = omega arith in
          ap (λ n. cleared from n marks) (sym there)
          ∙ in-two (to - end) from end marks le
          ∙ last (cases_lt to 65536)
        where
          last : (to < 65536) ⊎ (65536 ≤ to) → cleared end (end + (to - end)) (cleared from end marks) ≡ cleared from end marks
          last (inl small) = sym (cleared-none end (end + (to - end)) (cleared from end marks) (omega (arith, small)))
          last (inr large) =
              let there : from + (end - from) ≡ end = omega (arith, le) in
              let long : length (cleared from end marks) ≡ length marks =
              ap (λ n. length (cleared from n marks)) (sym there) ∙ length-grown (end - from) from marks in
              beyond (to - end) end (cleared from end marks) (omega (arith, long, count, large))

  from-lowest : cleared from end marks ≡ cleared (max from lowest) end marks
  from-lowest = by (cases_lt (max from lowest) end)
    where
      idle-to : (middle : ℕ) → from ≤ middle → middle ≤ max from lowest → cleared from middle marks ≡ marks
      idle-to middle low high =
          let there : from + (middle - from) ≡ middle = omega (arith, low) in
          ap (λ n. cleared from n marks) (sym there)
          ∙ idle (middle - from) from marks (λ n least most. below n (omega (arith, low, high, least, most)))

      by : (max from lowest < end) ⊎ (end ≤ max from lowest) → cleared from end marks ≡ cleared (max from lowest) end marks
      by (inl lt) =
          let middle = max from lowest in
          let there : middle + (end - middle) ≡ end = omega (arith, lt) in
          ap (λ n. cleared from n marks) (sym there)
          ∙ in-two (end - middle) from middle marks (omega arith)
          ∙ ap (cleared middle (middle + (end - middle))) (idle-to middle (omega arith) (omega arith))
          ∙ ap (λ n. cleared middle n marks) there
      by (inr le) = none-at (cases_lt end from) ∙ cleared-none (max from lowest) end marks le
        where
          none-at : (end < from) ⊎ (from ≤ end) → cleared from end marks ≡ marks
          none-at (inl lt) = sym (cleared-none from end marks (omega (arith, lt)))
          none-at (inr from-le) = idle-to end from-le le

  -- the whole range is cleared
  pub all-cleared : cleared (max from lowest) end marks ≡ cleared from to marks
  all-cleared = sym (within-segment ∙ from-lowest)

-- what is taken away so, from the first place that may be marked, is all of the range
pub range-cleared : (from to lowest start end : ℕ) (marks now : List Bool) → length marks ≡ 65536 → HasNoneBelow lowest marks
    → start ≡ max from lowest → end ≡ min to 65536 → now ≡ with_marks false (range_with_len start (end - start)) marks
    → now ≡ cleared from to marks
range-cleared from to lowest start end marks now count none first last is =
    is
    ∙ ap (λ n. with_marks false (range_with_len n (end - n)) marks) first
    ∙ ap (λ n. with_marks false (range_with_len (max from lowest) (n - max from lowest)) marks) last
    ∙ sym (cleared-is (max from lowest) (min to 65536) marks)
    ∙ all-cleared from to lowest marks count none

-- none below is marked after that
pub kept-below : (lowest from to : ℕ) (marks : List Bool) → HasNoneBelow lowest marks → HasNoneBelow lowest (cleared from to marks)
kept-below lowest from to marks none n lt = by (cases_lt to from)
  where
    is : unmarked marks n
    is = sym (is-marked marks n) ∙ none n lt

    by : (to < from) ⊎ (from ≤ to) → is_marked (cleared from to marks) n ≡ false
    by (inl less) = is-marked (cleared from to marks) n ∙ ap (λ l. get_or l n false) (sym (cleared-none from to marks (omega (arith, less)))) ∙ is
    by (inr le) =
        let there : from + (to - from) ≡ to = omega (arith, le) in
        is-marked (cleared from to marks) n ∙ ap (λ e. get_or (cleared from e marks) n false) (sym there)
        ∙ kept-unmarked (to - from) from marks n is

-- none is marked below the end of the cleared range, where it begins no higher than the lowest mark
pub raised-below : (lowest from to : ℕ) (marks now : List Bool) → now ≡ cleared from to marks → HasNoneBelow lowest now → from ≤ lowest
    → HasNoneBelow (max lowest to) now
raised-below lowest from to marks now is none le n lt = by (cases_lt n lowest)
  where
    by : (n < lowest) ⊎ (lowest ≤ n) → is_marked now n ≡ false
    by (inl less) = none n less
    by (inr above) =
        let there : from + (to - from) ≡ to = omega (arith, lt, above, le) in
        is-marked now n ∙ ap (λ l. get_or l n false) is ∙ ap (λ e. get_or (cleared from e marks) n false) (sym there)
        ∙ made-unmarked (to - from) from marks n (omega (arith, above, le)) (omega (arith, there, lt, above))

-- none is marked below an offset that is marked, nor below those before
pub lowered-below : (lowest place : ℕ) (marks : List Bool) → HasNoneBelow lowest marks → HasNoneBelow (min lowest place) (set marks place true)
lowered-below lowest place marks none n lt =
    is-marked (set marks place true) n
    ∙ get_or-set_other marks place n true false (λ same. absurd (omega (arith, lt, same)))
    ∙ sym (is-marked marks n)
    ∙ none n (omega (arith, lt))

nothing : {A : Type 0} (n : ℕ) → take n (let none : List A = [] in none) ≡ []
nothing zero = refl
nothing (suc n) = refl

-- a list that was filled from an empty one
pub filled : {A : Type 0} (n m : ℕ) (x : A) (before after : List A) → before ≡ [] → m ≡ 0 → after ≡ take n before ++ replicate (n - m) x
    → after ≡ replicate n x
filled n m x before after empty none is =
    let whole : n - m ≡ n = omega arith in
    is ∙ ap (λ l. take n l ++ replicate (n - m) x) empty ∙ ap (λ l. l ++ replicate (n - m) x) (nothing n)
    ∙ ap (λ k. replicate k x) whole
