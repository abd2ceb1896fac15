-- Counts of offsets that pass a test one after another.
use Rattle.std.proofs.Common.{◌≡◌, ◌≢◌, ℕ, zero, suc, ◌+◌, ◌-◌, ◌<◌, ◌≤◌, ◌==◌, Bool, true, false, inl, inr, List, length, replicate, get_or, slice_set, refl, sym, ap, ◌∙◌, subst, true≢false, arith}
use Rattle.std.specs.Prelude.{if◌then◌else◌}
use Rattle.std.proofs.lemmas.Bool.{cases_Bool, eqb-true, eq-eqb}
use Rattle.std.proofs.lemmas.List.{get_or-set_same, get_or-set_other, get_or_read, length-replicate}
use Rattle.dcc_globals.specs.Marks.{Counts}
use Rattle.dcc_globals.specs.Pieces.{Data}
use Rattle.dcc_globals.specs.Gaps.{count_from, count_before, is_text, text_before, text_from, goes_on, extent}

pub count_before-le : (test : ℕ → Bool) (at : ℕ) → count_before test at ≤ at
count_before-le test zero = omega arith
count_before-le test (suc at) = by (test at) (count_before-le test at)
  where
    by : (b : Bool) → count_before test at ≤ at → (if b then suc (count_before test at) else 0) ≤ suc at
    by true h = omega (arith, h)
    by false h = omega arith

pub count_from-le : (test : ℕ → Bool) (most at : ℕ) → count_from test most at ≤ most
count_from-le test zero at = omega arith
count_from-le test (suc most) at = by (test at) (count_from-le test most (at + 1))
  where
    by : (b : Bool) → count_from test most (at + 1) ≤ most → (if b then suc (count_from test most (at + 1)) else 0) ≤ suc most
    by true h = omega (arith, h)
    by false h = omega arith

-- one offset more before the border
pub before-more : (test : ℕ → Bool) (at : ℕ) → test at ≡ true → count_before test (at + 1) ≡ count_before test at + 1
before-more test at passes =
    ap (count_before test) (let e : at + 1 ≡ suc at = omega arith in e)
    ∙ ap (λ b. if b then suc (count_before test at) else 0) passes ∙ omega arith

pub before-none : (test : ℕ → Bool) (at : ℕ) → test at ≡ false → count_before test (at + 1) ≡ 0
before-none test at fails =
    ap (count_before test) (let e : at + 1 ≡ suc at = omega arith in e)
    ∙ ap (λ b. if b then suc (count_before test at) else 0) fails

-- one offset more behind the border, of those below an end
pub from-more : (test : ℕ → Bool) (end at : ℕ) → at < end → test at ≡ true
    → count_from test (end - at) at ≡ count_from test (end - (at + 1)) (at + 1) + 1
from-more test end at inside passes =
    ap (λ n. count_from test n at) (let e : end - at ≡ suc (end - (at + 1)) = omega (arith, inside) in e)
    ∙ ap (λ b. if b then suc (count_from test (end - (at + 1)) (at + 1)) else 0) passes ∙ omega arith

pub from-none : (test : ℕ → Bool) (end at : ℕ) → test at ≡ false → count_from test (end - at) at ≡ 0
from-none test end at fails = by (end - at)
  where
    by : (n : ℕ) → count_from test n at ≡ 0
    by zero = refl
    by (suc n) = ap (λ b. if b then suc (count_from test n (at + 1)) else 0) fails

pub from-end : (test : ℕ → Bool) (end : ℕ) → count_from test (end - end) end ≡ 0
from-end test end = ap (λ n. count_from test n end) (let e : end - end ≡ 0 = omega arith in e)

-- The text at borders.

pub text-before-first : (d : Data) → text_before d 0 ≡ 0
unfolding text_before
text-before-first d = refl

pub text-before-more : (d : Data) (at : ℕ) → is_text d at ≡ true → text_before d (at + 1) ≡ text_before d at + 1
unfolding text_before
text-before-more d at passes = before-more (is_text d) at passes

pub text-before-none : (d : Data) (at : ℕ) → is_text d at ≡ false → text_before d (at + 1) ≡ 0
unfolding text_before
text-before-none d at fails = before-none (is_text d) at fails

pub text-before-le : (d : Data) (at : ℕ) → text_before d at ≤ at
unfolding text_before
text-before-le d at = count_before-le (is_text d) at

pub text-from-last : (d : Data) → text_from d 65536 ≡ 0
unfolding text_from
text-from-last d = from-end (is_text d) 65536

pub text-from-more : (d : Data) (at : ℕ) → at < 65536 → is_text d at ≡ true → text_from d at ≡ text_from d (at + 1) + 1
unfolding text_from
text-from-more d at inside passes = from-more (is_text d) 65536 at inside passes

pub text-from-none : (d : Data) (at : ℕ) → is_text d at ≡ false → text_from d at ≡ 0
unfolding text_from
text-from-none d at fails = from-none (is_text d) 65536 at fails

pub text-from-le : (d : Data) (at : ℕ) → at ≤ 65536 → at + text_from d at ≤ 65536
unfolding text_from
text-from-le d at inside = let h = count_from-le (is_text d) (65536 - at) at in omega (arith, h, inside)

pub text-before-next : (d : Data) (at : ℕ) → text_before d (at + 1) ≡ (if is_text d at then text_before d at + 1 else 0)
text-before-next d at = by (is_text d at) refl
  where
    by : (t : Bool) → is_text d at ≡ t → text_before d (at + 1) ≡ (if t then text_before d at + 1 else 0)
    by true is = text-before-more d at is
    by false is = text-before-none d at is

pub text-from-next : (d : Data) (at : ℕ) → at < 65536 → text_from d at ≡ (if is_text d at then text_from d (at + 1) + 1 else 0)
text-from-next d at inside = by (is_text d at) refl
  where
    by : (t : Bool) → is_text d at ≡ t → text_from d at ≡ (if t then text_from d (at + 1) + 1 else 0)
    by true is = text-from-more d at inside is
    by false is = text-from-none d at is

-- Tables that are filled from below, or from above.

put : (number : ℕ → ℕ) (table : List ℕ) (at count k : ℕ) → at < length table → count ≡ number at → (at ≢ k → get_or table k 0 ≡ number k)
    → get_or (slice_set table at count) k 0 ≡ number k
put number table at count k there is others = elim (cases_Bool (at == k)) [
  | inl same ↦
      let e : at ≡ k = eqb-true at k same in
      ap (λ x. get_or (slice_set table at count) x 0) (sym e) ∙ get_or-set_same table at count 0 there ∙ is ∙ ap number e
  | inr other ↦
      let apart : at ≢ k = λ e. true≢false (sym (eq-eqb at k e) ∙ other) in
      get_or-set_other table at k count 0 (λ e. apart (sym e)) ∙ others apart
]

pub filled-up : (number : ℕ → ℕ) (table : List ℕ) (at count : ℕ) → at < 65536 → length table ≡ 65537
    → ((k : ℕ) → k ≤ at → get_or table k 0 ≡ number k) → count ≡ number (at + 1)
    → (k : ℕ) → k ≤ at + 1 → get_or (slice_set table (at + 1) count) k 0 ≡ number k
filled-up number table at count inside whole each is k below =
    put number table (at + 1) count k (omega (arith, inside, whole)) is (λ apart. each k (omega (arith, apart, below)))

pub filled-down : (number : ℕ → ℕ) (table : List ℕ) (at next count : ℕ) → at + 1 ≡ next → at < 65536 → length table ≡ 65537
    → ((k : ℕ) → next ≤ k → k ≤ 65536 → get_or table k 0 ≡ number k) → count ≡ number at
    → (k : ℕ) → at ≤ k → k ≤ 65536 → get_or (slice_set table at count) k 0 ≡ number k
filled-down number table at next count more inside whole each is k above below =
    put number table at count k (omega (arith, inside, whole)) is (λ apart. each k (omega (arith, apart, above, more)) below)

-- A variable from its first byte on.

-- the variable that begins at an offset has all bytes before the next one
pub record Reaches (d : Data) (at next : ℕ) : Type 0 where
  pub after : at < next
  pub inside : next ≤ 65536
  pub counted : next + count_from (goes_on d) (65536 - next) next ≡ at + extent d at

pub reaches-first : (d : Data) (at : ℕ) → at < 65536 → Reaches d at (at + 1)
unfolding extent
reaches-first d at inside = record { after = omega arith; inside = omega (arith, inside); counted = omega arith }

pub reaches-next : (d : Data) (at next : ℕ) → Reaches d at next → next < 65536 → goes_on d next ≡ true → Reaches d at (next + 1)
reaches-next d at next is inside goes = record {
  after = let h = is.after in omega (arith, h);
  inside = omega (arith, inside);
  counted = let h = from-more (goes_on d) 65536 next inside goes in let g = is.counted in omega (arith, h, g);
}

pub reaches-stop : (d : Data) (at next : ℕ) → Reaches d at next → goes_on d next ≡ false → next - at ≡ extent d at
reaches-stop d at next is stops =
    let h = from-none (goes_on d) 65536 next stops in let g = is.counted in let a = is.after in omega (arith, h, g, a)

pub reaches-end : (d : Data) (at next : ℕ) → Reaches d at next → 65536 ≤ next → next - at ≡ extent d at
reaches-end d at next is past =
    let e : 65536 - next ≡ 0 = omega (arith, past) in
    let h : count_from (goes_on d) (65536 - next) next ≡ 0 = ap (λ n. count_from (goes_on d) n next) e in
    let g = is.counted in let a = is.after in omega (arith, h, g, a)

pub first-zero : (d : Data) (table : List ℕ) (k : ℕ) → k ≤ 0 → get_or table k 0 ≡ 0 → get_or table k 0 ≡ text_before d k
first-zero d table k below none =
    let e : k ≡ 0 = omega (arith, below) in
    none ∙ sym (ap (text_before d) e ∙ text-before-first d)

pub last-zero : (d : Data) (table : List ℕ) (k : ℕ) → 65536 ≤ k → k ≤ 65536 → get_or table k 0 ≡ 0 → get_or table k 0 ≡ text_from d k
last-zero d table k above below none =
    let e : k ≡ 65536 = omega (arith, above, below) in
    none ∙ sym (ap (text_from d) e ∙ text-from-last d)

-- no count is there at first
abbrev zeros : ℕ → List ℕ
zeros n = replicate n 0

pub zeros_length : (n : ℕ) → length (zeros n) ≡ n
zeros_length n = let none : ℕ = 0 in length-replicate n none

pub zeros_at : (n k : ℕ) → get_or (zeros n) k 0 ≡ 0
zeros_at zero k = refl
zeros_at (suc n) zero = refl
zeros_at (suc n) (suc k) = zeros_at n k

-- what a table of counts says of a border
pub told_count : (number : ℕ → ℕ) (table : List ℕ) (at r : ℕ) → Counts number table → at ≤ 65536 → r ≡ get_or table at r → r ≡ number at
told_count number table at r is inside read =
    get_or_read table at r (omega (arith, is.whole, inside)) read 0 ∙ is.each at inside
