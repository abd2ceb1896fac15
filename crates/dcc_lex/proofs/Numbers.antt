-- The values of digits, and that digits without a needless zero are what is written of their value.
use Rattle.std.proofs.Common.{◌≡◌, ℕ, ◌+◌, ◌-◌, ◌*◌, ◌≤◌, ◌<◌, Bool, true, false, ◌&&◌, ◌==◌, cond, List, [], ◌∷◌, length, get_or, drop, Option, Some, None, refl, sym, ap, subst, ◌∙◌, arith, ⊎_elim}
use Rattle.std.specs.Prelude.{nat_le, not, option_map}
use Rattle.std.specs.List.{list_all, take_while}
use Rattle.std.specs.Fmt.{decimal}
use Rattle.std.proofs.lemmas.Bool.{and_parts, and_from, and_right, or_left, or_right, or_cases, cases_eq, leb-true, le-leb, lt-leb, eqb-true, eqb-false, eq-eqb, ne_eqb, not_from_false, not-true, false_from_ne_true, cond-true, cond-false}
use Rattle.std.proofs.lemmas.Str.Parse.{IsDigitsTest, FoldsDigits, IsNumeralModel, numerals_by_fold, digits_value_short}
use Rattle.std.proofs.lemmas.Fmt.{decimal-digits_value, decimal_nonempty, decimal_digit, first_decimal, length-decimal-le}
use Rattle.dcc_c.specs.Token.{Token, Decimal, is_digit, hex_value, hex_from, same_bytes}
use Rattle.dcc_c.proofs.SmallTokens.{hex_fits}
use Rattle.dcc_c.specs.Pieces.{decimal_from, is_hex_digit, decimal_of, suffix_of, after_while}
use Rattle.std.proofs.lemmas.List.{at_drop_more}
use Rattle.dcc_c.proofs.NameLaws.{same_bytes-equal}
use Rattle.dcc_lex.proofs.Runs.{all_at}
use Rattle.dcc_lex.specs.NumberViews.{is_short, decimal_value}

abbrev AreDigits : List ℕ → Type 0
AreDigits digits = list_all is_digit digits ≡ true

pub is_digit_range : (b : ℕ) → is_digit b ≡ true → (48 ≤ b) × (b ≤ 57)
is_digit_range b is =
    let (low, high) = and_parts (nat_le 48 b) (nat_le b 57) is in (leb-true 48 b low, leb-true b 57 high)

digits_test : IsDigitsTest AreDigits
digits_test = record {
  empty = refl;
  parts = λ c cs are. let (first, others) = and_parts (is_digit c) (list_all is_digit cs) are in (is_digit_range c first, others);
  more = λ c cs is are. and_from (is_digit c) (list_all is_digit cs) (and_from (nat_le 48 c) (nat_le c 57) (le-leb 48 c is.0) (le-leb c 57 is.1)) are;
}

decimal_folds : FoldsDigits decimal_from
decimal_folds = record {
  empty = λ n. refl;
  more = λ n c cs is. let same : 10 * n + (c - 48) ≡ n * 10 + (c - 48) = omega arith in ap (λ m. decimal_from m cs) same;
}

model : IsNumeralModel AreDigits (decimal_from 0)
model = numerals_by_fold AreDigits digits_test decimal_from decimal_folds

-- ten digits are below 10 ^ 10
pub decimal_small : (digits : List ℕ) → list_all is_digit digits ≡ true → length digits ≤ 10 → decimal_from 0 digits < 10000000000
decimal_small digits are few = digits_value_short model digits 10 are few

-- digits after a value make it no less
pub decimal_from-le : (n : ℕ) (digits : List ℕ) → n ≤ decimal_from n digits
decimal_from-le n [] = omega arith
decimal_from-le n (b ∷ bytes) = let more = decimal_from-le (10 * n + (b - 48)) bytes in omega arith

same_bytes-self : (bytes : List ℕ) → same_bytes bytes bytes ≡ true
same_bytes-self [] = refl
same_bytes-self (b ∷ bytes) = and_from (b == b) (same_bytes bytes bytes) (eq-eqb b b refl) (same_bytes-self bytes)

short_parts : (digits : List ℕ) → is_short digits ≡ true → (0 < length digits) × (length digits ≤ 10) × (get_or digits 0 0 ≡ 48 → length digits ≡ 1)
short_parts [] short = absurd cc
short_parts (b ∷ bytes) short =
    ⊎_elim (λ lone. let one = eqb-true (length (b ∷ bytes)) 1 lone in (omega arith, omega arith, λ zero. one))
    (λ many. let (few, first) = and_parts (nat_le (length (b ∷ bytes)) 10) (not (b == 48)) many in
    let none : b ≡ 48 → ⊥ = eqb-false b 48 (not-true (b == 48) first) in
    (omega arith, leb-true (length (b ∷ bytes)) 10 few, λ zero. absurd (none zero)))
    (or_cases (length (b ∷ bytes) == 1) (nat_le (length (b ∷ bytes)) 10 && not (b == 48)) short)

-- what is written of a number has no needless zero
decimal_short : (n : ℕ) (digits : List ℕ) → n ≤ 4294967295 → digits ≡ decimal n → is_short digits ≡ true
decimal_short n [] small is =
    let some = decimal_nonempty n (omega arith) in absurd (omega (arith, ap length is))
decimal_short n (b ∷ bytes) small is =
    let few = length-decimal-le 10 n (omega arith) (omega arith) (omega arith) in
    ⊎_elim (λ none.
    let lone : length (b ∷ bytes) ≡ 1 = ap length is ∙ ap (λ m. length (decimal m)) none ∙ ap length (decimal_digit 0 (omega arith)) in
    or_left (length (b ∷ bytes) == 1) (nat_le (length (b ∷ bytes)) 10 && not (b == 48)) (eq-eqb (length (b ∷ bytes)) 1 lone))
    (λ some.
    let first = first_decimal n (omega arith) (omega arith) in
    let other : b ≡ 48 → ⊥ = λ zero. omega (arith, ap (λ (ds : List ℕ). get_or ds 0 0) is) in
    let few' : length (b ∷ bytes) ≤ 10 = omega (arith, ap length is) in
    or_right (length (b ∷ bytes) == 1) (nat_le (length (b ∷ bytes)) 10 && not (b == 48))
    (and_from (nat_le (length (b ∷ bytes)) 10) (not (b == 48)) (le-leb (length (b ∷ bytes)) 10 few') (not_from_false (b == 48) (ne_eqb b 48 other))))
    (cases_eq n 0)

short_same : (digits : List ℕ) → AreDigits digits → is_short digits ≡ true → same_bytes digits (decimal (decimal_from 0 digits)) ≡ true
short_same digits are short =
    let (some, few, lead) = short_parts digits short in
    let small = decimal_small digits are few in
    let is : decimal (decimal_from 0 digits) ≡ digits = decimal-digits_value model digits are some lead (omega arith) in
    subst (λ ds. same_bytes digits ds ≡ true) (sym is) (same_bytes-self digits)

-- digits that are too many or have a needless zero are no number
pub decimal_value_none : (digits : List ℕ) → is_short digits ≡ false → decimal_value digits ≡ None
unfolding decimal_value
decimal_value_none digits long =
    let n = decimal_from 0 digits in
    cond-false (same_bytes digits (decimal n) && nat_le n 4294967295) (Some n) None (false_from_ne_true (same_bytes digits (decimal n) && nat_le n 4294967295) (λ are.
    let (same, small) = and_parts (same_bytes digits (decimal n)) (nat_le n 4294967295) are in
    let short = decimal_short n digits (leb-true n 4294967295 small) (same_bytes-equal digits (decimal n) same) in
    cc))

-- the value of digits that are not too great
pub decimal_value_some : (digits : List ℕ) → list_all is_digit digits ≡ true → is_short digits ≡ true → decimal_from 0 digits ≤ 4294967295 → decimal_value digits ≡ Some (decimal_from 0 digits)
unfolding decimal_value
decimal_value_some digits are short small =
    let n = decimal_from 0 digits in
    cond-true (same_bytes digits (decimal n) && nat_le n 4294967295) (Some n) None
    (and_from (same_bytes digits (decimal n)) (nat_le n 4294967295) (short_same digits are short) (le-leb n 4294967295 small))

-- the value of digits that are too great
pub decimal_value_great : (digits : List ℕ) → 4294967295 < decimal_from 0 digits → decimal_value digits ≡ None
unfolding decimal_value
decimal_value_great digits great =
    let n = decimal_from 0 digits in
    cond-false (same_bytes digits (decimal n) && nat_le n 4294967295) (Some n) None (and_right (same_bytes digits (decimal n)) (nat_le n 4294967295) (lt-leb n 4294967295 great))

-- Hexadecimal.

pub hex_from-le : (n : ℕ) (digits : List ℕ) → n ≤ hex_from n digits
hex_from-le n [] = omega arith
hex_from-le n (b ∷ bytes) = let more = hex_from-le (16 * n + hex_value b) bytes in omega arith

-- eight digits have 32 bits
pub hex_small : (digits : List ℕ) → list_all is_hex_digit digits ≡ true → length digits ≤ 8 → hex_from 0 digits ≤ 4294967295
hex_small digits are few = hex_fits digits 8 0 are few

-- A digit more.

abbrev pub decimal_more : List ℕ → ℕ → ℕ → ℕ
decimal_more digits at n = 10 * n + (get_or digits at 0 - 48)

pub decimal_turn : (digits : List ℕ) (at n : ℕ) → decimal_from n (drop at digits) ≡ decimal_from 0 digits → at < length digits →
    decimal_from (decimal_more digits at n) (drop (at + 1) digits) ≡ decimal_from 0 digits
decimal_turn digits at n so inside = sym (at_drop_more (decimal_from n) digits at 0 inside) ∙ so

pub decimal_room : (digits : List ℕ) (at n : ℕ) → decimal_from n (drop at digits) ≡ decimal_from 0 digits → list_all is_digit digits ≡ true →
    length digits ≤ 10 → at < length digits → (decimal_more digits at n < 10000000000) × (48 ≤ get_or digits at 0)
decimal_room digits at n so are few inside =
    let small = decimal_small digits are few in
    let less = decimal_from-le (decimal_more digits at n) (drop (at + 1) digits) in
    (omega (arith, decimal_turn digits at n so inside), (is_digit_range (get_or digits at 0) (all_at is_digit digits at are inside)).0)

abbrev pub hex_more : List ℕ → ℕ → ℕ → ℕ
hex_more digits at n = 16 * n + hex_value (get_or digits at 0)

pub hex_turn : (digits : List ℕ) (at n : ℕ) → hex_from n (drop at digits) ≡ hex_from 0 digits → at < length digits → hex_from (hex_more digits at n) (drop (at + 1) digits) ≡ hex_from 0 digits
hex_turn digits at n so inside = sym (at_drop_more (hex_from n) digits at 0 inside) ∙ so

pub hex_room : (digits : List ℕ) (at n : ℕ) → hex_from n (drop at digits) ≡ hex_from 0 digits → list_all is_hex_digit digits ≡ true →
    length digits ≤ 8 → at < length digits → hex_more digits at n ≤ 4294967295
hex_room digits at n so are few inside =
    let small = hex_small digits are few in
    let less = hex_from-le (hex_more digits at n) (drop (at + 1) digits) in
    omega (arith, hex_turn digits at n so inside)

-- Numbers with their suffixes.

cond_none : (b : Bool) (m : ℕ) (read : ℕ → Option Token) → cond b (Some m) None ≡ None → cond b (read m) None ≡ None
cond_none true m read is = absurd cc
cond_none false m read is = refl

cond_some : (b : Bool) (m n : ℕ) (read : ℕ → Option Token) → cond b (Some m) None ≡ Some n → cond b (read m) None ≡ read n
cond_some true m n read is = let same : m ≡ n = cc in ap read same
cond_some false m n read is = absurd cc

-- a number without a value is none
pub decimal_none : (bytes : List ℕ) → decimal_value (take_while is_digit bytes) ≡ None → decimal_of bytes ≡ None
unfolding decimal_value
decimal_none bytes is =
    let n = decimal_from 0 (take_while is_digit bytes) in
    cond_none (same_bytes (take_while is_digit bytes) (decimal n) && nat_le n 4294967295) n (λ m. option_map (λ suffix. Decimal m suffix) (suffix_of (after_while is_digit bytes))) is

-- a number with a value is that value with its suffix
pub decimal_some : (bytes : List ℕ) (n : ℕ) → decimal_value (take_while is_digit bytes) ≡ Some n → decimal_of bytes ≡ option_map (λ suffix. Decimal n suffix) (suffix_of (after_while is_digit bytes))
unfolding decimal_value
decimal_some bytes n is =
    let m = decimal_from 0 (take_while is_digit bytes) in
    cond_some (same_bytes (take_while is_digit bytes) (decimal m) && nat_le m 4294967295) m n (λ m. option_map (λ suffix. Decimal m suffix) (suffix_of (after_while is_digit bytes))) is
