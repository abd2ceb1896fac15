-- The spelling of a word or a number is a run of letters, digits and `_`, which is read as the token.
use Rattle.std.proofs.Common.{◌≡◌, ◌≤◌, ◌<◌, ◌+◌, ◌*◌, ◌-◌, ◌/◌, ◌%◌, ℕ, true, ◌==◌, ◌&&◌, if◌then◌else◌, List, [], ◌∷◌, ◌++◌, length, Option, Some, None, refl, sym, ap, ◌∙◌, subst, arith}
use Rattle.std.specs.Prelude.{codes, nat_le, option_map}
use Rattle.std.specs.List.{list_all}
use Rattle.std.specs.Fmt.{decimal}
use Rattle.std.proofs.lemmas.Bool.{and_parts, and_from, or_left, or_right, cond-true, cond-false, leb-true, le-leb, ne_eqb}
use Rattle.std.proofs.lemmas.List.Folds.{list_all-append}
use Rattle.std.proofs.lemmas.Fmt.{decimal_by_steps}
use Rattle.dcc_c.specs.Token.{Token, WordToken, Decimal, Hex, Mark, Pragma, Suffix, plain_number, unsigned_suffix, long_suffix, unsigned_long_suffix, suffix_bytes, is_between, is_digit, is_letter, is_word_byte, hex_from, same_bytes, are_hex_digits, Spells}
use Rattle.dcc_c.specs.Pieces.{after_while, after, suffix_of, decimal_from, decimal_of, is_hex_digit, hex_of}
use Rattle.dcc_c.proofs.reading.Passing.{if-cases}
use Rattle.dcc_c.proofs.WrittenRows.{begins_with_digit, decimal_begins}
use Rattle.dcc_lex.proofs.laws.Runs.{ends_run, run_is, after_run}
use Rattle.dcc_lex.proofs.laws.Words.{is_of_word, is_used, same_bytes-refl, IsFound, word_found}

suffix_found : (suffix : Suffix) → suffix_of (suffix_bytes suffix) ≡ Some suffix
suffix_found plain_number = refl
suffix_found unsigned_suffix = refl
suffix_found long_suffix = refl
suffix_found unsigned_long_suffix = refl

suffix_word : (suffix : Suffix) → list_all is_word_byte (suffix_bytes suffix) ≡ true
suffix_word plain_number = refl
suffix_word unsigned_suffix = refl
suffix_word long_suffix = refl
suffix_word unsigned_long_suffix = refl

-- Decimal digits.

decimal_from-append : (n : ℕ) (digits : List ℕ) (b : ℕ) → decimal_from n (digits ++ b ∷ []) ≡ 10 * decimal_from n digits + (b - 48)
decimal_from-append n [] b = refl
decimal_from-append n (d ∷ digits) b = decimal_from-append (10 * n + (d - 48)) digits b

-- the bytes are digits of the number
record AreDigits (n : ℕ) (digits : List ℕ) : Type 0 where
  all : list_all is_digit digits ≡ true
  value : decimal_from 0 digits ≡ n

digit_is : (n : ℕ) → n < 10 → is_digit (48 + n) ≡ true
digit_is n small = and_from _ _ (le-leb 48 (48 + n) (omega arith)) (le-leb (48 + n) 57 (omega arith))

decimal_digits : (n : ℕ) → n ≤ 4294967295 → AreDigits n (decimal n)
decimal_digits n small = decimal_by_steps AreDigits one more n (omega arith)
  where
    one : (n : ℕ) → n < 10 → AreDigits n ((48 + n) ∷ [])
    one n small = record { all = and_from _ _ (digit_is n small) refl; value = omega arith }

    more : (n : ℕ) (ds : List ℕ) → 10 ≤ n → AreDigits (n / 10) ds → AreDigits n (ds ++ (48 + n % 10) ∷ [])
    more n ds large are =
        let last : n % 10 < 10 = omega arith in
        record {
          all = list_all-append is_digit ds ((48 + n % 10) ∷ []) ∙ and_from _ _ are.all (and_from _ _ (digit_is (n % 10) last) refl);
          value = decimal_from-append 0 ds (48 + n % 10) ∙ omega (arith, are.value);
        }

digits_word : (digits : List ℕ) → list_all is_digit digits ≡ true → list_all is_word_byte digits ≡ true
digits_word [] all = refl
digits_word (b ∷ digits) all =
    let (here, others) = and_parts (is_digit b) (list_all is_digit digits) all in
    and_from _ _ (or_right (is_letter b) (is_digit b) here) (digits_word digits others)

suffix_no_digit : (suffix : Suffix) → ends_run is_digit (suffix_bytes suffix) ≡ true
suffix_no_digit plain_number = refl
suffix_no_digit unsigned_suffix = refl
suffix_no_digit long_suffix = refl
suffix_no_digit unsigned_long_suffix = refl

-- decimal digits do not go on with `x`
no_x : (digits : List ℕ) (suffix : Suffix) → list_all is_digit digits ≡ true → after (codes "x") (digits ++ suffix_bytes suffix) ≡ None
no_x [] plain_number all = refl
no_x [] unsigned_suffix all = refl
no_x [] long_suffix all = refl
no_x [] unsigned_long_suffix all = refl
no_x (d ∷ digits) suffix all =
    let (here, others) = and_parts (is_digit d) (list_all is_digit digits) all in
    let small : d ≤ 57 = leb-true d 57 (and_parts (nat_le 48 d) (nat_le d 57) here).1 in
    cond-false _ _ _ (ne_eqb 120 d (λ same. omega (arith, same)))

not_hex : (digits : List ℕ) (suffix : Suffix) → list_all is_digit digits ≡ true → begins_with_digit digits ≡ true → after (codes "0x") (digits ++ suffix_bytes suffix) ≡ None
not_hex [] suffix all begins = absurd cc
not_hex (d ∷ digits) suffix all begins =
    if-cases (λ o. o ≡ None) (48 == d) (λ _. no_x digits suffix (and_parts (is_digit d) (list_all is_digit digits) all).1) (λ _. refl)

-- the number of these digits, with what stands after them
abbrev decimal_with : List ℕ → ℕ → List ℕ → Option Token
decimal_with digits n rest =
    if same_bytes digits (decimal n) && nat_le n 4294967295 then option_map (λ suffix. Decimal n suffix) (suffix_of rest) else None

decimal_read : (digits : List ℕ) (n : ℕ) (suffix : Suffix) → digits ≡ decimal n → n ≤ 4294967295 → AreDigits n digits →
    decimal_of (digits ++ suffix_bytes suffix) ≡ Some (Decimal n suffix)
decimal_read digits n suffix numeral small are =
    let rest = suffix_bytes suffix in
    let ended = suffix_no_digit suffix in
    ap (λ x. decimal_with x (decimal_from 0 x) (after_while is_digit (digits ++ rest))) (run_is is_digit digits rest are.all ended)
    ∙ ap (λ x. decimal_with digits (decimal_from 0 digits) x) (after_run is_digit digits rest are.all ended)
    ∙ ap (λ m. decimal_with digits m rest) are.value
    ∙ cond-true _ _ _ (and_from _ _ (subst (λ x. same_bytes digits x ≡ true) numeral (same_bytes-refl digits)) (le-leb n 4294967295 small))
    ∙ ap (option_map (λ other. Decimal n other)) (suffix_found suffix)

decimal_found : (digits : List ℕ) (n : ℕ) (suffix : Suffix) → digits ≡ decimal n → n ≤ 4294967295 → AreDigits n digits →
    begins_with_digit digits ≡ true → IsFound (digits ++ suffix_bytes suffix) (Decimal n suffix)
decimal_found [] n suffix numeral small are begins = absurd cc
decimal_found (d ∷ digits) n suffix numeral small are begins =
    let run = d ∷ (digits ++ suffix_bytes suffix) in
    record {
      all = list_all-append is_word_byte (d ∷ digits) (suffix_bytes suffix) ∙ and_from _ _ (digits_word (d ∷ digits) are.all) (suffix_word suffix);
      found = cond-true _ _ _ begins
          ∙ ap (λ o. elim o as (λ _. Option Token) [ Some others ↦ hex_of others | None ↦ decimal_of run ])
          (not_hex (d ∷ digits) suffix are.all begins) ∙ decimal_read (d ∷ digits) n suffix numeral small are;
    }

-- Hexadecimal digits.

suffix_no_hex : (suffix : Suffix) → ends_run is_hex_digit (suffix_bytes suffix) ≡ true
suffix_no_hex plain_number = refl
suffix_no_hex unsigned_suffix = refl
suffix_no_hex long_suffix = refl
suffix_no_hex unsigned_long_suffix = refl

letter_within : (low high least most b : ℕ) → least ≤ low → high ≤ most → is_between low high b ≡ true → is_between least most b ≡ true
letter_within low high least most b above below is =
    let parts = and_parts (nat_le low b) (nat_le b high) is in
    let down = leb-true low b parts.0 in
    let up = leb-true b high parts.1 in
    and_from _ _ (le-leb least b (omega arith)) (le-leb b most (omega arith))

hex_word : (b : ℕ) → is_hex_digit b ≡ true → is_word_byte b ≡ true
hex_word b =
    if-cases (λ n. nat_le n 15 ≡ true → is_word_byte b ≡ true) (is_digit b) (λ digit _. or_right (is_letter b) (is_digit b) digit)
    (λ _. if-cases (λ n. nat_le n 15 ≡ true → is_word_byte b ≡ true) (is_between 65 70 b)
    (λ upper _. or_left _ _ (or_left _ _ (letter_within 65 70 65 90 b (omega arith) (omega arith) upper)))
    (λ _. if-cases (λ n. nat_le n 15 ≡ true → is_word_byte b ≡ true) (is_between 97 102 b)
    (λ lower _. or_left _ _ (or_right _ _ (or_left _ _ (letter_within 97 102 97 122 b (omega arith) (omega arith) lower))))
    (λ _ is. absurd cc)))

hex_digits_word : (digits : List ℕ) → list_all is_hex_digit digits ≡ true → list_all is_word_byte digits ≡ true
hex_digits_word [] all = refl
hex_digits_word (b ∷ digits) all =
    let (here, others) = and_parts (is_hex_digit b) (list_all is_hex_digit digits) all in
    and_from _ _ (hex_word b here) (hex_digits_word digits others)

abbrev hex_with : List ℕ → List ℕ → Option Token
hex_with digits rest =
    if nat_le 1 (length digits) && nat_le (length digits) 8
    then option_map (λ suffix. Hex (hex_from 0 digits) suffix) (suffix_of rest) else None

hex_read : (digits : List ℕ) (suffix : Suffix) → are_hex_digits digits ≡ true → hex_of (digits ++ suffix_bytes suffix) ≡ Some (Hex (hex_from 0 digits) suffix)
hex_read digits suffix good =
    let (all, sized) = and_parts (list_all is_hex_digit digits) (nat_le 1 (length digits) && nat_le (length digits) 8) good in
    let rest = suffix_bytes suffix in
    let ended = suffix_no_hex suffix in
    ap (λ x. hex_with x (after_while is_hex_digit (digits ++ rest))) (run_is is_hex_digit digits rest all ended)
    ∙ ap (λ x. hex_with digits x) (after_run is_hex_digit digits rest all ended)
    ∙ cond-true _ _ _ sized
    ∙ ap (option_map (λ other. Hex (hex_from 0 digits) other)) (suffix_found suffix)

hex_found : (digits : List ℕ) (suffix : Suffix) → are_hex_digits digits ≡ true → IsFound (codes "0x" ++ (digits ++ suffix_bytes suffix)) (Hex (hex_from 0 digits) suffix)
hex_found digits suffix good =
    let all = (and_parts (list_all is_hex_digit digits) (nat_le 1 (length digits) && nat_le (length digits) 8) good).0 in
    record {
      all = list_all-append is_word_byte digits (suffix_bytes suffix) ∙ and_from _ _ (hex_digits_word digits all) (suffix_word suffix);
      found = hex_read digits suffix good;
    }

-- the spelling of a word or a number is read as it
pub spelling_found : (bytes : List ℕ) (token : Token) → Spells bytes token → is_of_word token ≡ true → is_used token ≡ true → IsFound bytes token
spelling_found bytes (WordToken word) (same, is) kind used = subst (λ x. IsFound x (WordToken word)) (sym same) (word_found word is used)
spelling_found bytes (Decimal n suffix) (same, small) kind used =
    subst (λ x. IsFound x (Decimal n suffix)) (sym same) (decimal_found (decimal n) n suffix refl small (decimal_digits n small) (decimal_begins n small))
spelling_found bytes (Hex n suffix) (digits, good, value, same) kind used =
    subst (λ m. IsFound bytes (Hex m suffix)) value (subst (λ x. IsFound x (Hex (hex_from 0 digits) suffix)) (sym same) (hex_found digits suffix good))
spelling_found bytes (Mark mark) spells kind used = absurd cc
spelling_found bytes (Pragma head) spells kind used = absurd cc
