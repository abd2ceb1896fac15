-- Words are ASCII, and a run that begins with no digit is no number.
use Rattle.std.proofs.Common.{◌≡◌, ℕ, zero, suc, ◌<◌, ◌≤◌, true, false, ◌&&◌, ◌||◌, ◌==◌, cond, List, [], ◌∷◌, length, get_or, Option, Some, None, refl, sym, subst, arith, ⊎_elim, ◌∙◌}
use Rattle.std.specs.Prelude.{nat_le, not}
use Rattle.std.specs.List.{list_all}
use Rattle.std.specs.Str.{IsUtf8, IsAscii}
use Rattle.std.proofs.lemmas.Bool.{and_parts, and_from, or_cases, leb-true, le-leb, eqb-true, cond-false, cond_both}
use Rattle.std.proofs.lemmas.Str.{IsUtf8-from_ascii}
use Rattle.dcc_c.specs.Token.{Token, WordToken, is_digit, is_letter, is_between, is_word_byte, is_word}
use Rattle.dcc_c.specs.Grammar.{is_among}
use Rattle.dcc_c.specs.Pieces.{is_plain, token_of_word, number_of, unused_keywords}

between_small : (low high b : ℕ) → is_between low high b ≡ true → high < 128 → b < 128
between_small low high b is small =
    let (above, below) = and_parts (nat_le low b) (nat_le b high) is in
    let most = leb-true b high below in omega arith

letter_small : (b : ℕ) → is_letter b ≡ true → b < 128
letter_small b is =
    ⊎_elim (λ capital. between_small 65 90 b capital (omega arith))
    (λ other. ⊎_elim (λ small. between_small 97 122 b small (omega arith)) (λ line. let same = eqb-true b 95 line in omega arith) (or_cases (is_between 97 122 b) (b == 95) other))
    (or_cases (is_between 65 90 b) (is_between 97 122 b || (b == 95)) is)

word_byte_small : (b : ℕ) → is_word_byte b ≡ true → b < 128
word_byte_small b is =
    ⊎_elim (letter_small b) (λ digit. between_small 48 57 b digit (omega arith)) (or_cases (is_letter b) (is_digit b) is)

run_ascii : (bytes : List ℕ) → list_all is_word_byte bytes ≡ true → IsAscii bytes
run_ascii [] are i = omega arith
run_ascii (b ∷ bytes) are zero = word_byte_small b (and_parts (is_word_byte b) (list_all is_word_byte bytes) are).0
run_ascii (b ∷ bytes) are (suc i) = run_ascii bytes (and_parts (is_word_byte b) (list_all is_word_byte bytes) are).1 i

word_ascii : (bytes : List ℕ) → is_word bytes ≡ true → IsAscii bytes
word_ascii [] is i = absurd cc
word_ascii (b ∷ bytes) is zero = letter_small b (and_parts (is_letter b) _ is).0
word_ascii (b ∷ bytes) is (suc i) =
    let (first, others) = and_parts (is_letter b) (list_all is_word_byte bytes && nat_le (length bytes) 30) is in
    run_ascii bytes (and_parts (list_all is_word_byte bytes) (nat_le (length bytes) 30) others).0 i

-- a word is text
pub word_utf8 : (bytes : List ℕ) → is_word bytes ≡ true → IsUtf8 bytes
word_utf8 bytes is = IsUtf8-from_ascii bytes (word_ascii bytes is)

-- what begins with no digit is no number
pub not_plain : (run : List ℕ) → is_digit (get_or run 0 0) ≡ false → is_plain (token_of_word run) ≡ false
not_plain [] other = refl
not_plain (b ∷ bytes) other =
    let word = is_word (b ∷ bytes) && not (is_among unused_keywords (b ∷ bytes)) in
    let rest : Option Token = cond word (Some (WordToken (b ∷ bytes))) None in
    subst (λ token. is_plain token ≡ false) (sym (cond-false (is_digit b) (number_of (b ∷ bytes)) rest other))
    (cond_both word (Some (WordToken (b ∷ bytes))) None (λ token. is_plain token ≡ false) (λ is. refl) (λ no. refl))

-- a run that begins with no digit is a word where it has at least one byte and at most 31
pub run_is_word : (run : List ℕ) → list_all is_word_byte run ≡ true → is_digit (get_or run 0 0) ≡ false →
    (length run ≡ 0 → ⊥) → length run ≤ 31 → is_word run ≡ true
run_is_word [] are other some few = absurd (some refl)
run_is_word (b ∷ bytes) are other some few =
    let (first, rest) = and_parts (is_word_byte b) (list_all is_word_byte bytes) are in
    let letter : is_letter b ≡ true =
    ⊎_elim (λ letter. letter) (λ digit. let both : true ≡ false = sym digit ∙ other in absurd cc) (or_cases (is_letter b) (is_digit b) first) in
    let short : length bytes ≤ 30 = omega arith in
    and_from (is_letter b) (list_all is_word_byte bytes && nat_le (length bytes) 30) letter
    (and_from (list_all is_word_byte bytes) (nat_le (length bytes) 30) rest (le-leb (length bytes) 30 short))

too_long : (run : List ℕ) → is_word run ≡ true → 31 < length run → ⊥
too_long [] is long = omega arith
too_long (b ∷ bytes) is long =
    let (first, others) = and_parts (is_letter b) (list_all is_word_byte bytes && nat_le (length bytes) 30) is in
    let few = leb-true (length bytes) 30 (and_parts (list_all is_word_byte bytes) (nat_le (length bytes) 30) others).1 in
    omega arith
