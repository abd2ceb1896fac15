-- A run of letters, digits and `_` is a token exactly where it spells one.
use Rattle.std.proofs.Common.{◌≡◌, ◌≤◌, ℕ, Bool, true, false, not, ◌==◌, ◌&&◌, ◌||◌, List, [], ◌∷◌, ◌++◌, length, Option, Some, None, refl, sym, ap, ◌∙◌, subst, inl, inr, arith}
use Rattle.std.specs.Prelude.{codes, nat_le, option_map}
use Rattle.std.specs.List.{take_while, list_all}
use Rattle.std.specs.Fmt.{decimal}
use Rattle.std.proofs.lemmas.Bool.{and_parts, and_from, or_left, or_cases, and_right, cond-true, cond-false, eq-eqb, eqb-true, leb-true, lt-leb}
use Rattle.dcc_c.specs.Token.{Token, WordToken, Decimal, Hex, Mark, Pragma, Suffix, plain_number, unsigned_suffix, long_suffix, unsigned_long_suffix, suffix_bytes, is_between, is_digit, is_letter, is_word, is_word_byte, hex_from, same_bytes, Spells, ends_before, version_line}
use Rattle.dcc_c.specs.Grammar.{is_among}
use Rattle.dcc_c.specs.Pieces.{after_while, after, unused_keywords, suffix_of, decimal_from, decimal_of, is_hex_digit, hex_of, number_of, token_of_word}
use Rattle.dcc_c.proofs.NameLaws.{same_bytes-equal}
use Rattle.dcc_c.proofs.reading.Passing.{if-cases, option-cases}
use Rattle.dcc_lex.proofs.laws.Runs.{ends_run, run_of, after-is}

-- a word or a number
abbrev pub is_of_word : Token → Bool
is_of_word (WordToken word) = true
is_of_word (Decimal n suffix) = true
is_of_word (Hex n suffix) = true
is_of_word (Mark mark) = false
is_of_word (Pragma head) = false

-- the token may stand after the version line
abbrev pub is_used : Token → Bool
is_used (WordToken word) = not (is_among unused_keywords word)
is_used (Pragma version_line) = false
is_used token = true

pub word_ends_before : (token : Token) (rest : List ℕ) → is_of_word token ≡ true → ends_before token rest ≡ ends_run is_word_byte rest
word_ends_before (WordToken word) [] is = refl
word_ends_before (WordToken word) (b ∷ rest) is = refl
word_ends_before (Decimal n suffix) [] is = refl
word_ends_before (Decimal n suffix) (b ∷ rest) is = refl
word_ends_before (Hex n suffix) [] is = refl
word_ends_before (Hex n suffix) (b ∷ rest) is = refl
word_ends_before (Mark mark) rest is = absurd cc
word_ends_before (Pragma head) rest is = absurd cc

pub same_bytes-refl : (bytes : List ℕ) → same_bytes bytes bytes ≡ true
same_bytes-refl [] = refl
same_bytes-refl (b ∷ bytes) = and_from _ _ (eq-eqb b b refl) (same_bytes-refl bytes)

-- From a run to its token.

-- the run spells the token
pub record IsWord (run : List ℕ) (token : Token) : Type 0 where
  pub spells : Spells run token
  pub kind : is_of_word token ≡ true
  pub used : is_used token ≡ true

-- what an option gives is made of what it holds
mapped : {A : Type 0} (make : A → Token) (o : Option A) (token : Token) → option_map make o ≡ Some token → (a : A) × (o ≡ Some a) × (make a ≡ token)
mapped make (Some a) token is = (a, refl, cc)
mapped make None token is = absurd cc

suffix_is : (bytes : List ℕ) (suffix : Suffix) → suffix_of bytes ≡ Some suffix → bytes ≡ suffix_bytes suffix
suffix_is bytes suffix =
    if-cases (λ o. o ≡ Some suffix → bytes ≡ suffix_bytes suffix) (same_bytes bytes [])
    (λ same is. same_bytes-equal bytes [] same ∙ ap suffix_bytes (is_suffix plain_number is))
    (λ _. if-cases (λ o. o ≡ Some suffix → bytes ≡ suffix_bytes suffix) (same_bytes bytes (codes "U"))
    (λ same is. same_bytes-equal bytes (codes "U") same ∙ ap suffix_bytes (is_suffix unsigned_suffix is))
    (λ _. if-cases (λ o. o ≡ Some suffix → bytes ≡ suffix_bytes suffix) (same_bytes bytes (codes "L"))
    (λ same is. same_bytes-equal bytes (codes "L") same ∙ ap suffix_bytes (is_suffix long_suffix is))
    (λ _. if-cases (λ o. o ≡ Some suffix → bytes ≡ suffix_bytes suffix) (same_bytes bytes (codes "UL"))
    (λ same is. same_bytes-equal bytes (codes "UL") same ∙ ap suffix_bytes (is_suffix unsigned_long_suffix is))
    (λ _ is. absurd cc))))
  where
    is_suffix : (other : Suffix) → Some other ≡ Some suffix → other ≡ suffix
    is_suffix other is = cc

module _ (run digits rest : List ℕ) (token : Token) (same : run ≡ digits ++ rest) where
  decimal_made : (n : ℕ) → (same_bytes digits (decimal n) && nat_le n 4294967295) ≡ true →
      (suffix : Suffix) × (suffix_of rest ≡ Some suffix) × (Decimal n suffix ≡ token) → IsWord run token
  decimal_made n good (suffix, is, made) =
      let (numeral, small) = and_parts (same_bytes digits (decimal n)) (nat_le n 4294967295) good in
      let spelled : run ≡ decimal n ++ suffix_bytes suffix =
      same ∙ ap (λ x. x ++ rest) (same_bytes-equal digits (decimal n) numeral) ∙ ap (λ x. decimal n ++ x) (suffix_is rest suffix is)
      in
      subst (IsWord run) made (record { spells = (spelled, leb-true n 4294967295 small); kind = refl; used = refl })

  hex_made : list_all is_hex_digit digits ≡ true → (nat_le 1 (length digits) && nat_le (length digits) 8) ≡ true →
      (suffix : Suffix) × (suffix_of rest ≡ Some suffix) × (Hex (hex_from 0 digits) suffix ≡ token) → IsWord (codes "0x" ++ run) token
  hex_made all sized (suffix, is, made) =
      let spelled : run ≡ digits ++ suffix_bytes suffix = same ∙ ap (λ x. digits ++ x) (suffix_is rest suffix is) in
      subst (IsWord (codes "0x" ++ run)) made (record {
        spells = (digits, and_from _ _ all sized, refl, ap (λ x. codes "0x" ++ x) spelled);
        kind = refl;
        used = refl;
      })

decimal_spelled : (run : List ℕ) (token : Token) → decimal_of run ≡ Some token → IsWord run token
decimal_spelled run token =
    let digits = take_while is_digit run in
    let rest = after_while is_digit run in
    let n = decimal_from 0 digits in
    if-cases (λ o. o ≡ Some token → IsWord run token) (same_bytes digits (decimal n) && nat_le n 4294967295)
    (λ good is. decimal_made run digits rest token (run_of is_digit run).same n good (mapped (λ suffix. Decimal n suffix) (suffix_of rest) token is))
    (λ _ is. absurd cc)

hex_spelled : (bytes : List ℕ) (token : Token) → hex_of bytes ≡ Some token → IsWord (codes "0x" ++ bytes) token
hex_spelled bytes token =
    let digits = take_while is_hex_digit bytes in
    let rest = after_while is_hex_digit bytes in
    if-cases (λ o. o ≡ Some token → IsWord (codes "0x" ++ bytes) token) (nat_le 1 (length digits) && nat_le (length digits) 8)
    (λ sized is. hex_made bytes digits rest token (run_of is_hex_digit bytes).same (run_of is_hex_digit bytes).all sized (mapped (λ suffix. Hex (hex_from 0 digits) suffix) (suffix_of rest) token is))
    (λ _ is. absurd cc)

number_spelled : (run : List ℕ) (token : Token) → number_of run ≡ Some token → IsWord run token
number_spelled run token =
    option-cases (after (codes "0x") run) (λ o. elim o [ Some digits ↦ hex_of digits | None ↦ decimal_of run ] ≡ Some token → IsWord run token)
    (λ digits begins is. subst (λ x. IsWord x token) (sym (after-is (codes "0x") run digits begins)) (hex_spelled digits token is))
    (λ _ is. decimal_spelled run token is)

-- the run is a token that it spells
pub word_spelled : (run : List ℕ) (token : Token) → token_of_word run ≡ Some token → IsWord run token
word_spelled [] token = λ is. absurd cc
word_spelled (b ∷ bytes) token =
    if-cases (λ o. o ≡ Some token → IsWord (b ∷ bytes) token) (is_digit b)
    (λ _ is. number_spelled (b ∷ bytes) token is)
    (λ _. if-cases (λ o. o ≡ Some token → IsWord (b ∷ bytes) token) (is_word (b ∷ bytes) && not (is_among unused_keywords (b ∷ bytes)))
    (λ good is. word_made good is) (λ _ is. absurd cc))
  where
    word_made : (is_word (b ∷ bytes) && not (is_among unused_keywords (b ∷ bytes))) ≡ true → Some (WordToken (b ∷ bytes)) ≡ Some token → IsWord (b ∷ bytes) token
    word_made good is =
        let (word, used) = and_parts (is_word (b ∷ bytes)) (not (is_among unused_keywords (b ∷ bytes))) good in
        let made : WordToken (b ∷ bytes) ≡ token = cc in
        subst (IsWord (b ∷ bytes)) made (record { spells = (refl, word); kind = refl; used = used })

-- From a token to its spelling.

-- a spelling of a word or a number is a run, which is the token
pub record IsFound (bytes : List ℕ) (token : Token) : Type 0 where
  pub all : list_all is_word_byte bytes ≡ true
  pub found : token_of_word bytes ≡ Some token

letter_no_digit : (b : ℕ) → is_letter b ≡ true → is_digit b ≡ false
letter_no_digit b letter =
    elim (or_cases (is_between 65 90 b) (is_between 97 122 b || (b == 95)) letter) [
      | inl upper ↦ above (leb-true 65 b (and_parts (nat_le 65 b) (nat_le b 90) upper).0)
      | inr later ↦ elim (or_cases (is_between 97 122 b) (b == 95) later) [
        | inl lower ↦ above (omega (arith, leb-true 97 b (and_parts (nat_le 97 b) (nat_le b 122) lower).0))
        | inr line ↦ above (omega (arith, eqb-true b 95 line))
      ]
    ]
  where
    above : 65 ≤ b → is_digit b ≡ false
    above high = and_right _ _ (lt-leb b 57 (omega arith))

pub word_found : (word : List ℕ) → is_word word ≡ true → not (is_among unused_keywords word) ≡ true → IsFound word (WordToken word)
word_found [] is used = absurd cc
word_found (b ∷ bytes) is used =
    let (letter, others) = and_parts (is_letter b) (list_all is_word_byte bytes && nat_le (length bytes) 30) is in
    let (all, short) = and_parts (list_all is_word_byte bytes) (nat_le (length bytes) 30) others in
    record {
      all = and_from _ _ (or_left (is_letter b) (is_digit b) letter) all;
      found = cond-false _ _ _ (letter_no_digit b letter) ∙ cond-true _ _ _ (and_from _ _ is used);
    }
