-- The longest mark that bytes begin with.
use Rattle.std.proofs.Common.{◌≡◌, ◌≤◌, ℕ, Bool, true, false, not, ◌==◌, ◌&&◌, List, [], ◌∷◌, ◌++◌, length, drop, refl, arith}
use Rattle.std.proofs.lemmas.Bool.{cond-true, cond-false, not_from_false, both_ways, false_from_ne_true}
use Rattle.dcc_c.specs.Token.{Mark, marks, is_mark, is_word_byte, ends_before}
use Rattle.dcc_c.specs.Lexing.{is_blank}
use Rattle.dcc_c.specs.Pieces.{first_mark}
use Rattle.dcc_c.proofs.reading.Passing.{if-cases}
use Rattle.dcc_lex.proofs.laws.Used.{among_all}
use Rattle.dcc_lex.proofs.laws.Runs.{no_more_of}

-- a byte that begins neither a word nor a number, and is no blank and no line feed
abbrev pub begins_mark : ℕ → Bool
begins_mark b = not (is_word_byte b) && (not (is_blank b) && not (b == 10))

-- the bytes are one or two that such a byte begins
abbrev is_short : List ℕ → Bool
is_short [] = false
is_short (b ∷ []) = begins_mark b
is_short (b ∷ c ∷ []) = begins_mark b
is_short (b ∷ c ∷ d ∷ bytes) = false

-- a mark has at most two bytes
mark_short : (mark : List ℕ) → is_mark mark ≡ true → is_short mark ≡ true
mark_short mark is = among_all is_short marks mark refl is

no_mark_of_three : (b c d : ℕ) (bytes : List ℕ) → is_mark (b ∷ c ∷ d ∷ bytes) ≡ false
no_mark_of_three b c d bytes = false_from_ne_true _ (λ is. absurd (both_ways false refl (mark_short (b ∷ c ∷ d ∷ bytes) is)))

pub mark_begins : (b : ℕ) (others : List ℕ) → is_mark (b ∷ others) ≡ true → begins_mark b ≡ true
mark_begins b [] is = mark_short (b ∷ []) is
mark_begins b (c ∷ []) is = mark_short (b ∷ c ∷ []) is
mark_begins b (c ∷ d ∷ others) is = absurd (both_ways (is_mark (b ∷ c ∷ d ∷ others)) (no_mark_of_three b c d others) is)

-- a mark after which no byte makes it longer is the first one
pub mark_first : (b : ℕ) (others rest : List ℕ) → is_mark (b ∷ others) ≡ true → ends_before (Mark (b ∷ others)) rest ≡ true → first_mark b (others ++ rest) ≡ b ∷ others
mark_first b [] [] is ended = refl
mark_first b [] (c ∷ rest) is ended = cond-false _ _ _ (no_more_of (λ x. is_mark (b ∷ x ∷ [])) c ended)
mark_first b (c ∷ []) rest is ended = cond-true _ _ _ is
mark_first b (c ∷ d ∷ others) rest is ended = absurd (both_ways (is_mark (b ∷ c ∷ d ∷ others)) (no_mark_of_three b c d others) is)

-- The bytes begin with the mark, which no byte of the rest makes longer.
pub record IsFirst (bytes mark rest : List ℕ) : Type 0 where
  pub same : bytes ≡ mark ++ rest
  pub ended : ends_before (Mark mark) rest ≡ true

two_end : (b c : ℕ) (rest : List ℕ) → ends_before (Mark (b ∷ c ∷ [])) rest ≡ true
two_end b c [] = refl
two_end b c (d ∷ rest) = not_from_false _ (no_mark_of_three b c d [])

pub first_mark_is : (b : ℕ) (bytes : List ℕ) → let mark = first_mark b bytes in IsFirst (b ∷ bytes) mark (drop (length mark) (b ∷ bytes))
first_mark_is b [] = record { same = refl; ended = refl }
first_mark_is b (c ∷ bytes) =
    if-cases (λ mark. IsFirst (b ∷ c ∷ bytes) mark (drop (length mark) (b ∷ c ∷ bytes))) (is_mark (b ∷ c ∷ []))
    (λ is. record { same = refl; ended = two_end b c bytes })
    (λ other. record { same = refl; ended = not_from_false _ other })

pub first_mark_shorter : (b : ℕ) (bytes : List ℕ) → length (drop (length (first_mark b bytes)) (b ∷ bytes)) ≤ length bytes
first_mark_shorter b [] = omega arith
first_mark_shorter b (c ∷ bytes) =
    if-cases (λ mark. length (drop (length mark) (b ∷ c ∷ bytes)) ≤ length (c ∷ bytes)) (is_mark (b ∷ c ∷ []))
    (λ is. omega arith) (λ other. omega arith)
