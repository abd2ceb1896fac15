-- A text as rows of spaces and tokens, and that such a text is read as its tokens.
use Rattle.std.proofs.Common.{◌≡◌, ℕ, suc, Bool, true, false, ◌&&◌, List, [], ◌∷◌, ◌++◌, map, refl, ap, append_assoc}
use Rattle.std.specs.Prelude.{nat_le, codes}
use Rattle.std.proofs.lemmas.List.{append-nil}
use Rattle.std.specs.Fmt.{decimal}
use Rattle.std.proofs.lemmas.Bool.{and_parts, leb-true}
use Rattle.dcc_c.specs.Token.{Token, WordToken, Decimal, Hex, Mark, Pragma, suffix_bytes, is_word, is_mark, Spells, ends_before, plain_number, version_line, stack_line}
use Rattle.dcc_c.specs.Lexing.{Placed, placed, are_pragma_numbers, Lexes, ends, blank, feed, token, pragma}

-- a space, or a token in its spelling
pub data Piece : Type 0 where
  Space : Piece
  Spelled : Token → Piece

-- the spelling of a word, a decimal number or a mark
abbrev pub spelling : Token → List ℕ
spelling (WordToken word) = word
spelling (Decimal n suffix) = decimal n ++ suffix_bytes suffix
spelling (Mark mark) = mark
spelling (Hex n suffix) = []
spelling (Pragma head) = []

-- the bytes of a row, its line feed and the bytes after it
abbrev pub row_bytes : List Piece → List ℕ → List ℕ
row_bytes [] rest = 10 ∷ rest
row_bytes (Space ∷ row) rest = 32 ∷ row_bytes row rest
row_bytes (Spelled read ∷ row) rest = spelling read ++ row_bytes row rest

-- the tokens of a row
abbrev pub row_tokens : List Piece → List Token
row_tokens [] = []
row_tokens (Space ∷ row) = row_tokens row
row_tokens (Spelled read ∷ row) = read ∷ row_tokens row

-- the token can be spelled
abbrev pub is_spelled : Token → Bool
is_spelled (WordToken word) = is_word word
is_spelled (Decimal n suffix) = nat_le n 4294967295
is_spelled (Mark mark) = is_mark mark
is_spelled (Hex n suffix) = false
is_spelled (Pragma head) = false

-- each token of the row can be spelled and ends before what follows it
abbrev pub are_apart : List Piece → List ℕ → Bool
are_apart [] rest = true
are_apart (Space ∷ row) rest = are_apart row rest
are_apart (Spelled read ∷ row) rest = is_spelled read && (ends_before read (row_bytes row rest) && are_apart row rest)

-- the bytes of rows
abbrev pub text_bytes : List (List Piece) → List ℕ
text_bytes [] = []
text_bytes (row ∷ rows) = row_bytes row (text_bytes rows)

-- the tokens of rows, the first of which is this line
abbrev pub text_tokens : ℕ → List (List Piece) → List Placed
text_tokens at [] = []
text_tokens at (row ∷ rows) = map (placed at) (row_tokens row) ++ text_tokens (suc at) rows

-- each token of each row can be spelled and ends before what follows it
abbrev pub is_text : List (List Piece) → Bool
is_text [] = true
is_text (row ∷ rows) = are_apart row (text_bytes rows) && is_text rows

-- a token that can be spelled has its spelling
pub spelled : (read : Token) → is_spelled read ≡ true → Spells (spelling read) read
spelled (WordToken word) good = (refl, good)
spelled (Decimal n suffix) good = (refl, leb-true n 4294967295 good)
spelled (Mark mark) good = (refl, good)
spelled (Hex n suffix) good = absurd cc
spelled (Pragma head) good = absurd cc

-- a row and its line feed are read as the row's tokens
pub row_lexes : {fresh : Bool} {at : ℕ} {rest : List ℕ} {tokens : List Placed} (row : List Piece) → are_apart row rest ≡ true → Lexes true (suc at) rest tokens → Lexes fresh at (row_bytes row rest) (map (placed at) (row_tokens row) ++ tokens)
row_lexes [] apart then = feed then
row_lexes (Space ∷ row) apart then = blank refl (row_lexes row apart then)
row_lexes {rest} (Spelled read ∷ row) apart then =
    let (good, later) = and_parts (is_spelled read) (ends_before read (row_bytes row rest) && are_apart row rest) apart in
    let (separate, others) = and_parts (ends_before read (row_bytes row rest)) (are_apart row rest) later in
    token read (spelling read) (row_bytes row rest) (spelled read good) separate refl (row_lexes row others then)

-- rows are read as their tokens
pub text_lexes : (at : ℕ) (rows : List (List Piece)) → is_text rows ≡ true → Lexes true at (text_bytes rows) (text_tokens at rows)
text_lexes at [] good = ends
text_lexes at (row ∷ rows) good =
    let (apart, others) = and_parts (are_apart row (text_bytes rows)) (is_text rows) good in
    row_lexes row apart (text_lexes (suc at) rows others)

numbers_join : (a b rest : List ℕ) → a ++ 32 ∷ (b ++ 10 ∷ rest) ≡ (a ++ 32 ∷ (b ++ [])) ++ 10 ∷ rest
numbers_join a b rest = simp (append_assoc, append-nil)

-- the tokens of the version line and the stack line
abbrev pub header : ℕ → ℕ → List Placed
header lo hi =
    placed 1 (Pragma version_line) ∷ placed 2 (Pragma stack_line) ∷ placed 2 (Decimal lo plain_number)
    ∷ placed 2 (Decimal hi plain_number) ∷ []

-- the version line and the stack line are read as their tokens
pub header_lexes : {rest : List ℕ} {tokens : List Placed} (lo hi : ℕ) →
    are_pragma_numbers stack_line (lo ∷ hi ∷ []) ≡ true → Lexes true 3 rest tokens →
    Lexes true 1 (codes "#pragma dcc text 1\n#pragma dcc stack " ++ (decimal lo ++ (codes " " ++ (decimal hi ++ (codes "\n" ++ rest))))) (header lo hi ++ tokens)
header_lexes {rest} lo hi small then =
    pragma version_line [] (codes "\n#pragma dcc stack " ++ (decimal lo ++ (codes " " ++ (decimal hi ++ (codes "\n" ++ rest))))) refl refl refl (feed (pragma stack_line (lo ∷ hi ∷ []) (10 ∷ rest) small refl (ap (λ (bytes : List ℕ). codes "#pragma dcc stack " ++ bytes) (numbers_join (decimal lo) (decimal hi) rest)) (feed then) refl)) refl
