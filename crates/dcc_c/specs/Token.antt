-- Tokens and their spellings.
use Rattle.std.specs.Prelude.{◌≡◌, ℕ, ◌+◌, ◌-◌, ◌*◌, ◌≤◌, Bool, true, false, ◌&&◌, ◌||◌, not, nat_le, ◌==◌}
use Rattle.std.specs.Prelude.{if◌then◌else◌, List, [], ◌∷◌, ◌++◌, length, codes}
use Rattle.std.specs.List.{list_all, list_any}
use Rattle.std.specs.Fmt.{decimal}
use Rattle.dcc_c.specs.declared.syntax.Base.{Base}
use Rattle.dcc_c.specs.declared.syntax.Base.TheVariants.{Int, Uint, Long, Ulong}

-- two lists of bytes are the same
abbrev pub same_bytes : List ℕ → List ℕ → Bool
same_bytes [] [] = true
same_bytes [] (y ∷ ys) = false
same_bytes (x ∷ xs) [] = false
same_bytes (x ∷ xs) (y ∷ ys) = (x == y) && same_bytes xs ys

-- the byte lies from low to high
abbrev pub is_between : ℕ → ℕ → ℕ → Bool
is_between low high b = nat_le low b && nat_le b high

abbrev pub is_digit : ℕ → Bool
is_digit b = is_between 48 57 b

-- a letter or `_`
abbrev pub is_letter : ℕ → Bool
is_letter b = is_between 65 90 b || (is_between 97 122 b || (b == 95))

-- a byte that goes on with a word or a number
abbrev pub is_word_byte : ℕ → Bool
is_word_byte b = is_letter b || is_digit b

-- a word: at most 31 letters, digits and `_`, not beginning with a digit
abbrev pub is_word : List ℕ → Bool
is_word [] = false
is_word (b ∷ bs) = is_letter b && (list_all is_word_byte bs && nat_le (length bs) 30)

-- the value of a hexadecimal digit, or 16 for another byte
abbrev pub hex_value : ℕ → ℕ
hex_value b =
    if is_digit b then b - 48 else (if is_between 65 70 b then b - 55 else (if is_between 97 102 b then b - 87 else 16))

-- a suffix of a number
pub data Suffix : Type 0 where
  plain_number : Suffix
  unsigned_suffix : Suffix
  long_suffix : Suffix
  unsigned_long_suffix : Suffix

abbrev pub suffix_bytes : Suffix → List ℕ
suffix_bytes plain_number = []
suffix_bytes unsigned_suffix = codes "U"
suffix_bytes long_suffix = codes "L"
suffix_bytes unsigned_long_suffix = codes "UL"

-- the pragmas
pub data Head : Type 0 where
  version_line : Head
  stack_line : Head
  place_line : Head
  depth_line : Head

-- the words of a pragma, before its numbers
abbrev pub head_bytes : Head → List ℕ
head_bytes version_line = codes "#pragma dcc text 1"
head_bytes stack_line = codes "#pragma dcc stack"
head_bytes place_line = codes "#pragma dcc at"
head_bytes depth_line = codes "#pragma dcc depth"

-- a token
pub data Token : Type 0 where
  -- a name or a keyword
  WordToken : List ℕ → Token
  -- a decimal number
  Decimal : ℕ → Suffix → Token
  -- a number in hexadecimal
  Hex : ℕ → Suffix → Token
  -- an operator, a bracket or a separator
  Mark : List ℕ → Token
  -- the words of a pragma
  Pragma : Head → Token

-- the marks
abbrev pub marks : List (List ℕ)
marks =
    codes "(" ∷ codes ")" ∷ codes "{" ∷ codes "}" ∷ codes "[" ∷ codes "]" ∷ codes ";" ∷ codes ":" ∷ codes ","
    ∷ codes "=" ∷ codes "?" ∷ codes "||" ∷ codes "&&" ∷ codes "|" ∷ codes "^" ∷ codes "&" ∷ codes "==" ∷ codes "!="
    ∷ codes "<" ∷ codes "<=" ∷ codes ">" ∷ codes ">=" ∷ codes "<<" ∷ codes ">>" ∷ codes "+" ∷ codes "-" ∷ codes "*"
    ∷ codes "/" ∷ codes "%" ∷ codes "~" ∷ codes "!" ∷ []

abbrev pub is_mark : List ℕ → Bool
is_mark bytes = list_any (same_bytes bytes) marks

-- the value of hexadecimal digits, after a value so far
abbrev pub hex_from : ℕ → List ℕ → ℕ
hex_from n [] = n
hex_from n (b ∷ bs) = hex_from (16 * n + hex_value b) bs

-- one to eight hexadecimal digits
abbrev pub are_hex_digits : List ℕ → Bool
are_hex_digits digits =
    list_all (λ b. nat_le (hex_value b) 15) digits && (nat_le 1 (length digits) && nat_le (length digits) 8)

-- the bytes are a spelling of the token
abbrev pub Spells : List ℕ → Token → Type 0
Spells bytes (WordToken word) = (bytes ≡ word) × (is_word word ≡ true)
Spells bytes (Decimal n suffix) = (bytes ≡ decimal n ++ suffix_bytes suffix) × (n ≤ 4294967295)
Spells bytes (Hex n suffix) =
    (digits : List ℕ)
    × (are_hex_digits digits ≡ true)
    × (hex_from 0 digits ≡ n)
    × (bytes ≡ codes "0x" ++ (digits ++ suffix_bytes suffix))
Spells bytes (Mark mark) = (bytes ≡ mark) × (is_mark mark ≡ true)
Spells bytes (Pragma head) = ⊥

-- no longer token could be read: a word or a number goes on with no word byte, a mark with no byte to a longer mark
abbrev pub ends_before : Token → List ℕ → Bool
ends_before token [] = true
ends_before (WordToken word) (b ∷ rest) = not (is_word_byte b)
ends_before (Decimal n suffix) (b ∷ rest) = not (is_word_byte b)
ends_before (Hex n suffix) (b ∷ rest) = not (is_word_byte b)
ends_before (Mark mark) (b ∷ rest) = not (is_mark (mark ++ b ∷ []))
ends_before (Pragma head) (b ∷ rest) = b == 10

-- the first of two types that holds a number up to the limit, else the second
abbrev pub first_that_holds : ℕ → ℕ → Base → Base → Base
first_that_holds n limit first second = if nat_le n limit then first else second

-- the type of a decimal number
abbrev pub decimal_type : ℕ → Suffix → Base
decimal_type n plain_number = first_that_holds n 32767 Int (first_that_holds n 2147483647 Long Ulong)
decimal_type n unsigned_suffix = first_that_holds n 65535 Uint Ulong
decimal_type n long_suffix = first_that_holds n 2147483647 Long Ulong
decimal_type n unsigned_long_suffix = Ulong

-- the type of a hexadecimal number
abbrev pub hex_type : ℕ → Suffix → Base
hex_type n plain_number =
    first_that_holds n 32767 Int (first_that_holds n 65535 Uint (first_that_holds n 2147483647 Long Ulong))
hex_type n unsigned_suffix = first_that_holds n 65535 Uint Ulong
hex_type n long_suffix = first_that_holds n 2147483647 Long Ulong
hex_type n unsigned_long_suffix = Ulong
