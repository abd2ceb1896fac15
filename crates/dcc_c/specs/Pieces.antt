-- From bytes to pieces, for every text: its tokens, and the bytes that are no token.
use Rattle.std.specs.Prelude.{ℕ, suc, zero, ◌+◌, ◌*◌, ◌-◌, nat_le, Bool, true, false, ◌&&◌, not, ◌==◌, if◌then◌else◌}
use Rattle.std.specs.Prelude.{List, [], ◌∷◌, ◌++◌, length, drop, codes, Option, Some, None, option_map}
use Rattle.std.specs.List.{take_while}
use Rattle.std.specs.Fmt.{decimal}
use Rattle.dcc_c.specs.Token.{Token, WordToken, Decimal, Hex, Mark, Pragma, Suffix, plain_number, unsigned_suffix}
use Rattle.dcc_c.specs.Token.{long_suffix, unsigned_long_suffix, Head, version_line, stack_line, place_line, depth_line}
use Rattle.dcc_c.specs.Token.{head_bytes, is_digit, is_word, is_word_byte, is_mark, hex_value, hex_from, same_bytes}
use Rattle.dcc_c.specs.Lexing.{is_blank}
use Rattle.dcc_c.specs.Tree.{Word}
use Rattle.dcc_c.specs.Grammar.{is_among}

-- A piece of a text: a token, or bytes that are none, with its line.
pub record Piece : Type 0 where
  pub token : Option Token
  pub line : ℕ

abbrev pub piece : ℕ → Option Token → Piece
piece line token = record { token = token; line = line }

-- The token of a piece that is a token and may stand nowhere: a piece in a pragma's line that the line's form forbids.
-- It is the token of the version line, which stands in the first line alone.
abbrev pub stray : Token
stray = Pragma version_line

-- the bytes after the first ones of a kind
abbrev pub after_while : (ℕ → Bool) → List ℕ → List ℕ
after_while is_kind bytes = drop (length (take_while is_kind bytes)) bytes

-- the bytes after some first ones, if the list begins with these
abbrev pub after : List ℕ → List ℕ → Option (List ℕ)
after [] bytes = Some bytes
after (w ∷ words) [] = None
after (w ∷ words) (b ∷ bytes) = if w == b then after words bytes else None

-- Words and numbers.

-- the keywords of ISO C90 that the grammar does not have; they are no tokens
abbrev pub unused_keywords : List Word
unused_keywords =
    codes "const" ∷ codes "double" ∷ codes "enum" ∷ codes "extern" ∷ codes "float" ∷ codes "short" ∷ codes "sizeof"
    ∷ codes "static" ∷ codes "struct" ∷ codes "typedef" ∷ codes "union" ∷ codes "volatile" ∷ []

-- the suffix of a number that the bytes are
abbrev pub suffix_of : List ℕ → Option Suffix
suffix_of bytes =
    if same_bytes bytes [] then Some plain_number
    else if same_bytes bytes (codes "U") then Some unsigned_suffix
    else if same_bytes bytes (codes "L") then Some long_suffix
    else if same_bytes bytes (codes "UL") then Some unsigned_long_suffix
    else None

-- the value of decimal digits, after a value so far
abbrev pub decimal_from : ℕ → List ℕ → ℕ
decimal_from n [] = n
decimal_from n (b ∷ bs) = decimal_from (10 * n + (b - 48)) bs

-- the number that a run of digits, letters and `_` is: its digits without a needless 0, at most 4294967295, and a
-- suffix
abbrev pub decimal_of : List ℕ → Option Token
decimal_of bytes =
    let digits = take_while is_digit bytes in
    let n = decimal_from 0 digits in
    if same_bytes digits (decimal n) && nat_le n 4294967295
    then option_map (λ suffix. Decimal n suffix) (suffix_of (after_while is_digit bytes)) else None

abbrev pub is_hex_digit : ℕ → Bool
is_hex_digit b = nat_le (hex_value b) 15

-- the number in hexadecimal that a run is, after `0x`: one to eight digits
abbrev pub hex_of : List ℕ → Option Token
hex_of bytes =
    let digits = take_while is_hex_digit bytes in
    if nat_le 1 (length digits) && nat_le (length digits) 8
    then option_map (λ suffix. Hex (hex_from 0 digits) suffix) (suffix_of (after_while is_hex_digit bytes)) else None

abbrev pub number_of : List ℕ → Option Token
number_of bytes = elim (after (codes "0x") bytes) [ Some digits ↦ hex_of digits | None ↦ decimal_of bytes ]

-- the token that a run of letters, digits and `_` is
abbrev pub token_of_word : List ℕ → Option Token
token_of_word [] = None
token_of_word (b ∷ bytes) =
    if is_digit b then number_of (b ∷ bytes)
    else if is_word (b ∷ bytes) && not (is_among unused_keywords (b ∷ bytes)) then Some (WordToken (b ∷ bytes))
    else None

-- Lines.

-- the line ends before the bytes
abbrev pub is_line_end : List ℕ → Bool
is_line_end [] = true
is_line_end (b ∷ bytes) = b == 10

-- no word or number goes on with the bytes
abbrev pub is_word_end : List ℕ → Bool
is_word_end [] = true
is_word_end (b ∷ bytes) = not (is_word_byte b)

-- the words of a pragma, without the number of the version line
abbrev pub pragma_words : Head → List ℕ
pragma_words version_line = codes "#pragma dcc text"
pragma_words stack_line = head_bytes stack_line
pragma_words place_line = head_bytes place_line
pragma_words depth_line = head_bytes depth_line

-- a pragma whose words the bytes begin with, and the bytes after them
pub record FoundHead : Type 0 where
  pub head : Head
  pub rest : List ℕ

abbrev pub head_if : Head → Option (List ℕ) → Option FoundHead → Option FoundHead
head_if head (Some rest) otherwise = if is_word_end rest then Some (record { head = head; rest = rest }) else otherwise
head_if head None otherwise = otherwise

abbrev pub head_in : List Head → List ℕ → Option FoundHead
head_in [] bytes = None
head_in (head ∷ heads) bytes = head_if head (after (pragma_words head) bytes) (head_in heads bytes)

abbrev pub head_of : List ℕ → Option FoundHead
head_of bytes = head_in (version_line ∷ stack_line ∷ place_line ∷ depth_line ∷ []) bytes

-- A spot: where in a line bytes begin.
pub data Spot : Type 0 where
  -- at the beginning of a line
  line_start : Spot
  -- in a line of tokens
  in_line : Spot
  -- after the words of a pragma or one of its numbers
  in_pragma : Spot
  -- after blanks in a pragma's line, where no token may stand
  in_blanks : Spot

-- no token but a number after one space may stand here
abbrev pub is_of_pragma : Spot → Bool
is_of_pragma line_start = false
is_of_pragma in_line = false
is_of_pragma in_pragma = true
is_of_pragma in_blanks = true

abbrev pub is_in_pragma : Spot → Bool
is_in_pragma in_pragma = true
is_in_pragma spot = false

abbrev pub is_line_start : Spot → Bool
is_line_start line_start = true
is_line_start spot = false

-- The first bytes of a text: a piece or none, and where the text goes on.
pub record Cut : Type 0 where
  pub pieces : List Piece
  pub spot : Spot
  pub line : ℕ
  pub rest : List ℕ

abbrev pub cut : List Piece → Spot → ℕ → List ℕ → Cut
cut pieces spot line rest = record { pieces = pieces; spot = spot; line = line; rest = rest }

-- the token at a spot; in the line of a pragma a token may not stand
abbrev pub allowed_at : Spot → Option Token → Option Token
allowed_at spot token = if is_of_pragma spot then option_map (λ t. stray) token else token

-- the first two bytes, or the first one
abbrev pub first_mark : ℕ → List ℕ → List ℕ
first_mark b [] = b ∷ []
first_mark b (c ∷ bytes) = if is_mark (b ∷ c ∷ []) then b ∷ c ∷ [] else b ∷ []

-- what is cut at the words of a pragma, which begin at the beginning of a line
abbrev pub cut_head : Spot → ℕ → FoundHead → Cut
cut_head spot line found =
    if is_line_start spot then cut (piece line (Some (Pragma found.head)) ∷ []) in_pragma line found.rest
    else cut (piece line (Some stray) ∷ []) in_line line found.rest

-- what is cut at another byte: a mark, the words of a pragma, or a byte that begins no token
abbrev pub cut_mark : Spot → ℕ → ℕ → List ℕ → Cut
cut_mark spot line b bytes =
    let mark = first_mark b bytes in
    if is_mark mark
    then cut (piece line (allowed_at spot (Some (Mark mark))) ∷ []) in_line line (drop (length mark) (b ∷ bytes))
    else elim (head_of (b ∷ bytes)) [
      | Some found ↦ cut_head spot line found
      | None ↦ cut (piece line None ∷ []) in_line line bytes
    ]

-- what is cut at the begin of a run of letters, digits and `_`, or at another byte
abbrev pub cut_token : Spot → ℕ → ℕ → List ℕ → Cut
cut_token spot line b bytes =
    if is_word_byte b
    then cut (piece line (allowed_at spot (token_of_word (take_while is_word_byte (b ∷ bytes)))) ∷ []) in_line line
    (after_while is_word_byte (b ∷ bytes))
    else cut_mark spot line b bytes

-- what is cut at a space or a tab: in the line of a pragma something stands after it, else it offends itself
abbrev pub cut_blank : Spot → ℕ → List ℕ → Cut
cut_blank spot line bytes =
    if not (is_of_pragma spot) then cut [] in_line line bytes
    else if is_line_end (after_while is_blank bytes)
    then cut (piece line (Some stray) ∷ []) in_line line (after_while is_blank bytes)
    else cut [] in_blanks line bytes

-- a decimal number without suffix
abbrev pub is_plain : Option Token → Bool
is_plain (Some (Decimal n plain_number)) = true
is_plain token = false

-- the number of a pragma, after one space, begins here
abbrev pub has_number : Spot → ℕ → List ℕ → Bool
has_number spot b bytes =
    is_in_pragma spot && ((b == 32) && is_plain (token_of_word (take_while is_word_byte bytes)))

-- The first piece of a text that begins at this spot of this line. Each token is the longest. A run of letters, digits
-- and `_` is one piece, and so is each other byte that begins no token. The words of a pragma stand at the beginning
-- of a line, one space stands before each of its numbers, and nothing else stands in the line.
abbrev pub first_cut : Spot → ℕ → ℕ → List ℕ → Cut
first_cut spot line b bytes =
    if b == 10 then cut [] line_start (suc line) bytes
    else if has_number spot b bytes
    then cut (piece line (token_of_word (take_while is_word_byte bytes)) ∷ []) in_pragma line
    (after_while is_word_byte bytes)
    else if is_blank b then cut_blank spot line bytes
    else cut_token spot line b bytes

-- The pieces of the bytes, cut at most a number of times.
abbrev pub pieces_from : ℕ → Spot → ℕ → List ℕ → List Piece
pieces_from zero spot line bytes = []
pieces_from (suc more) spot line [] = []
pieces_from (suc more) spot line (b ∷ bytes) =
    let first = first_cut spot line b bytes in
    first.pieces ++ pieces_from more first.spot first.line first.rest

-- the bytes after the version line, which is the first line
abbrev pub after_version : List ℕ → Option (List ℕ)
after_version text = elim (after (head_bytes version_line) text) [
  | Some rest ↦ if is_line_end rest then Some rest else None
  | None ↦ None
]

-- the pieces of a text after its version line, each cut off once
abbrev pub pieces_of : List ℕ → List Piece
pieces_of rest = pieces_from (length rest) in_line 1 rest

-- the line of the piece at a place, or the last line of the text, the one after the last line feed
abbrev pub line_at : List Piece → ℕ → ℕ → ℕ
line_at [] last at = last
line_at (p ∷ pieces) last zero = p.line
line_at (p ∷ pieces) last (suc at) = line_at pieces last at
