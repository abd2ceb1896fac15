-- The kinds of bytes that the declared type stands for.
use Rattle.std.specs.Prelude.{ℕ, Bool}
use Rattle.dcc_c.specs.Token.{is_digit, is_word_byte}
use Rattle.dcc_c.specs.Lexing.{is_blank}
use Rattle.dcc_c.specs.Pieces.{is_hex_digit}
use Rattle.dcc_lex.specs.declared.bytes.ByteKind.{ByteKind}
use Rattle.dcc_lex.specs.declared.bytes.ByteKind.TheVariants.{Digit, HexDigit, WordByte, Blank}

-- the byte is of this kind
abbrev pub has_kind : ByteKind → ℕ → Bool
has_kind Digit = is_digit
has_kind HexDigit = is_hex_digit
has_kind WordByte = is_word_byte
has_kind Blank = is_blank
