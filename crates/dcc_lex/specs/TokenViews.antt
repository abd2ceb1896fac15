-- The tokens and pieces that the declared types stand for.
use Rattle.std.specs.Prelude.{ℕ, List, codes}
use Rattle.std.specs.Option.{option_map}
use Rattle.dcc_c.specs.Token as tokens
use Rattle.dcc_c.specs.Pieces as pieces
use Rattle.dcc_lex.specs.declared.token.Suffix.{Suffix}
use Rattle.dcc_lex.specs.declared.token.Suffix.TheVariants.{Plain, Unsigned, Long, UnsignedLong}
use Rattle.dcc_lex.specs.declared.token.Head.{Head}
use Rattle.dcc_lex.specs.declared.token.Head.TheVariants.{Version, Stack, Place, Depth}
use Rattle.dcc_lex.specs.declared.token.Mark.{Mark}
use Rattle.dcc_lex.specs.declared.token.Mark.TheVariants as m
use Rattle.dcc_lex.specs.declared.token.Keyword.{Keyword}
use Rattle.dcc_lex.specs.declared.token.Keyword.TheVariants as k
use Rattle.dcc_lex.specs.declared.token.Token.{Token}
use Rattle.dcc_lex.specs.declared.token.Token.TheVariants.{Keyword as KeywordToken, Name, Decimal, Hex}
use Rattle.dcc_lex.specs.declared.token.Token.TheVariants.{Mark as MarkToken, Pragma}
use Rattle.dcc_lex.specs.declared.token.Piece.{Piece}

abbrev pub suffix_of : Suffix → tokens.Suffix
suffix_of Plain = tokens.plain_number
suffix_of Unsigned = tokens.unsigned_suffix
suffix_of Long = tokens.long_suffix
suffix_of UnsignedLong = tokens.unsigned_long_suffix

abbrev pub head_of : Head → tokens.Head
head_of Version = tokens.version_line
head_of Stack = tokens.stack_line
head_of Place = tokens.place_line
head_of Depth = tokens.depth_line

-- the bytes of a mark
abbrev pub mark_of : Mark → List ℕ
mark_of m.OpenParenthesis = codes "("
mark_of m.CloseParenthesis = codes ")"
mark_of m.OpenBrace = codes "{"
mark_of m.CloseBrace = codes "}"
mark_of m.OpenBracket = codes "["
mark_of m.CloseBracket = codes "]"
mark_of m.Semicolon = codes ";"
mark_of m.Colon = codes ":"
mark_of m.Comma = codes ","
mark_of m.Equals = codes "="
mark_of m.Question = codes "?"
mark_of m.OrOr = codes "||"
mark_of m.AndAnd = codes "&&"
mark_of m.Or = codes "|"
mark_of m.Xor = codes "^"
mark_of m.And = codes "&"
mark_of m.EqualsEquals = codes "=="
mark_of m.NotEquals = codes "!="
mark_of m.Less = codes "<"
mark_of m.LessEquals = codes "<="
mark_of m.Greater = codes ">"
mark_of m.GreaterEquals = codes ">="
mark_of m.ShiftLeft = codes "<<"
mark_of m.ShiftRight = codes ">>"
mark_of m.Plus = codes "+"
mark_of m.Minus = codes "-"
mark_of m.Star = codes "*"
mark_of m.Slash = codes "/"
mark_of m.Percent = codes "%"
mark_of m.Tilde = codes "~"
mark_of m.Exclamation = codes "!"

-- the bytes of a keyword
abbrev pub keyword_of : Keyword → List ℕ
keyword_of k.Auto = codes "auto"
keyword_of k.Break = codes "break"
keyword_of k.Case = codes "case"
keyword_of k.Char = codes "char"
keyword_of k.Continue = codes "continue"
keyword_of k.Default = codes "default"
keyword_of k.Do = codes "do"
keyword_of k.Else = codes "else"
keyword_of k.For = codes "for"
keyword_of k.Goto = codes "goto"
keyword_of k.If = codes "if"
keyword_of k.Int = codes "int"
keyword_of k.Long = codes "long"
keyword_of k.Register = codes "register"
keyword_of k.Return = codes "return"
keyword_of k.Signed = codes "signed"
keyword_of k.Switch = codes "switch"
keyword_of k.Unsigned = codes "unsigned"
keyword_of k.Void = codes "void"
keyword_of k.While = codes "while"

abbrev pub token_of : Token → tokens.Token
token_of (KeywordToken keyword) = tokens.WordToken (keyword_of keyword)
token_of (Name name) = tokens.WordToken name.word.now
token_of (Decimal n suffix) = tokens.Decimal n (suffix_of suffix)
token_of (Hex n suffix) = tokens.Hex n (suffix_of suffix)
token_of (MarkToken mark) = tokens.Mark (mark_of mark)
token_of (Pragma head) = tokens.Pragma (head_of head)

abbrev pub piece_of : Piece → pieces.Piece
piece_of p = pieces.piece p.line (option_map token_of p.token)
