-- The token that a word is.
use Rattle.std.specs.Prelude.{if◌then◌else◌, Option, Some, None}
use Rattle.dcc_c.specs.Grammar.{is_among}
use Rattle.dcc_c.specs.Pieces.{unused_keywords}
use Rattle.dcc_c.specs.Token.{Token, WordToken}
use Rattle.dcc_c.specs.Tree.{Word}

-- the token that a word is; a keyword that the grammar does not have is none
abbrev pub word_token : Word → Option Token
word_token word = if is_among unused_keywords word then None else Some (WordToken word)
