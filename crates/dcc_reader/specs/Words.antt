-- Words among tokens.
use Rattle.std.specs.Prelude.{Bool, true, false, codes, Option, Some, None, if◌then◌else◌}
use Rattle.dcc_c.specs.Token.{Token}
use Rattle.dcc_c.specs.Reading.{is_the_word}
use Rattle.dcc_reader.specs.declared.statement_word.StatementWord.{StatementWord}
use Rattle.dcc_reader.specs.declared.statement_word.StatementWord.TheVariants.{If, While, Do, For, Switch, Break}
use Rattle.dcc_reader.specs.declared.statement_word.StatementWord.TheVariants.{Continue, Goto, Return}

-- the word of a statement that the token is
abbrev pub statement_word : Option Token → Option StatementWord
statement_word token =
    if is_the_word (codes "if") token then Some If
    else if is_the_word (codes "while") token then Some While
    else if is_the_word (codes "do") token then Some Do
    else if is_the_word (codes "for") token then Some For
    else if is_the_word (codes "switch") token then Some Switch
    else if is_the_word (codes "break") token then Some Break
    else if is_the_word (codes "continue") token then Some Continue
    else if is_the_word (codes "goto") token then Some Goto
    else if is_the_word (codes "return") token then Some Return
    else None

-- a statement that begins with the word holds blocks
abbrev pub holds_blocks : StatementWord → Bool
holds_blocks If = true
holds_blocks While = true
holds_blocks Do = true
holds_blocks For = true
holds_blocks Switch = true
holds_blocks Break = false
holds_blocks Continue = false
holds_blocks Goto = false
holds_blocks Return = false

-- the word, where there is one, is that of a statement that holds blocks
abbrev pub is_block : Option StatementWord → Bool
is_block (Some word) = holds_blocks word
is_block None = false
