-- Words of statements among tokens.
use Rattle.std.proofs.Common.{◌≡◌, Bool, true, false, ◌||◌, if◌then◌else◌, codes, is_some, Option, Some, None, refl}
use Rattle.dcc_c.specs.Token.{Token}
use Rattle.dcc_c.specs.Reading.{is_the_word}
use Rattle.dcc_c.specs.ReadingStatements.{is_statement_word, is_block_word}
use Rattle.dcc_reader.specs.declared.statement_word.StatementWord.{StatementWord}
use Rattle.dcc_reader.specs.declared.statement_word.StatementWord.TheVariants.{If, While, Do, For, Switch, Break, Continue, Goto, Return}
use Rattle.dcc_reader.specs.Words.{statement_word, is_block}

-- the first of the words of statements that stands here
abbrev pub first_word : Bool → Bool → Bool → Bool → Bool → Bool → Bool → Bool → Bool → Option StatementWord
first_word i w d f s b c g r =
    if i then Some If
    else if w then Some While
    else if d then Some Do
    else if f then Some For
    else if s then Some Switch
    else if b then Some Break
    else if c then Some Continue
    else if g then Some Goto
    else if r then Some Return
    else None

any-word : (i w d f s b c g r : Bool) → (((i || w) || (d || f)) || (((s || b) || (c || g)) || r)) ≡ is_some (first_word i w d f s b c g r)
any-word true w d f s b c g r = refl
any-word false true d f s b c g r = refl
any-word false false true f s b c g r = refl
any-word false false false true s b c g r = refl
any-word false false false false true b c g r = refl
any-word false false false false false true c g r = refl
any-word false false false false false false true g r = refl
any-word false false false false false false false true r = refl
any-word false false false false false false false false true = refl
any-word false false false false false false false false false = refl

block-word : (i w d f s b c g r : Bool) → (((i || w) || (d || f)) || s) ≡ is_block (first_word i w d f s b c g r)
block-word true w d f s b c g r = refl
block-word false true d f s b c g r = refl
block-word false false true f s b c g r = refl
block-word false false false true s b c g r = refl
block-word false false false false true b c g r = refl
block-word false false false false false true c g r = refl
block-word false false false false false false true g r = refl
block-word false false false false false false false true r = refl
block-word false false false false false false false false true = refl
block-word false false false false false false false false false = refl

-- a statement begins with a keyword exactly where it begins with one of the words
pub keyword-word : (token : Option Token) → is_statement_word token ≡ is_some (statement_word token)
keyword-word token =
    any-word (is_the_word (codes "if") token) (is_the_word (codes "while") token) (is_the_word (codes "do") token)
    (is_the_word (codes "for") token) (is_the_word (codes "switch") token) (is_the_word (codes "break") token)
    (is_the_word (codes "continue") token) (is_the_word (codes "goto") token) (is_the_word (codes "return") token)

-- a statement holds blocks exactly where its first word is one of those that do
pub block-keyword : (token : Option Token) → is_block_word token ≡ is_block (statement_word token)
block-keyword token =
    block-word (is_the_word (codes "if") token) (is_the_word (codes "while") token) (is_the_word (codes "do") token)
    (is_the_word (codes "for") token) (is_the_word (codes "switch") token) (is_the_word (codes "break") token)
    (is_the_word (codes "continue") token) (is_the_word (codes "goto") token) (is_the_word (codes "return") token)

-- there is a next token where a word of a statement stands
pub statement-seen : (token : Option Token) {word : StatementWord} → Some word ≡ statement_word token → is_some token ≡ true
statement-seen None is = absurd cc
statement-seen (Some t) is = refl
