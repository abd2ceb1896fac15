-- Reading statements, step by step.
use Rattle.std.proofs.Common.{◌≡◌, ℕ, ◌-◌, ◌<◌, Bool, true, false, if◌then◌else◌, not, codes, Option, Some, None, refl, sym, ap, ◌∙◌}
use Rattle.std.specs.Prelude.{Result, IfOk}
use Rattle.dcc_c.specs.Grammar.{Around, in_block, in_loop, in_switch}
use Rattle.dcc_c.specs.Partial.{PartialExpr, IfOf, WhileOf, DoWhileOf, ForeverOf, SwitchOf, EmptyOf, PartialLines, no_rows, PartialArms}
use Rattle.dcc_c.specs.Reading.{Reader, Got, got, is_stopped, next_token, skip, sees_word, take_mark, take_word}
use Rattle.dcc_c.specs.ReadingStatements as s
use Rattle.dcc_reader.specs.declared.partial.PartialStmt.{PartialStmt as Read}
use Rattle.dcc_reader.specs.declared.statement_word.StatementWord.{StatementWord}
use Rattle.dcc_reader.specs.declared.statement_word.StatementWord.TheVariants.{If, While, Do, For, Switch, Break, Continue, Goto, Return}
use Rattle.dcc_reader.specs.PartialViews.{stmt_of}
use Rattle.dcc_reader.specs.Words.{statement_word}
use Rattle.dcc_read.specs.Lines.{take_forever, while_stmt, do_while_stmt, forever_stmt, switch_stmt, stmt_with}
use Rattle.dcc_reader.proofs.HeadLaws.{ok-map}
use Rattle.dcc_reader.proofs.LoopLaws.{counted, if-true, if-false}
use Rattle.dcc_reader.proofs.WordLaws.{first_word}

-- Statements in general.

-- a statement by the first of the words that stands here
by_word : (i w d f s b c g e : Bool) (calls : ℕ) (around : Around) (r : Reader) →
    (if i then stmt_with (Some If) calls around r
    else (if w then stmt_with (Some While) calls around r
    else (if d then stmt_with (Some Do) calls around r
    else (if f then stmt_with (Some For) calls around r
    else (if s then stmt_with (Some Switch) calls around r
    else (if b then stmt_with (Some Break) calls around r
    else (if c then stmt_with (Some Continue) calls around r
    else (if g then stmt_with (Some Goto) calls around r
    else (if e then stmt_with (Some Return) calls around r else stmt_with None calls around r)))))))))
    ≡ stmt_with (first_word i w d f s b c g e) calls around r
by_word true w d f s b c g e calls around r = refl
by_word false true d f s b c g e calls around r = refl
by_word false false true f s b c g e calls around r = refl
by_word false false false true s b c g e calls around r = refl
by_word false false false false true b c g e calls around r = refl
by_word false false false false false true c g e calls around r = refl
by_word false false false false false false true g e calls around r = refl
by_word false false false false false false false true e calls around r = refl
by_word false false false false false false false false true calls around r = refl
by_word false false false false false false false false false calls around r = refl

-- a statement is read by the word that it begins with
pub stmt-with : (n : ℕ) (around : Around) (r : Reader) (word : Option StatementWord) → 0 < n → word ≡ statement_word (next_token r) →
    stmt_with word (n - 1) around r ≡ s.read_stmt n around r
stmt-with n around r word within is =
    ap (λ w. stmt_with w (n - 1) around r) is
    ∙ sym (by_word (sees_word (codes "if") r) (sees_word (codes "while") r) (sees_word (codes "do") r)
    (sees_word (codes "for") r) (sees_word (codes "switch") r) (sees_word (codes "break") r)
    (sees_word (codes "continue") r) (sees_word (codes "goto") r) (sees_word (codes "return") r) (n - 1) around r)
    ∙ ap (λ k. s.read_stmt k around r) (counted n within)

-- what was read as a statement is what the word that it begins with gives
pub read-with : {E : Type 0} (result : Result Read E) (end : Reader) (n : ℕ) (around : Around) (r : Reader) (word : Option StatementWord) →
    0 < n → word ≡ statement_word (next_token r) → IfOk result (λ stmt. got (stmt_of stmt) end ≡ stmt_with word (n - 1) around r) →
    IfOk result (λ stmt. got (stmt_of stmt) end ≡ s.read_stmt n around r)
read-with result end n around r word within is read =
    ok-map result (λ stmt. got (stmt_of stmt) end ≡ stmt_with word (n - 1) around r) _ (λ stmt was. was ∙ stmt-with n around r word within is) read

pub stmt-end : (n : ℕ) (around : Around) (r : Reader) → n ≡ 0 → got EmptyOf r ≡ s.read_stmt n around r
stmt-end n around r none = ap (λ k. s.read_stmt k around r) (sym none)

-- Loops, each after its word.

pub while-read : (calls : ℕ) (around inside : Around) (r skipped tested end : Reader) (test : PartialExpr) (stopped : Bool) (body : PartialLines) →
    skipped ≡ skip r → got test tested ≡ s.read_test calls skipped → stopped ≡ is_stopped tested →
    inside ≡ in_loop around → got body end ≡ s.read_block calls inside tested →
    got (WhileOf test (not stopped) body) end ≡ while_stmt calls around (skip r)
while-read calls around inside r skipped tested end test stopped body skips tests stops is blocks =
    ap (λ b. got (WhileOf test (not b) body) end) stops
    ∙ ap (s.while_of (got test tested)) (blocks ∙ ap (λ i. s.read_block calls i tested) is)
    ∙ ap (λ (g : Got PartialExpr). s.while_of g (s.read_block calls (in_loop around) g.following)) (tests ∙ ap (s.read_test calls) skips)

pub do-read : (calls : ℕ) (around inside : Around) (r skipped blocked worded tested end : Reader) (test : PartialExpr) (stopped : Bool) (body : PartialLines) →
    skipped ≡ skip r → inside ≡ in_loop around → got body blocked ≡ s.read_block calls inside skipped →
    worded ≡ take_word (codes "while") blocked → got test tested ≡ s.read_test calls worded → stopped ≡ is_stopped tested →
    end ≡ take_mark (codes ";") tested → got (DoWhileOf body test (not stopped)) end ≡ do_while_stmt calls around (skip r)
do-read calls around inside r skipped blocked worded tested end test stopped body skips is blocks words tests stops ends =
    ap (λ b. got (DoWhileOf body test (not b)) end) stops
    ∙ ap (λ e. got (DoWhileOf body test (not (is_stopped tested))) e) ends
    ∙ ap (s.do_while_of (got body blocked)) (tests ∙ ap (s.read_test calls) words)
    ∙ ap (λ (g : Got PartialLines). s.do_while_of g (s.read_test calls (take_word (codes "while") g.following)))
    (blocks ∙ ap (λ i. s.read_block calls i skipped) is ∙ ap (s.read_block calls (in_loop around)) skips)

pub forever-read : (calls : ℕ) (around inside : Around) (r skipped marked end : Reader) (body : PartialLines) →
    skipped ≡ skip r → marked ≡ take_forever skipped → inside ≡ in_loop around → got body end ≡ s.read_block calls inside marked →
    got (ForeverOf body) end ≡ forever_stmt calls around (skip r)
forever-read calls around inside r skipped marked end body skips marks is blocks =
    ap (λ (g : Got PartialLines). got (ForeverOf g.value) g.following)
    (blocks ∙ ap (λ i. s.read_block calls i marked) is ∙ ap (s.read_block calls (in_loop around)) (marks ∙ ap take_forever skips))

-- `switch`

pub switch-read : (calls : ℕ) (around inside : Around) (r started tested marked filled end : Reader) (test : PartialExpr) (stopped : Bool) (arms : PartialArms) →
    started ≡ skip r → got test tested ≡ s.read_test calls started → stopped ≡ is_stopped tested → marked ≡ take_mark (codes "{") tested →
    inside ≡ in_switch around → got arms filled ≡ s.read_arms calls inside marked → end ≡ take_mark (codes "}") filled →
    got (SwitchOf test (not stopped) arms) end ≡ switch_stmt calls around r
switch-read calls around inside r started tested marked filled end test stopped arms skips tests stops marks is fills ends =
    ap (λ b. got (SwitchOf test (not b) arms) end) stops
    ∙ ap (λ e. got (SwitchOf test (not (is_stopped tested)) arms) e) ends
    ∙ ap (s.switch_of (got test tested)) (fills ∙ ap (λ i. s.read_arms calls i marked) is ∙ ap (s.read_arms calls (in_switch around)) marks)
    ∙ ap (λ (g : Got PartialExpr). s.switch_of g (s.read_arms calls (in_switch around) (take_mark (codes "{") g.following))) (tests ∙ ap (s.read_test calls) skips)

-- `if`

pub if-end : (calls : ℕ) (around : Around) (test : Got PartialExpr) → calls ≡ 0 → s.read_if calls around test ≡ got EmptyOf test.following
if-end calls around test none = ap (λ n. s.read_if n around test) none

-- the block after the test, and from there on what the test and the block give
blocks-read : (calls : ℕ) (around inside : Around) (r started tested blocked : Reader) (test : PartialExpr) (body : PartialLines) →
    0 < calls → started ≡ skip r → got test tested ≡ s.read_test calls started →
    inside ≡ in_block around → got body blocked ≡ s.read_block (calls - 1) inside tested →
    (if sees_word (codes "else") blocked
    then s.if_of (got test tested) body (s.read_block (calls - 1) (in_block around) (skip blocked))
    else s.if_of (got test tested) body (got no_rows blocked))
    ≡ s.read_if calls around (s.read_test calls (skip r))
blocks-read calls around inside r started tested blocked test body within skips tests is blocks =
    ap (λ (g : Got PartialLines). if sees_word (codes "else") g.following
    then s.if_of (got test tested) g.value (s.read_block (calls - 1) (in_block around) (skip g.following))
    else s.if_of (got test tested) g.value (got no_rows g.following)) (blocks ∙ ap (λ i. s.read_block (calls - 1) i tested) is)
    ∙ ap (λ n. s.read_if n around (got test tested)) (counted calls within)
    ∙ ap (s.read_if calls around) (tests ∙ ap (s.read_test calls) skips)

pub else-read : (calls : ℕ) (around inside inner : Around) (r started tested blocked skipped end : Reader) (test : PartialExpr) (stopped : Bool) (body otherwise : PartialLines) →
    0 < calls → started ≡ skip r → got test tested ≡ s.read_test calls started → stopped ≡ is_stopped tested →
    inside ≡ in_block around → got body blocked ≡ s.read_block (calls - 1) inside tested → sees_word (codes "else") blocked ≡ true →
    skipped ≡ skip blocked → inner ≡ in_block around → got otherwise end ≡ s.read_block (calls - 1) inner skipped →
    got (IfOf test (not stopped) body otherwise) end ≡ s.read_if calls around (s.read_test calls (skip r))
else-read calls around inside inner r started tested blocked skipped end test stopped body otherwise within skips tests stops is blocks sees jumps also others =
    ap (λ b. got (IfOf test (not b) body otherwise) end) stops
    ∙ ap (s.if_of (got test tested) body) (others ∙ ap (λ i. s.read_block (calls - 1) i skipped) also ∙ ap (s.read_block (calls - 1) (in_block around)) jumps)
    ∙ sym (if-true (sees_word (codes "else") blocked) _ _ sees)
    ∙ blocks-read calls around inside r started tested blocked test body within skips tests is blocks

pub if-read : (calls : ℕ) (around inside : Around) (r started tested blocked : Reader) (test : PartialExpr) (stopped : Bool) (body : PartialLines) →
    0 < calls → started ≡ skip r → got test tested ≡ s.read_test calls started → stopped ≡ is_stopped tested →
    inside ≡ in_block around → got body blocked ≡ s.read_block (calls - 1) inside tested → sees_word (codes "else") blocked ≡ false →
    got (IfOf test (not stopped) body no_rows) blocked ≡ s.read_if calls around (s.read_test calls (skip r))
if-read calls around inside r started tested blocked test stopped body within skips tests stops is blocks sees =
    ap (λ b. got (IfOf test (not b) body no_rows) blocked) stops
    ∙ sym (if-false (sees_word (codes "else") blocked) _ _ sees)
    ∙ blocks-read calls around inside r started tested blocked test body within skips tests is blocks

-- A block.

pub block-read : (calls : ℕ) (around : Around) (r marked lined end : Reader) (block : s.Block) → 0 < calls → marked ≡ take_mark (codes "{") r →
    got block lined ≡ s.read_lines (calls - 1) around false false marked → end ≡ take_mark (codes "}") lined →
    got block.lines end ≡ s.read_block calls around r
block-read calls around r marked lined end block within marks lines ends =
    ap (got block.lines) ends
    ∙ ap s.end_block (lines ∙ ap (s.read_lines (calls - 1) around false false) marks)
    ∙ ap (λ n. s.read_block n around r) (counted calls within)
