-- Statements with blocks that the grammar has are read, where their blocks are.
use Rattle.std.proofs.Common.{◌≡◌, ℕ, zero, suc, ◌≤◌, List, [], ◌∷◌, ◌++◌, true, false, Bool, Option, Some, None, refl, sym, ap, ◌∙◌, arith}
use Rattle.std.specs.Prelude.{codes, nat_le, not, ◌&&◌, if◌then◌else◌}
use Rattle.std.specs.List.{list_all}
use Rattle.std.proofs.lemmas.Bool.{and_parts, leb-true}
use Rattle.std.proofs.lemmas.List.Folds.{list_all-append}
use Rattle.dcc_c.specs.Token.{WordToken, Mark}
use Rattle.dcc_c.specs.Lexing.{Placed}
use Rattle.dcc_c.specs.Tree.{Word, Expr, Stmt, If, While, DoWhile, Forever, Break, Continue, Goto, Empty, Return, Lines, no_lines}
use Rattle.dcc_c.specs.Parts.{stmts_in}
use Rattle.dcc_c.specs.Grammar.{mark, word, is_name, IsExpr, Around, in_block, in_loop, Begins, none, one}
use Rattle.dcc_c.specs.Rules.{expr_depth, shallow_stmt, most_open}
use Rattle.dcc_c.specs.Partial.{WordAt, PartialExpr, IfOf, WhileOf, DoWhileOf, ForeverOf, BreakOf, ContinueOf, GotoOf, EmptyOf, ReturnOf, PartialLines, no_rows}
use Rattle.dcc_c.specs.Reading.{Got, got, is_stopped, skip, is_the_word, is_the_mark, sees_word, take_mark, take_word}
use Rattle.dcc_c.specs.ReadingStatements.{read_test, end_block, while_of, if_of, do_while_of, read_leave, read_if, read_block, read_lines, block_of}
use Rattle.dcc_c.specs.Stripped.{plain_expr, plain_lines}
use Rattle.dcc_c.proofs.reading.Statements.{IsEnoughFor, on, first_of}
use Rattle.dcc_c.proofs.reading.Stopping.{if-false}
use Rattle.dcc_c.proofs.reading.LineSound.{IsShallowLines}
use Rattle.dcc_c.proofs.reading.Derivations.{flat_after}
use Rattle.dcc_c.proofs.reading.Leads.{Leads, test_leads}
use Rattle.dcc_c.proofs.reading.PartsComplete.{expr_no_mark, no_semicolon, take_name-is, test-complete, value-complete}
use Rattle.dcc_c.proofs.reading.LineFinds.{rows_before, joined_none, StmtRead, LinesRead}

-- The block was read, with exactly the rest left.
pub record FindsBlock (lines : Lines) (after : ℕ) (rest : List Placed) (g : Got PartialLines) : Type 0 where
  pub partial : PartialLines
  pub following : ℕ
  pub same : plain_lines partial ≡ lines
  pub is : g ≡ got partial (on rest following after)

abbrev pub BlockRead : Around → ℕ → List Placed → Lines → ℕ → List Placed → Type 0
BlockRead around depth tokens lines after rest =
    (calls at : ℕ) → IsEnoughFor calls 1 tokens → most_open 0 tokens ≤ 200 → IsShallowLines lines → FindsBlock lines after rest (read_block calls around (on tokens at depth))

-- reading stops before the closing brace
pub brace_ends : (calls : ℕ) (around : Around) (leaves : Bool) (closing at depth : ℕ) (rest : List Placed) → IsEnoughFor calls 3 (mark closing (codes "}") ∷ rest) →
    read_lines calls around false leaves (on (mark closing (codes "}") ∷ rest) at depth) ≡ got (block_of no_rows leaves) (on (mark closing (codes "}") ∷ rest) at depth)
brace_ends zero around leaves closing at depth rest enough = absurd (omega arith)
brace_ends (suc calls) around leaves closing at depth rest enough = refl

pub block-complete : (around : Around) (depth after opening closing : ℕ) (tokens rest : List Placed) (lines : Lines) → LinesRead around false depth tokens lines after (mark closing (codes "}") ∷ rest) →
    BlockRead around depth (mark opening (codes "{") ∷ tokens) lines after rest
block-complete around depth after opening closing tokens rest lines read zero at enough few deep = absurd (omega arith)
block-complete around depth after opening closing tokens rest lines read (suc calls) at enough few deep =
    let within : most_open 0 tokens ≤ 200 = flat_after (Mark (codes "{")) 0 opening tokens refl few in
    let found = read calls (suc at) false (omega arith) within deep refl in
    let following = on (mark closing (codes "}") ∷ rest) found.following after in
    record {
      partial = found.partial;
      following = suc found.following;
      same = found.same;
      is = ap end_block (found.is ∙ ap (rows_before found.partial) (brace_ends found.calls around found.leaves closing found.following after rest found.enough))
          ∙ ap (λ rows. end_block (got (block_of rows found.leaves) following)) (joined_none found.partial);
    }

-- Tests.

pub deep_test : (e : Expr) (stmts : List Stmt) → (list_all (λ x. nat_le (expr_depth x) 200) (e ∷ []) && list_all (shallow_stmt 200) stmts) ≡ true → (expr_depth e ≤ 200) × (list_all (shallow_stmt 200) stmts ≡ true)
deep_test e stmts deep =
    let parts = and_parts (list_all (λ x. nat_le (expr_depth x) 200) (e ∷ [])) (list_all (shallow_stmt 200) stmts) deep in
    (leb-true (expr_depth e) 200 (and_parts (nat_le (expr_depth e) 200) true parts.0).0, parts.1)

pub while-complete : (around : Around) (depth after at opening closing : ℕ) (tokens block rest : List Placed) (e : Expr) (body : Lines) →
    IsExpr 0 tokens e (mark closing (codes ")") ∷ block) → BlockRead (in_loop around) depth block body after rest →
    StmtRead around depth (word at (codes "while") ∷ mark opening (codes "(") ∷ tokens) (While e body) after rest
while-complete around depth after at opening closing tokens block rest e body test read zero place enough few deep ends = absurd (omega arith)
while-complete around depth after at opening closing tokens block rest e body test read (suc calls) place enough few deep ends =
    let parts = deep_test e (stmts_in body) deep in
    let leads : Leads 1 0 0 (mark opening (codes "(") ∷ tokens) block = test_leads test in
    let within : most_open 0 (mark opening (codes "(") ∷ tokens) ≤ 200 = flat_after (WordToken (codes "while")) 0 at (mark opening (codes "(") ∷ tokens) refl few in
    let p = test-complete {opening = opening} test calls (suc place) depth (omega arith) within parts.0 in
    let q = read calls p.following (omega (arith, leads.less)) (leads.enclosed within) parts.1 in
    record {
      partial = WhileOf p.partial true q.partial;
      following = q.following;
      same = ap (λ x. While x (plain_lines q.partial)) p.same ∙ ap (While e) q.same;
      is = ap (λ t. while_of t (read_block calls (in_loop around) t.following)) p.is ∙ ap (while_of (got p.partial (on block p.following depth))) q.is;
    }

pub if_alone-complete : (around : Around) (depth after at opening closing : ℕ) (tokens block rest : List Placed) (e : Expr) (body : Lines) →
    IsExpr 0 tokens e (mark closing (codes ")") ∷ block) → BlockRead (in_block around) depth block body after rest →
    StmtRead around depth (word at (codes "if") ∷ mark opening (codes "(") ∷ tokens) (If e body no_lines) after rest
if_alone-complete around depth after at opening closing tokens block rest e body test read zero place enough few deep ends = absurd (omega arith)
if_alone-complete around depth after at opening closing tokens block rest e body test read (suc zero) place enough few deep ends = absurd (omega arith)
if_alone-complete around depth after at opening closing tokens block rest e body test read (suc (suc calls)) place enough few deep ends =
    let parts = deep_test e (stmts_in body ++ []) deep in
    let inner : IsShallowLines body × (true ≡ true) = and_parts _ true (sym (list_all-append (shallow_stmt 200) (stmts_in body) []) ∙ parts.1) in
    let leads : Leads 1 0 0 (mark opening (codes "(") ∷ tokens) block = test_leads test in
    let within : most_open 0 (mark opening (codes "(") ∷ tokens) ≤ 200 = flat_after (WordToken (codes "if")) 0 at (mark opening (codes "(") ∷ tokens) refl few in
    let p = test-complete {opening = opening} test (suc calls) (suc place) depth (omega arith) within parts.0 in
    let q = read calls p.following (omega (arith, leads.less)) (leads.enclosed within) inner.0 in
    let test_read : Got PartialExpr = got p.partial (on block p.following depth) in
    record {
      partial = IfOf p.partial true q.partial no_rows;
      following = q.following;
      same = ap (λ x. If x (plain_lines q.partial) no_lines) p.same ∙ ap (λ b. If e b no_lines) q.same;
      is = ap (read_if (suc calls) around) p.is
          ∙ (ap (λ (b : Got PartialLines). if sees_word (codes "else") b.following then if_of test_read b.value (read_block calls (in_block around) (skip b.following)) else if_of test_read b.value (got no_rows b.following)) q.is
          ∙ if-false (is_the_word (codes "else") (first_of rest)) _ _ ends);
    }

pub if_else-complete : (around : Around) (depth between after at opening closing other : ℕ) (tokens block second rest : List Placed) (e : Expr) (body otherwise : Lines) →
    IsExpr 0 tokens e (mark closing (codes ")") ∷ block) → Leads 1 0 0 block (word other (codes "else") ∷ second) →
    BlockRead (in_block around) depth block body between (word other (codes "else") ∷ second) → BlockRead (in_block around) between second otherwise after rest →
    StmtRead around depth (word at (codes "if") ∷ mark opening (codes "(") ∷ tokens) (If e body otherwise) after rest
if_else-complete around depth between after at opening closing other tokens block second rest e body otherwise test inner_leads read more zero place enough few deep ends = absurd (omega arith)
if_else-complete around depth between after at opening closing other tokens block second rest e body otherwise test inner_leads read more (suc zero) place enough few deep ends = absurd (omega arith)
if_else-complete around depth between after at opening closing other tokens block second rest e body otherwise test inner_leads read more (suc (suc calls)) place enough few deep ends =
    let parts = deep_test e (stmts_in body ++ stmts_in otherwise) deep in
    let inner : IsShallowLines body × IsShallowLines otherwise = and_parts _ _ (sym (list_all-append (shallow_stmt 200) (stmts_in body) (stmts_in otherwise)) ∙ parts.1) in
    let leads : Leads 1 0 0 (mark opening (codes "(") ∷ tokens) block = test_leads test in
    let within : most_open 0 (mark opening (codes "(") ∷ tokens) ≤ 200 = flat_after (WordToken (codes "if")) 0 at (mark opening (codes "(") ∷ tokens) refl few in
    let p = test-complete {opening = opening} test (suc calls) (suc place) depth (omega arith) within parts.0 in
    let q = read calls p.following (omega (arith, leads.less)) (leads.enclosed within) inner.0 in
    let last : most_open 0 second ≤ 200 = flat_after (WordToken (codes "else")) 0 other second refl (inner_leads.enclosed (leads.enclosed within)) in
    let o = more calls (suc q.following) (omega (arith, leads.less, inner_leads.less)) last inner.1 in
    let test_read : Got PartialExpr = got p.partial (on block p.following depth) in
    record {
      partial = IfOf p.partial true q.partial o.partial;
      following = o.following;
      same = ap (λ x. If x (plain_lines q.partial) (plain_lines o.partial)) p.same ∙ (ap (λ b. If e b (plain_lines o.partial)) q.same ∙ ap (If e body) o.same);
      is = ap (read_if (suc calls) around) p.is
          ∙ (ap (λ (b : Got PartialLines). if sees_word (codes "else") b.following then if_of test_read b.value (read_block calls (in_block around) (skip b.following)) else if_of test_read b.value (got no_rows b.following)) q.is
          ∙ ap (if_of test_read q.partial) o.is);
    }

pub do_while-complete : (around : Around) (depth after at again opening closing end : ℕ) (block tokens rest : List Placed) (body : Lines) (e : Expr) →
    Leads 1 0 0 block (word again (codes "while") ∷ mark opening (codes "(") ∷ tokens) → BlockRead (in_loop around) depth block body after (word again (codes "while") ∷ mark opening (codes "(") ∷ tokens) →
    IsExpr 0 tokens e (mark closing (codes ")") ∷ mark end (codes ";") ∷ rest) →
    StmtRead around depth (word at (codes "do") ∷ block) (DoWhile body e) after rest
do_while-complete around depth after at again opening closing end block tokens rest body e inner_leads read test zero place enough few deep ends = absurd (omega arith)
do_while-complete around depth after at again opening closing end block tokens rest body e inner_leads read test (suc calls) place enough few deep ends =
    let parts = deep_test e (stmts_in body) deep in
    let within : most_open 0 block ≤ 200 = flat_after (WordToken (codes "do")) 0 at block refl few in
    let q = read calls (suc place) (omega arith) within parts.1 in
    let few_after : most_open 0 (mark opening (codes "(") ∷ tokens) ≤ 200 = flat_after (WordToken (codes "while")) 0 again (mark opening (codes "(") ∷ tokens) refl (inner_leads.enclosed within) in
    let p = test-complete {opening = opening} test calls (suc q.following) after (omega (arith, inner_leads.less)) few_after parts.0 in
    record {
      partial = DoWhileOf q.partial p.partial true;
      following = suc p.following;
      same = ap (λ x. DoWhile x (plain_expr p.partial)) q.same ∙ ap (DoWhile body) p.same;
      is = ap (λ (b : Got PartialLines). do_while_of b (read_test calls (take_word (codes "while") b.following))) q.is ∙ ap (do_while_of (got q.partial (on (word again (codes "while") ∷ mark opening (codes "(") ∷ tokens) q.following after))) p.is;
    }

pub for-complete : (around : Around) (depth after : ℕ) (all block rest : List Placed) (body : Lines) →
    Begins all (WordToken (codes "for") ∷ Mark (codes "(") ∷ Mark (codes ";") ∷ Mark (codes ";") ∷ Mark (codes ")") ∷ []) block → Leads 1 0 0 all block →
    BlockRead (in_loop around) depth block body after rest → StmtRead around depth all (Forever body) after rest
for-complete around depth after _ block rest body (one (one (one (one (one none))))) leads read zero place enough few deep ends = absurd (omega arith)
for-complete around depth after _ block rest body (one (one (one (one (one none))))) leads read (suc calls) place enough few deep ends =
    let q = read calls (suc (suc (suc (suc (suc place))))) (omega arith) (leads.enclosed few) deep in
    record {
      partial = ForeverOf q.partial;
      following = q.following;
      same = ap Forever q.same;
      is = ap (λ (b : Got PartialLines). got (ForeverOf b.value) b.following) q.is;
    }

-- Short statements.

pub leave-complete : (around : Around) (depth at end : ℕ) (rest : List Placed) → around.breaks ≡ true →
    StmtRead around depth (word at (codes "break") ∷ mark end (codes ";") ∷ rest) Break depth rest
leave-complete around depth at end rest allowed zero place enough few deep ends = absurd (omega arith)
leave-complete around depth at end rest allowed (suc calls) place enough few deep ends =
    record { partial = BreakOf; following = suc (suc place); same = refl; is = ap (λ b. read_leave b BreakOf (on (word at (codes "break") ∷ mark end (codes ";") ∷ rest) place depth)) allowed }

pub continue-complete : (around : Around) (depth at end : ℕ) (rest : List Placed) → around.continues ≡ true →
    StmtRead around depth (word at (codes "continue") ∷ mark end (codes ";") ∷ rest) Continue depth rest
continue-complete around depth at end rest allowed zero place enough few deep ends = absurd (omega arith)
continue-complete around depth at end rest allowed (suc calls) place enough few deep ends =
    record { partial = ContinueOf; following = suc (suc place); same = refl; is = ap (λ b. read_leave b ContinueOf (on (word at (codes "continue") ∷ mark end (codes ";") ∷ rest) place depth)) allowed }

pub goto-complete : (around : Around) (depth at place_at end : ℕ) (rest : List Placed) (name : Word) → is_name name ≡ true →
    StmtRead around depth (word at (codes "goto") ∷ word place_at name ∷ mark end (codes ";") ∷ rest) (Goto name) depth rest
goto-complete around depth at place_at end rest name good zero place enough few deep ends = absurd (omega arith)
goto-complete around depth at place_at end rest name good (suc calls) place enough few deep ends =
    record {
      partial = GotoOf (Some (record { word = name; at = suc place }));
      following = suc (suc (suc place));
      same = refl;
      is = ap (λ (g : Got (Option WordAt)). got (GotoOf g.value) (take_mark (codes ";") g.following)) (take_name-is place_at (suc place) depth name (mark end (codes ";") ∷ rest) good);
    }

pub empty-complete : (around : Around) (depth end : ℕ) (rest : List Placed) → StmtRead around depth (mark end (codes ";") ∷ rest) Empty depth rest
empty-complete around depth end rest zero place enough few deep ends = absurd (omega arith)
empty-complete around depth end rest (suc calls) place enough few deep ends = record { partial = EmptyOf; following = suc place; same = refl; is = refl }

pub return_nothing-complete : (around : Around) (depth at end : ℕ) (rest : List Placed) → StmtRead around depth (word at (codes "return") ∷ mark end (codes ";") ∷ rest) (Return None) depth rest
return_nothing-complete around depth at end rest zero place enough few deep ends = absurd (omega arith)
return_nothing-complete around depth at end rest (suc calls) place enough few deep ends = record { partial = ReturnOf None true; following = suc (suc place); same = refl; is = refl }

pub return_value-complete : (around : Around) (depth at end : ℕ) (tokens rest : List Placed) (e : Expr) → IsExpr 0 tokens e (mark end (codes ";") ∷ rest) →
    StmtRead around depth (word at (codes "return") ∷ tokens) (Return (Some e)) depth rest
return_value-complete around depth at end tokens rest e value zero place enough few deep ends = absurd (omega arith)
return_value-complete around depth at end tokens rest e value (suc calls) place enough few deep ends =
    let within : most_open 0 tokens ≤ 200 = flat_after (WordToken (codes "return")) 0 at tokens refl few in
    let v = value-complete value calls (suc place) depth (omega arith) within (deep_test e [] deep).0 in
    record {
      partial = ReturnOf (Some v.partial) true;
      following = suc v.following;
      same = ap (λ x. Return (Some x)) v.same;
      is = if-false (is_the_mark (codes ";") (first_of tokens)) _ _ (expr_no_mark (codes ";") refl no_semicolon value)
          ∙ ap (λ (g : Got PartialExpr). got (ReturnOf (Some g.value) (not (is_stopped (take_mark (codes ";") g.following)))) (take_mark (codes ";") g.following)) v.is;
    }
