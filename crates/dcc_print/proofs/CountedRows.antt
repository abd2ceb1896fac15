-- How many lines statements take in which no name and no expression has a line feed.
use Rattle.std.proofs.Common.{◌≡◌, ℕ, suc, ◌+◌, ◌≤◌, ◌<◌, Bool, true, false, List, [], ◌∷◌, ◌++◌, length, None, Some, refl, ap, sym, ◌∙◌, subst, arith, get_or}
use Rattle.std.specs.Prelude.{codes, if◌then◌else◌}
use Rattle.std.specs.Fmt.{decimal}
use Rattle.std.specs.List.{list_all}
use Rattle.std.proofs.lemmas.Bool.{and_parts, eqb-true, eq-eqb, ne_eqb}
use Rattle.dcc_c.specs.Tree.{Word, Expr, Stmt, Assign, Call, If, While, DoWhile, Forever, Switch, Break, Continue, Goto, Label, Empty, Return, Lines, no_lines, line, Arms, no_arms, arm}
use Rattle.dcc_c.specs.Parts.{stmts_in, inner_stmts, exprs_of}
use Rattle.dcc_c.specs.Written.{indented, depth_after, next_depth, written_depth, written_expr, written_arguments, written_test, written_else, written_call, written_cases, written_stmt, written_lines, written_arms, written_default}
use Rattle.dcc_c.specs.Numbered.{rows}
use Rattle.dcc_c.proofs.WrittenRows.{rows-append, decimal_flat, indentation_flat, lines_rows, arms_rows, default_rows}
use Rattle.dcc_print.specs.Unbroken.{is_unbroken, words_of, is_unbroken_stmt}

-- a part without a line feed before another
flat-then : (a b : Word) → rows a ≡ 0 → rows (a ++ b) ≡ rows b
flat-then a b flat = rows-append a b ∙ rw flat (omega arith)

line-row : (bytes : Word) → rows (indented 1 bytes) ≡ rows bytes
line-row bytes = indentation_flat 1 bytes

-- the pragma that changes the depth
pub pragma-none : (depth next : ℕ) → depth ≡ next → rows (written_depth depth next) ≡ 0
pragma-none depth next same = ap (λ differ. rows (if differ then [] else codes "#pragma dcc depth " ++ (decimal next ++ codes "\n"))) (eq-eqb depth next same)

pub pragma-one : (depth next : ℕ) → (depth ≡ next → ⊥) → next ≤ 4294967295 → rows (written_depth depth next) ≡ 1
pragma-one depth next differ small =
    ap (λ same. rows (if same then [] else codes "#pragma dcc depth " ++ (decimal next ++ codes "\n"))) (ne_eqb depth next differ)
    ∙ flat-then (decimal next) (codes "\n") (decimal_flat next small)

-- the cases of an arm
pub cases-count : (cases : List ℕ) → ((k : ℕ) → get_or cases k 0 < 65536) → rows (written_cases 1 cases) ≡ length cases
cases-count [] small = refl
cases-count (n ∷ cases) small =
    let here : n < 65536 = small 0 in
    let case_line : rows (indented 1 (codes "case " ++ (decimal n ++ codes ":\n"))) ≡ 1 =
    line-row (codes "case " ++ (decimal n ++ codes ":\n")) ∙ flat-then (decimal n) (codes ":\n") (decimal_flat n (omega arith)) in
    let others : rows (written_cases 1 cases) ≡ length cases = cases-count cases (λ k. small (suc k)) in
    rows-append (indented 1 (codes "case " ++ (decimal n ++ codes ":\n"))) (written_cases 1 cases) ∙ omega (arith, case_line, others)

-- The first and last lines of statements with blocks.

test-row : (name : Word) (e : Expr) → rows name ≡ 0 → rows (written_expr e) ≡ 0 → rows (indented 1 (written_test name e)) ≡ 1
test-row name e named flat =
    indentation_flat 1 (written_test name e)
    ∙ flat-then name (codes " (" ++ (written_expr e ++ codes ") {\n")) named
    ∙ flat-then (written_expr e) (codes ") {\n") flat

-- the else part of an `if`
else-same : (otherwise : Lines) (a b : Word) → rows a ≡ rows b → rows (written_else 1 otherwise a) ≡ rows (written_else 1 otherwise b)
else-same no_lines a b same = refl
else-same (line stmt at lines) a b same =
    let head = indented 1 (codes "} else {\n") in
    rows-append head a ∙ ap (λ n. rows head + n) same ∙ sym (rows-append head b)

pub else-count : (stmt : Stmt) (at : ℕ) (lines : Lines) (block : Word) → rows (written_else 1 (line stmt at lines) block) ≡ rows block + 1
else-count stmt at lines block =
    rows-append (indented 1 (codes "} else {\n")) block ∙ rw (line-row (codes "} else {\n")) (omega arith)

-- Statements with blocks.

three-parts : (a b c : Word) → rows (a ++ (b ++ c)) ≡ rows a + (rows b + rows c)
three-parts a b c = rows-append a (b ++ c) ∙ ap (λ n. rows a + n) (rows-append b c)

four-parts : (a b c d : Word) → rows (a ++ (b ++ (c ++ d))) ≡ rows a + (rows b + (rows c + rows d))
four-parts a b c d = rows-append a (b ++ (c ++ d)) ∙ ap (λ n. rows a + n) (three-parts b c d)

pub if-count : (depth : ℕ) (e : Expr) (body otherwise : Lines) → rows (written_expr e) ≡ 0 →
    rows (written_stmt 1 depth (If e body otherwise))
    ≡ rows (written_lines 1 depth body) + 2 + rows (written_else 1 otherwise (written_lines 1 (depth_after depth (stmts_in body)) otherwise))
if-count depth e body otherwise flat =
    let middle = depth_after depth (stmts_in body) in
    let head = indented 1 (written_test (codes "if") e) in
    let inner = written_lines (1 + 1) depth body in
    let second = written_else 1 otherwise (written_lines (1 + 1) middle otherwise) in
    let end = indented 1 (codes "}\n") in
    let a : rows head ≡ 1 = test-row (codes "if") e refl flat in
    let b : rows inner ≡ rows (written_lines 1 depth body) = (lines_rows (1 + 1) 1 depth body).same in
    let c : rows second ≡ rows (written_else 1 otherwise (written_lines 1 middle otherwise)) = else-same otherwise _ _ (lines_rows (1 + 1) 1 middle otherwise).same in
    let d : rows end ≡ 1 = line-row (codes "}\n") in
    four-parts head inner second end ∙ omega (arith, a, b, c, d)

pub while-count : (depth : ℕ) (e : Expr) (body : Lines) → rows (written_expr e) ≡ 0 →
    rows (written_stmt 1 depth (While e body)) ≡ rows (written_lines 1 depth body) + 2
while-count depth e body flat =
    let head = indented 1 (written_test (codes "while") e) in
    let inner = written_lines (1 + 1) depth body in
    let end = indented 1 (codes "}\n") in
    let a : rows head ≡ 1 = test-row (codes "while") e refl flat in
    let b : rows inner ≡ rows (written_lines 1 depth body) = (lines_rows (1 + 1) 1 depth body).same in
    let d : rows end ≡ 1 = line-row (codes "}\n") in
    three-parts head inner end ∙ omega (arith, a, b, d)

pub do_while-count : (depth : ℕ) (e : Expr) (body : Lines) → rows (written_expr e) ≡ 0 →
    rows (written_stmt 1 depth (DoWhile body e)) ≡ rows (written_lines 1 depth body) + 2
do_while-count depth e body flat =
    let head = indented 1 (codes "do {\n") in
    let inner = written_lines (1 + 1) depth body in
    let end = indented 1 (codes "} while (" ++ (written_expr e ++ codes ");\n")) in
    let a : rows head ≡ 1 = line-row (codes "do {\n") in
    let b : rows inner ≡ rows (written_lines 1 depth body) = (lines_rows (1 + 1) 1 depth body).same in
    let d : rows end ≡ 1 = line-row (codes "} while (" ++ (written_expr e ++ codes ");\n")) ∙ flat-then (written_expr e) (codes ");\n") flat in
    three-parts head inner end ∙ omega (arith, a, b, d)

pub forever-count : (depth : ℕ) (body : Lines) → rows (written_stmt 1 depth (Forever body)) ≡ rows (written_lines 1 depth body) + 2
forever-count depth body =
    let head = indented 1 (codes "for (;;) {\n") in
    let inner = written_lines (1 + 1) depth body in
    let end = indented 1 (codes "}\n") in
    let a : rows head ≡ 1 = line-row (codes "for (;;) {\n") in
    let b : rows inner ≡ rows (written_lines 1 depth body) = (lines_rows (1 + 1) 1 depth body).same in
    let d : rows end ≡ 1 = line-row (codes "}\n") in
    three-parts head inner end ∙ omega (arith, a, b, d)

pub switch-count : (depth : ℕ) (e : Expr) (arms last : Arms) → rows (written_expr e) ≡ 0 →
    rows (written_stmt 1 depth (Switch e arms last))
    ≡ rows (written_arms 1 depth arms) + 2 + rows (written_default 1 (depth_after depth (inner_stmts (Switch e arms no_arms))) last)
switch-count depth e arms last flat =
    let middle = depth_after depth (inner_stmts (Switch e arms no_arms)) in
    let head = indented 1 (written_test (codes "switch") e) in
    let inner = written_arms (1 + 1) depth arms in
    let second = written_default (1 + 1) middle last in
    let end = indented 1 (codes "}\n") in
    let a : rows head ≡ 1 = test-row (codes "switch") e refl flat in
    let b : rows inner ≡ rows (written_arms 1 depth arms) = (arms_rows (1 + 1) 1 depth arms).same in
    let c : rows second ≡ rows (written_default 1 middle last) = (default_rows (1 + 1) 1 middle last).same in
    let d : rows end ≡ 1 = line-row (codes "}\n") in
    four-parts head inner second end ∙ omega (arith, a, b, c, d)

pub default-count : (depth : ℕ) (cases : List ℕ) (body : Lines) → rows (written_default 1 depth (arm cases body no_arms)) ≡ rows (written_lines 1 depth body) + 2
default-count depth cases body =
    let head = indented 1 (codes "default:\n") in
    let inner = written_lines 1 depth body in
    let end = indented 1 (codes "break;\n") in
    let a : rows head ≡ 1 = line-row (codes "default:\n") in
    let d : rows end ≡ 1 = line-row (codes "break;\n") in
    three-parts head inner end ∙ omega (arith, a, d)

pub arm-count : (depth : ℕ) (cases : List ℕ) (body : Lines) (arms : Arms) →
    rows (written_arms 1 depth (arm cases body arms))
    ≡ rows (written_cases 1 cases) + rows (written_lines 1 depth body) + 1 + rows (written_arms 1 (depth_after depth (stmts_in body)) arms)
arm-count depth cases body arms =
    let head = written_cases 1 cases in
    let inner = written_lines 1 depth body in
    let end = indented 1 (codes "break;\n") in
    let others = written_arms 1 (depth_after depth (stmts_in body)) arms in
    let d : rows end ≡ 1 = line-row (codes "break;\n") in
    four-parts head inner end others ∙ omega (arith, d)

pub lines-count : (depth : ℕ) (stmt : Stmt) (at : ℕ) (lines : Lines) →
    let own = next_depth depth (line stmt at lines) in
    rows (written_lines 1 depth (line stmt at lines))
    ≡ rows (written_depth depth own) + (rows (written_stmt 1 own stmt) + rows (written_lines 1 (depth_after own (stmt ∷ inner_stmts stmt)) lines))
lines-count depth stmt at lines =
    let own = next_depth depth (line stmt at lines) in
    three-parts (written_depth depth own) (written_stmt 1 own stmt) (written_lines 1 (depth_after own (stmt ∷ inner_stmts stmt)) lines)

-- Statements without blocks.

arguments-flat : (arguments : List Expr) → list_all (λ e. is_unbroken (written_expr e)) arguments ≡ true → rows (written_arguments arguments) ≡ 0
arguments-flat [] flat = refl
arguments-flat (e ∷ []) flat = eqb-true (rows (written_expr e)) 0 (and_parts (is_unbroken (written_expr e)) true flat).0
arguments-flat (e ∷ f ∷ es) flat =
    let (first, others) = and_parts (is_unbroken (written_expr e)) (list_all (λ e. is_unbroken (written_expr e)) (f ∷ es)) flat in
    flat-then (written_expr e) (codes ", " ++ written_arguments (f ∷ es)) (eqb-true (rows (written_expr e)) 0 first)
    ∙ arguments-flat (f ∷ es) others

call-row : (function : Word) (arguments : List Expr) → rows function ≡ 0 → list_all (λ e. is_unbroken (written_expr e)) arguments ≡ true → rows (written_call function arguments) ≡ 1
call-row function arguments named flat =
    flat-then function (codes "(" ++ (written_arguments arguments ++ codes ");\n")) named
    ∙ flat-then (written_arguments arguments) (codes ");\n") (arguments-flat arguments flat)

abbrev pub has_block : Stmt → Bool
has_block (If e body otherwise) = true
has_block (While e body) = true
has_block (DoWhile body e) = true
has_block (Forever body) = true
has_block (Switch e arms last) = true
has_block _ = false

-- a word, or an expression, that has no line feed
flat-word : (word : Word) → list_all is_unbroken (word ∷ []) ≡ true → rows word ≡ 0
flat-word word is = eqb-true (rows word) 0 (and_parts (is_unbroken word) true is).0

flat-exprs : (e : Expr) (es : List Expr) → list_all (λ e. is_unbroken (written_expr e)) (e ∷ es) ≡ true → (rows (written_expr e) ≡ 0) × (list_all (λ e. is_unbroken (written_expr e)) es ≡ true)
flat-exprs e es is =
    let (first, others) = and_parts (is_unbroken (written_expr e)) (list_all (λ e. is_unbroken (written_expr e)) es) is in
    (eqb-true (rows (written_expr e)) 0 first, others)

stmt-parts : (stmt : Stmt) → is_unbroken_stmt stmt ≡ true → (list_all (λ e. is_unbroken (written_expr e)) (exprs_of stmt) ≡ true) × (list_all is_unbroken (words_of stmt) ≡ true)
stmt-parts stmt is = and_parts (list_all (λ e. is_unbroken (written_expr e)) (exprs_of stmt)) (list_all is_unbroken (words_of stmt)) is

-- the value that a statement with a block tests, where it tests one
pub test-flat : (stmt : Stmt) (e : Expr) → is_unbroken_stmt stmt ≡ true → exprs_of stmt ≡ e ∷ [] → rows (written_expr e) ≡ 0
test-flat stmt e is tests =
    (flat-exprs e [] (subst (λ es. list_all (λ e. is_unbroken (written_expr e)) es ≡ true) tests (stmt-parts stmt is).0)).0

pub own-count : (depth : ℕ) (stmt : Stmt) → is_unbroken_stmt stmt ≡ true → has_block stmt ≡ false → rows (written_stmt 1 depth stmt) ≡ 1
own-count depth (Assign place e) is none =
    let (first, others) = flat-exprs place (e ∷ []) (stmt-parts (Assign place e) is).0 in
    let second = (flat-exprs e [] others).0 in
    line-row (written_expr place ++ (codes " = " ++ (written_expr e ++ codes ";\n")))
    ∙ flat-then (written_expr place) (codes " = " ++ (written_expr e ++ codes ";\n")) first
    ∙ flat-then (written_expr e) (codes ";\n") second
own-count depth (Call None function arguments own) is none =
    let (exprs, words) = stmt-parts (Call None function arguments own) is in
    line-row (written_call function arguments) ∙ call-row function arguments (flat-word function words) exprs
own-count depth (Call (Some place) function arguments own) is none =
    let (exprs, words) = stmt-parts (Call (Some place) function arguments own) is in
    let (first, others) = flat-exprs place arguments exprs in
    line-row (written_expr place ++ (codes " = " ++ written_call function arguments))
    ∙ flat-then (written_expr place) (codes " = " ++ written_call function arguments) first
    ∙ call-row function arguments (flat-word function words) others
own-count depth Break is none = line-row (codes "break;\n")
own-count depth Continue is none = line-row (codes "continue;\n")
own-count depth (Goto word) is none =
    line-row (codes "goto " ++ (word ++ codes ";\n")) ∙ flat-then word (codes ";\n") (flat-word word (stmt-parts (Goto word) is).1)
own-count depth (Label word) is none =
    indentation_flat 0 (word ++ codes ":\n") ∙ flat-then word (codes ":\n") (flat-word word (stmt-parts (Label word) is).1)
own-count depth Empty is none = line-row (codes ";\n")
own-count depth (Return None) is none = line-row (codes "return;\n")
own-count depth (Return (Some e)) is none =
    line-row (codes "return " ++ (written_expr e ++ codes ";\n"))
    ∙ flat-then (written_expr e) (codes ";\n") (flat-exprs e [] (stmt-parts (Return (Some e)) is).0).0
own-count depth stmt is none = absurd cc
