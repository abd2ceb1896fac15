-- The written form of a tree with shallow statements has at most 200 open parentheses at each token.
use Rattle.std.proofs.Common.{◌≡◌, ℕ, ◌+◌, ◌≤◌, Bool, true, false, ◌&&◌, if◌then◌else◌, List, [], ◌∷◌, ◌++◌, length, Option, Some, None, refl, sym, ◌∙◌, arith}
use Rattle.std.specs.Prelude.{codes, ◌==◌}
use Rattle.std.specs.List.{list_all}
use Rattle.std.proofs.lemmas.Bool.{and_parts}
use Rattle.std.proofs.lemmas.List.Folds.{list_all-append}
use Rattle.dcc_c.specs.declared.syntax.CType.{CType}
use Rattle.dcc_c.specs.declared.syntax.Class.{Class}
use Rattle.dcc_c.specs.declared.syntax.Class.TheVariants.{Plain, Auto, Register}
use Rattle.dcc_c.specs.Token.{WordToken, Decimal, Mark, Pragma, plain_number, version_line, stack_line, depth_line, place_line}
use Rattle.dcc_c.specs.Lexing.{placed}
use Rattle.dcc_c.specs.Tree.{Word, Expr, Stmt, Assign, Call, If, While, DoWhile, Forever, Switch, Break, Continue, Goto, Label, Empty, Return, Lines, no_lines, line, Arms, no_arms, arm, Global, Variable, Function, Tree}
use Rattle.dcc_c.specs.Placement.{after_global}
use Rattle.dcc_c.specs.Parts.{stmts_in, inner_stmts, arm_stmts}
use Rattle.dcc_c.specs.Grammar.{word, mark}
use Rattle.dcc_c.specs.Written.{depth_after, next_depth, written_lines, written_place, written_globals}
use Rattle.dcc_c.specs.Numbered.{rows, numbered_function}
use Rattle.dcc_c.specs.Rules.{shallow_stmt, most_open, AreAllowed, no_more, one_more}
use Rattle.dcc_c.proofs.Writable.{IsWritable}
use Rattle.dcc_c.proofs.WrittenTokens.{expr_tokens, depth_tokens, test_tokens, cases_tokens, stmt_tokens, lines_tokens, arms_tokens, default_tokens, variable_tokens, size_tokens, class_tokens, locals_tokens, param_tokens, some_params_tokens, params_tokens, head_tokens, function_tokens, functions_tokens, numbers_tokens, initial_tokens, global_tokens, place_tokens, globals_tokens, tree_tokens}
use Rattle.dcc_c.proofs.ShallowLaws.{Within, KeepsTo, Keeps, flat_open, flat_keeps, enclosed_open, type_open, is_shallow, shallow_open, expr_keeps, call_keeps}

-- no expression of the statements is too deep
abbrev are_shallow : List Stmt → Type 0
are_shallow stmts = list_all (shallow_stmt 200) stmts ≡ true

both_shallow : (first second : List Stmt) → are_shallow (first ++ second) → are_shallow first × are_shallow second
both_shallow first second shallow =
    and_parts _ _ (sym (list_all-append (shallow_stmt 200) first second) ∙ shallow)

abbrev ShallowStmt : Stmt → Type 0
ShallowStmt stmt = (depth at : ℕ) → are_shallow (stmt ∷ inner_stmts stmt) → Keeps (stmt_tokens depth at stmt)

abbrev ShallowLines : Lines → Type 0
ShallowLines lines = (depth at : ℕ) → are_shallow (stmts_in lines) → Keeps (lines_tokens depth at lines)

abbrev ShallowArms : Arms → Type 0
ShallowArms arms = (depth at : ℕ) → are_shallow (arm_stmts arms) → Keeps (arms_tokens depth at arms)

abbrev ShallowDefault : Arms → Type 0
ShallowDefault arms = (depth first second : ℕ) → are_shallow (arm_stmts arms) → Keeps (default_tokens depth first second arms)

-- a word, and a mark that is no parenthesis
word_keeps : (at : ℕ) (bytes : Word) → Keeps (λ rest. word at bytes ∷ rest)
word_keeps at bytes others h = flat_keeps (WordToken bytes) refl at others h

number_keeps : (at n : ℕ) → Keeps (λ rest. placed at (Decimal n plain_number) ∷ rest)
number_keeps at n others h = flat_keeps (Decimal n plain_number) refl at others h

semicolon_keeps : (at : ℕ) → Keeps (λ rest. mark at (codes ";") ∷ rest)
semicolon_keeps at others h = flat_keeps (Mark (codes ";")) refl at others h

opening_keeps : (at : ℕ) → Keeps (λ rest. mark at (codes "{") ∷ rest)
opening_keeps at others h = flat_keeps (Mark (codes "{")) refl at others h

closing_keeps : (at : ℕ) → Keeps (λ rest. mark at (codes "}") ∷ rest)
closing_keeps at others h = flat_keeps (Mark (codes "}")) refl at others h

equals_keeps : (at : ℕ) → Keeps (λ rest. mark at (codes "=") ∷ rest)
equals_keeps at others h = flat_keeps (Mark (codes "=")) refl at others h

colon_keeps : (at : ℕ) → Keeps (λ rest. mark at (codes ":") ∷ rest)
colon_keeps at others h = flat_keeps (Mark (codes ":")) refl at others h

comma_keeps : (at : ℕ) → Keeps (λ rest. mark at (codes ",") ∷ rest)
comma_keeps at others h = flat_keeps (Mark (codes ",")) refl at others h

-- a number with the words of a pragma before it
depth_pragma_keeps : (at n : ℕ) → Keeps (λ rest. placed at (Pragma depth_line) ∷ placed at (Decimal n plain_number) ∷ rest)
depth_pragma_keeps at n others h = flat_keeps (Pragma depth_line) refl at _ (number_keeps at n others h)

place_pragma_keeps : (at n : ℕ) → Keeps (λ rest. placed at (Pragma place_line) ∷ placed at (Decimal n plain_number) ∷ rest)
place_pragma_keeps at n others h = flat_keeps (Pragma place_line) refl at _ (number_keeps at n others h)

-- a shallow expression in the parentheses of a statement
tested_keeps : (e : Expr) → is_shallow e ≡ true → (at : ℕ) → Keeps (λ rest. mark at (codes "(") ∷ expr_tokens at e (mark at (codes ")") ∷ rest))
tested_keeps e shallow at others h = enclosed_open 0 at (expr_tokens at e) (omega arith) (shallow_open e shallow at) 0 (omega arith) others h

test_keeps : (name : Word) (e : Expr) → is_shallow e ≡ true → (at : ℕ) → Keeps (test_tokens at name e)
test_keeps name e shallow at others h = word_keeps at name _ (tested_keeps e shallow at _ (opening_keeps at others h))

-- the statement's one expression
only_shallow : (e : Expr) (stmt : Stmt) (inside : List Stmt) → shallow_stmt 200 stmt ≡ (is_shallow e && true) → are_shallow (stmt ∷ inside) → (is_shallow e ≡ true) × are_shallow inside
only_shallow e stmt inside is shallow =
    let (first, others) = and_parts (shallow_stmt 200 stmt) (list_all (shallow_stmt 200) inside) shallow in
    ((and_parts (is_shallow e) true (sym is ∙ first)).0, others)

assign_keeps : (place e : Expr) → ShallowStmt (Assign place e)
assign_keeps place e depth at shallow others h =
    let here = (and_parts (is_shallow place && (is_shallow e && true)) true shallow).0 in
    let (first, second) = and_parts (is_shallow place) (is_shallow e && true) here in
    expr_keeps place first at _ (equals_keeps at _ (expr_keeps e (and_parts (is_shallow e) true second).0 at _ (semicolon_keeps at others h)))

call_within : (place : Option Expr) (function : Word) (arguments : List Expr) (own : ℕ) → ShallowStmt (Call place function arguments own)
call_within None function arguments own depth at shallow others h =
    call_keeps function arguments (and_parts (list_all is_shallow arguments) true shallow).0 at others h
call_within (Some place) function arguments own depth at shallow others h =
    let here = (and_parts (is_shallow place && list_all is_shallow arguments) true shallow).0 in
    let (first, second) = and_parts (is_shallow place) (list_all is_shallow arguments) here in
    expr_keeps place first at _ (equals_keeps at _ (call_keeps function arguments second at others h))

return_keeps : (e : Option Expr) → ShallowStmt (Return e)
return_keeps None depth at shallow others h = word_keeps at _ _ (semicolon_keeps at others h)
return_keeps (Some e) depth at shallow others h =
    word_keeps at _ _ (expr_keeps e (only_shallow e (Return (Some e)) [] refl shallow).0 at _ (semicolon_keeps at others h))

if_keeps : (e : Expr) (body otherwise : Lines) → ShallowLines body → ShallowLines otherwise → ShallowStmt (If e body otherwise)
if_keeps e body no_lines first second depth at shallow others h =
    let (tested, inside) = only_shallow e (If e body no_lines) (stmts_in body ++ []) refl shallow in
    let (in_body, in_else) = both_shallow (stmts_in body) [] inside in
    test_keeps (codes "if") e tested at _ (first depth (at + 1) in_body _ (closing_keeps _ others h))
if_keeps e body (line stmt was lines) first second depth at shallow others h =
    let otherwise : Lines = line stmt was lines in
    let (tested, inside) = only_shallow e (If e body otherwise) (stmts_in body ++ stmts_in otherwise) refl shallow in
    let (in_body, in_else) = both_shallow (stmts_in body) (stmts_in otherwise) inside in
    let following = second (depth_after depth (stmts_in body)) (at + 2 + rows (written_lines 1 depth body)) in_else _ (closing_keeps _ others h) in
    test_keeps (codes "if") e tested at _ (first depth (at + 1) in_body _ (closing_keeps _ _ (word_keeps _ _ _ (opening_keeps _ _ following))))

while_keeps : (e : Expr) (body : Lines) → ShallowLines body → ShallowStmt (While e body)
while_keeps e body first depth at shallow others h =
    let (tested, inside) = only_shallow e (While e body) (stmts_in body) refl shallow in
    test_keeps (codes "while") e tested at _ (first depth (at + 1) inside _ (closing_keeps _ others h))

do_keeps : (body : Lines) (e : Expr) → ShallowLines body → ShallowStmt (DoWhile body e)
do_keeps body e first depth at shallow others h =
    let (tested, inside) = only_shallow e (DoWhile body e) (stmts_in body) refl shallow in
    let following = tested_keeps e tested (at + 1 + rows (written_lines 1 depth body)) _ (semicolon_keeps _ others h) in
    word_keeps at _ _ (opening_keeps at _ (first depth (at + 1) inside _ (closing_keeps _ _ (word_keeps _ _ _ following))))

ever_keeps : (body : Lines) → ShallowLines body → ShallowStmt (Forever body)
ever_keeps body first depth at shallow others h =
    let inner : KeepsTo 1 (λ rest. mark at (codes ";") ∷ mark at (codes ";") ∷ rest) =
    λ k small rest within. flat_open (Mark (codes ";")) refl k at (omega arith) _ (flat_open (Mark (codes ";")) refl k at (omega arith) rest within) in
    let block = opening_keeps at _ (first depth (at + 1) shallow _ (closing_keeps _ others h)) in
    word_keeps at _ _ (enclosed_open 0 at (λ rest. mark at (codes ";") ∷ mark at (codes ";") ∷ rest) (omega arith) inner 0 (omega arith) _ block)

switch_keeps : (e : Expr) (arms last : Arms) → ShallowArms arms → ShallowDefault last → ShallowStmt (Switch e arms last)
switch_keeps e arms last first second depth at shallow others h =
    let (tested, inside) = only_shallow e (Switch e arms last) (arm_stmts arms ++ arm_stmts last) refl shallow in
    let (in_arms, in_last) = both_shallow (arm_stmts arms) (arm_stmts last) inside in
    test_keeps (codes "switch") e tested at _ (first depth (at + 1) in_arms _ (second _ _ _ in_last _ (closing_keeps _ others h)))

depth_keeps : (at depth own : ℕ) → Keeps (depth_tokens at depth own)
depth_keeps at depth own others h = by_test (depth == own)
  where
    by_test : (same : Bool) → Within 0 (if same then others else placed at (Pragma depth_line) ∷ placed at (Decimal own plain_number) ∷ others)
    by_test true = h
    by_test false = depth_pragma_keeps at own others h

line_keeps : (stmt : Stmt) (was : ℕ) (lines : Lines) → ShallowStmt stmt → ShallowLines lines → ShallowLines (line stmt was lines)
line_keeps stmt was lines first later depth at shallow others h =
    let (here, following) = both_shallow (stmt ∷ inner_stmts stmt) (stmts_in lines) shallow in
    depth_keeps at depth (next_depth depth (line stmt was lines)) _ (first _ _ here _ (later _ _ following others h))

cases_keep : (cases : List ℕ) (at : ℕ) → Keeps (cases_tokens at cases)
cases_keep [] at others h = h
cases_keep (n ∷ cases) at others h =
    word_keeps at _ _ (number_keeps at n _ (colon_keeps at _ (cases_keep cases (at + 1) others h)))

arm_keeps : (cases : List ℕ) (body : Lines) (arms : Arms) → ShallowLines body → ShallowArms arms → ShallowArms (arm cases body arms)
arm_keeps cases body arms first later depth at shallow others h =
    let (in_body, in_arms) = both_shallow (stmts_in body) (arm_stmts arms) shallow in
    cases_keep cases at _ (first _ _ in_body _ (word_keeps _ _ _ (semicolon_keeps _ _ (later _ _ in_arms others h))))

default_keeps : (cases : List ℕ) (body : Lines) (arms : Arms) → ShallowLines body → ShallowDefault (arm cases body arms)
default_keeps cases body arms inner depth first second shallow others h =
    let (in_body, in_arms) = both_shallow (stmts_in body) (arm_stmts arms) shallow in
    word_keeps first _ _ (colon_keeps first _ (inner depth second in_body _ (word_keeps _ _ _ (semicolon_keeps _ others h))))

mutual
  stmt_keeps : (stmt : Stmt) → ShallowStmt stmt
  stmt_keeps (Assign place e) = assign_keeps place e
  stmt_keeps (Call place function arguments own) = call_within place function arguments own
  stmt_keeps (If e body otherwise) = if_keeps e body otherwise (lines_keep body) (lines_keep otherwise)
  stmt_keeps (While e body) = while_keeps e body (lines_keep body)
  stmt_keeps (DoWhile body e) = do_keeps body e (lines_keep body)
  stmt_keeps (Forever body) = ever_keeps body (lines_keep body)
  stmt_keeps (Switch e arms last) = switch_keeps e arms last (arms_keep arms) (last_keeps last)
  stmt_keeps Break = λ depth at shallow others h. word_keeps at _ _ (semicolon_keeps at others h)
  stmt_keeps Continue = λ depth at shallow others h. word_keeps at _ _ (semicolon_keeps at others h)
  stmt_keeps (Goto name) = λ depth at shallow others h. word_keeps at _ _ (word_keeps at _ _ (semicolon_keeps at others h))
  stmt_keeps (Label name) = λ depth at shallow others h. word_keeps at _ _ (colon_keeps at others h)
  stmt_keeps Empty = λ depth at shallow others h. semicolon_keeps at others h
  stmt_keeps (Return e) = return_keeps e

  lines_keep : (lines : Lines) → ShallowLines lines
  lines_keep no_lines = λ depth at shallow others h. h
  lines_keep (line stmt was lines) = line_keeps stmt was lines (stmt_keeps stmt) (lines_keep lines)

  arms_keep : (arms : Arms) → ShallowArms arms
  arms_keep no_arms = λ depth at shallow others h. h
  arms_keep (arm cases body arms) = arm_keeps cases body arms (lines_keep body) (arms_keep arms)

  last_keeps : (arms : Arms) → ShallowDefault arms
  last_keeps no_arms = λ depth first second shallow others h. h
  last_keeps (arm cases body arms) = default_keeps cases body arms (lines_keep body)

-- Declarations.

variable_within : (at : ℕ) (type : CType) (name : Word) → KeepsTo 200 (variable_tokens at type name)
variable_within at type name k small others h = type_open type at k small _ (flat_open (WordToken name) refl k at small others h)

variable_keeps : (at : ℕ) (type : CType) (name : Word) → Keeps (variable_tokens at type name)
variable_keeps at type name others h = variable_within at type name 0 (omega arith) others h

class_within : (at : ℕ) (class : Class) → KeepsTo 200 (class_tokens at class)
class_within at Plain k small others h = h
class_within at Auto k small others h = flat_open (WordToken (codes "auto")) refl k at small others h
class_within at Register k small others h = flat_open (WordToken (codes "register")) refl k at small others h

size_keeps : (at : ℕ) (len : Option ℕ) → Keeps (size_tokens at len)
size_keeps at None others h = h
size_keeps at (Some len) others h =
    flat_keeps (Mark (codes "[")) refl at _ (number_keeps at len _ (flat_keeps (Mark (codes "]")) refl at others h))

locals_keep : (locals : List Variable) (at : ℕ) → Keeps (locals_tokens at locals)
locals_keep [] at others h = h
locals_keep (v ∷ locals) at others h =
    class_within at v.class 0 (omega arith) _ (variable_keeps at v.type v.name _ (size_keeps at v.len _ (semicolon_keeps at _ (locals_keep locals (at + 1) others h))))

param_within : (at : ℕ) (v : Variable) → KeepsTo 200 (param_tokens at v)
param_within at v k small others h = class_within at v.class k small _ (variable_within at v.type v.name k small others h)

some_within : (params : List Variable) (at : ℕ) → KeepsTo 200 (some_params_tokens at params)
some_within [] at k small others h = h
some_within (v ∷ []) at k small others h = param_within at v k small others h
some_within (v ∷ w ∷ params) at k small others h =
    param_within at v k small _ (flat_open (Mark (codes ",")) refl k at small _ (some_within (w ∷ params) at k small others h))

params_within : (params : List Variable) (at : ℕ) → KeepsTo 1 (params_tokens at params)
params_within [] at k small others h = flat_open (WordToken (codes "void")) refl k at (omega arith) others h
params_within (v ∷ params) at k small others h = some_within (v ∷ params) at k (omega arith) others h

head_keeps : (at : ℕ) (type : Option CType) (name : Word) → Keeps (head_tokens at type name)
head_keeps at None name others h = word_keeps at _ _ (word_keeps at _ others h)
head_keeps at (Some type) name others h = variable_keeps at type name others h

function_keeps : (at : ℕ) (f : Function) → are_shallow (stmts_in f.body) → Keeps (function_tokens at f)
function_keeps at f shallow others h =
    let body = lines_keep f.body 2 (at + 2 + length f.locals) shallow _ (closing_keeps _ others h) in
    let inside = opening_keeps (at + 1) _ (locals_keep f.locals (at + 2) _ body) in
    head_keeps at f.result f.name _ (enclosed_open 0 at (params_tokens at f.params) (omega arith) (params_within f.params at) 0 (omega arith) _ inside)

functions_keep : {tree : Tree} {functions : List Function} → AreAllowed tree functions → (at : ℕ) → Within 0 (functions_tokens at functions)
functions_keep no_more at = record { most = omega arith }
functions_keep (one_more {f} {functions} first others) at =
    function_keeps at f first.depth _ (functions_keep others ((numbered_function at f).last + 1))

numbers_keep : (ns : List ℕ) (at : ℕ) → Keeps (numbers_tokens at ns)
numbers_keep [] at others h = h
numbers_keep (n ∷ []) at others h = number_keeps at n others h
numbers_keep (n ∷ m ∷ ns) at others h = number_keeps at n _ (comma_keeps at _ (numbers_keep (m ∷ ns) at others h))

initial_keeps : (at : ℕ) (len : Option ℕ) (init : List ℕ) → Keeps (initial_tokens at len init)
initial_keeps at None [] others h = h
initial_keeps at (Some len) [] others h = h
initial_keeps at None (n ∷ ns) others h = equals_keeps at _ (numbers_keep (n ∷ ns) at others h)
initial_keeps at (Some len) (n ∷ ns) others h =
    equals_keeps at _ (opening_keeps at _ (numbers_keep (n ∷ ns) at _ (closing_keeps at others h)))

global_keeps : (at : ℕ) (g : Global) → Keeps (global_tokens at g)
global_keeps at g others h =
    variable_keeps at g.type g.name _ (size_keeps at g.len _ (initial_keeps at g.len g.init _ (semicolon_keeps at others h)))

place_keeps : (at : ℕ) (following : Option ℕ) (address : ℕ) → Keeps (place_tokens at following address)
place_keeps at None address others h = place_pragma_keeps at address others h
place_keeps at (Some following) address others h = by_test (following == address)
  where
    by_test : (same : Bool) → Within 0 (if same then others else placed at (Pragma place_line) ∷ placed at (Decimal address plain_number) ∷ others)
    by_test true = h
    by_test false = place_pragma_keeps at address others h

globals_keep : (globals : List Global) (following : Option ℕ) (at : ℕ) → Keeps (globals_tokens following at globals)
globals_keep [] following at others h = h
globals_keep (g ∷ globals) following at others h =
    let here = at + rows (written_place following g.at) in
    place_keeps at following g.at _ (global_keeps here g _ (globals_keep globals (Some (after_global g)) (here + 1) others h))

-- at most 200 parentheses are open in the tokens of a writable tree
pub tokens_shallow : (tree : Tree) → IsWritable tree → most_open 0 (tree_tokens tree) ≤ 200
tokens_shallow tree writable =
    let functions = functions_keep writable.allowed.functions (3 + rows (written_globals None tree.globals)) in
    let globals = globals_keep tree.globals None 3 _ functions in
    let stack = flat_keeps (Pragma stack_line) refl 2 _ (number_keeps 2 tree.lo _ (number_keeps 2 tree.hi _ globals)) in
    (flat_keeps (Pragma version_line) refl 1 _ stack).most
