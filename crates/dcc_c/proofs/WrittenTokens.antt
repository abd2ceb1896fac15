-- The tokens of the written form, each with its line as the tree's numbering counts it. Each function puts a part's
-- tokens before others.
use Rattle.std.specs.Prelude.{ℕ, ◌+◌, Bool, true, false, ◌||◌, ◌==◌, if◌then◌else◌, List, [], ◌∷◌, ◌++◌, length, map, codes, Option, Some, None}
use Rattle.dcc_c.specs.declared.syntax.CType.{CType}
use Rattle.dcc_c.specs.declared.syntax.CUn.{CUn}
use Rattle.dcc_c.specs.declared.syntax.CUn.TheVariants.{Minus}
use Rattle.dcc_c.specs.declared.syntax.Class.{Class}
use Rattle.dcc_c.specs.declared.syntax.Class.TheVariants.{Plain, Auto, Register}
use Rattle.dcc_c.specs.Token.{Decimal, Pragma, plain_number, version_line, stack_line, place_line, depth_line}
use Rattle.dcc_c.specs.Lexing.{Placed, placed}
use Rattle.dcc_c.specs.Tree.{Word, Expr, Number, Name, Unary, Binary, Conditional, Cast, Stmt, Assign, Call, If, While, DoWhile, Forever, Switch, Break, Continue, Goto, Label, Empty, Return, Lines, no_lines, line, Arms, no_arms, arm, Global, Variable, Function, Tree}
use Rattle.dcc_c.specs.Parts.{stmts_in, inner_stmts}
use Rattle.dcc_c.specs.Placement.{after_global}
use Rattle.dcc_c.specs.Grammar.{word, mark, type_tokens, unary_mark, binary_mark}
use Rattle.dcc_c.specs.Written.{suffix_for, is_compound, depth_after, next_depth, written_depth, written_stmt, written_lines, written_arms, written_default, written_place, written_globals}
use Rattle.dcc_c.specs.Numbered.{rows, numbered_function}

-- Expressions.

-- tokens in a line, in parentheses where they are to be, before others
abbrev pub bracketed : ℕ → Bool → (List Placed → List Placed) → List Placed → List Placed
bracketed at true tokens rest = mark at (codes "(") ∷ tokens (mark at (codes ")") ∷ rest)
bracketed at false tokens rest = tokens rest

-- the expression is a unary `-`, whose operand stands in parentheses where it is one too
abbrev pub is_negation : Expr → Bool
is_negation (Unary Minus a) = true
is_negation _ = false

-- the operand of the unary operator stands in parentheses
abbrev pub is_bracketed : CUn → Expr → Bool
is_bracketed Minus a = is_compound a || is_negation a
is_bracketed operator a = is_compound a

abbrev pub expr_tokens : ℕ → Expr → List Placed → List Placed
expr_tokens at (Number n base) rest = placed at (Decimal n (suffix_for n base)) ∷ rest
expr_tokens at (Name name) rest = word at name ∷ rest
expr_tokens at (Unary operator a) rest =
    mark at (unary_mark operator) ∷ bracketed at (is_bracketed operator a) (expr_tokens at a) rest
expr_tokens at (Binary operator a b) rest =
    bracketed at (is_compound a) (expr_tokens at a)
    (mark at (binary_mark operator) ∷ bracketed at (is_compound b) (expr_tokens at b) rest)
expr_tokens at (Conditional a b c) rest =
    bracketed at (is_compound a) (expr_tokens at a)
    (mark at (codes "?") ∷ bracketed at (is_compound b) (expr_tokens at b)
    (mark at (codes ":") ∷ bracketed at (is_compound c) (expr_tokens at c) rest))
expr_tokens at (Cast type a) rest =
    mark at (codes "(") ∷ (map (placed at) (type_tokens type)
    ++ mark at (codes ")") ∷ bracketed at (is_compound a) (expr_tokens at a) rest)

abbrev pub arguments_tokens : ℕ → List Expr → List Placed → List Placed
arguments_tokens at [] rest = rest
arguments_tokens at (e ∷ []) rest = expr_tokens at e rest
arguments_tokens at (e ∷ f ∷ es) rest = expr_tokens at e (mark at (codes ",") ∷ arguments_tokens at (f ∷ es) rest)

-- Statements.

-- the pragma that changes the depth in force
abbrev pub depth_tokens : ℕ → ℕ → ℕ → List Placed → List Placed
depth_tokens at depth next rest =
    if depth == next then rest else placed at (Pragma depth_line) ∷ placed at (Decimal next plain_number) ∷ rest

abbrev pub call_tokens : ℕ → Word → List Expr → List Placed → List Placed
call_tokens at function arguments rest =
    word at function ∷ mark at (codes "(") ∷ arguments_tokens at arguments
    (mark at (codes ")") ∷ mark at (codes ";") ∷ rest)

abbrev pub return_tokens : ℕ → Option Expr → List Placed → List Placed
return_tokens at None rest = word at (codes "return") ∷ mark at (codes ";") ∷ rest
return_tokens at (Some e) rest = word at (codes "return") ∷ expr_tokens at e (mark at (codes ";") ∷ rest)

-- the head of a statement with a block
abbrev pub test_tokens : ℕ → Word → Expr → List Placed → List Placed
test_tokens at name e rest =
    word at name ∷ mark at (codes "(") ∷ expr_tokens at e (mark at (codes ")") ∷ mark at (codes "{") ∷ rest)

-- The end of an `if` after its body: its brace in this line, and the else part with these tokens as its
-- block, where it is not empty, or what follows.
abbrev pub else_tokens : ℕ → Lines → List Placed → List Placed → List Placed
else_tokens middle no_lines block rest = mark middle (codes "}") ∷ rest
else_tokens middle (line stmt was lines) block rest =
    mark middle (codes "}") ∷ word middle (codes "else") ∷ mark middle (codes "{") ∷ block

-- the cases of an arm, each in a line
abbrev pub cases_tokens : ℕ → List ℕ → List Placed → List Placed
cases_tokens at [] rest = rest
cases_tokens at (n ∷ cases) rest =
    word at (codes "case") ∷ placed at (Decimal n plain_number) ∷ mark at (codes ":") ∷ cases_tokens (at + 1) cases rest

abbrev mutual
  -- a statement in this line, where calls have this depth
  pub stmt_tokens : ℕ → ℕ → Stmt → List Placed → List Placed
  stmt_tokens depth at (Assign place e) rest =
      expr_tokens at place (mark at (codes "=") ∷ expr_tokens at e (mark at (codes ";") ∷ rest))
  stmt_tokens depth at (Call None function arguments own) rest = call_tokens at function arguments rest
  stmt_tokens depth at (Call (Some place) function arguments own) rest =
      expr_tokens at place (mark at (codes "=") ∷ call_tokens at function arguments rest)
  stmt_tokens depth at (If e body otherwise) rest =
      let between = depth_after depth (stmts_in body) in
      let middle = at + 1 + rows (written_lines 1 depth body) in
      let second = at + 2 + rows (written_lines 1 depth body) in
      let last = second + rows (written_lines 1 between otherwise) in
      test_tokens at (codes "if") e (lines_tokens depth (at + 1) body
      (else_tokens middle otherwise (lines_tokens between second otherwise (mark last (codes "}") ∷ rest)) rest))
  stmt_tokens depth at (While e body) rest =
      let last = at + 1 + rows (written_lines 1 depth body) in
      test_tokens at (codes "while") e (lines_tokens depth (at + 1) body (mark last (codes "}") ∷ rest))
  stmt_tokens depth at (DoWhile body e) rest =
      let last = at + 1 + rows (written_lines 1 depth body) in
      word at (codes "do") ∷ mark at (codes "{") ∷ lines_tokens depth (at + 1) body
      (mark last (codes "}") ∷ word last (codes "while") ∷ mark last (codes "(")
      ∷ expr_tokens last e (mark last (codes ")") ∷ mark last (codes ";") ∷ rest))
  stmt_tokens depth at (Forever body) rest =
      let last = at + 1 + rows (written_lines 1 depth body) in
      word at (codes "for") ∷ mark at (codes "(") ∷ mark at (codes ";") ∷ mark at (codes ";") ∷ mark at (codes ")")
      ∷ mark at (codes "{") ∷ lines_tokens depth (at + 1) body (mark last (codes "}") ∷ rest)
  stmt_tokens depth at (Switch e arms last) rest =
      let following = depth_after depth (inner_stmts (Switch e arms no_arms)) in
      let first = at + 1 + rows (written_arms 1 depth arms) in
      let second = at + 2 + rows (written_arms 1 depth arms) in
      let end = first + rows (written_default 1 following last) in
      test_tokens at (codes "switch") e (arms_tokens depth (at + 1) arms
      (default_tokens following first second last (mark end (codes "}") ∷ rest)))
  stmt_tokens depth at Break rest = word at (codes "break") ∷ mark at (codes ";") ∷ rest
  stmt_tokens depth at Continue rest = word at (codes "continue") ∷ mark at (codes ";") ∷ rest
  stmt_tokens depth at (Goto name) rest = word at (codes "goto") ∷ word at name ∷ mark at (codes ";") ∷ rest
  stmt_tokens depth at (Label name) rest = word at name ∷ mark at (codes ":") ∷ rest
  stmt_tokens depth at Empty rest = mark at (codes ";") ∷ rest
  stmt_tokens depth at (Return e) rest = return_tokens at e rest

  -- statements, with this depth in force before them, the first in this line or after its pragma
  pub lines_tokens : ℕ → ℕ → Lines → List Placed → List Placed
  lines_tokens depth at no_lines rest = rest
  lines_tokens depth at (line stmt was lines) rest =
      let own = next_depth depth (line stmt was lines) in
      let here = at + rows (written_depth depth own) in
      let following = here + rows (written_stmt 1 own stmt) in
      depth_tokens at depth own (stmt_tokens own here stmt
      (lines_tokens (depth_after own (stmt ∷ inner_stmts stmt)) following lines rest))

  -- arms, the first case of which stands in this line
  pub arms_tokens : ℕ → ℕ → Arms → List Placed → List Placed
  arms_tokens depth at no_arms rest = rest
  arms_tokens depth at (arm cases body arms) rest =
      let first = at + length cases in
      let leaves = first + rows (written_lines 1 depth body) in
      let following = first + rows (written_lines 1 depth body) + 1 in
      cases_tokens at cases (lines_tokens depth first body
      (word leaves (codes "break") ∷ mark leaves (codes ";")
      ∷ arms_tokens (depth_after depth (stmts_in body)) following arms rest))

  -- the default arm: its word stands in the first line, and its body begins in the second
  pub default_tokens : ℕ → ℕ → ℕ → Arms → List Placed → List Placed
  default_tokens depth first second no_arms rest = rest
  default_tokens depth first second (arm cases body arms) rest =
      let leaves = second + rows (written_lines 1 depth body) in
      word first (codes "default") ∷ mark first (codes ":") ∷ lines_tokens depth second body
      (word leaves (codes "break") ∷ mark leaves (codes ";") ∷ rest)

-- Declarations.

-- a type and the name that has it
abbrev pub variable_tokens : ℕ → CType → Word → List Placed → List Placed
variable_tokens at type name rest = map (placed at) (type_tokens type) ++ word at name ∷ rest

abbrev pub size_tokens : ℕ → Option ℕ → List Placed → List Placed
size_tokens at None rest = rest
size_tokens at (Some len) rest =
    mark at (codes "[") ∷ placed at (Decimal len plain_number) ∷ mark at (codes "]") ∷ rest

abbrev pub class_tokens : ℕ → Class → List Placed → List Placed
class_tokens at Plain rest = rest
class_tokens at Auto rest = word at (codes "auto") ∷ rest
class_tokens at Register rest = word at (codes "register") ∷ rest

abbrev pub local_tokens : ℕ → Variable → List Placed → List Placed
local_tokens at v rest =
    class_tokens at v.class (variable_tokens at v.type v.name (size_tokens at v.len (mark at (codes ";") ∷ rest)))

-- the local variables, each in a line
abbrev pub locals_tokens : ℕ → List Variable → List Placed → List Placed
locals_tokens at [] rest = rest
locals_tokens at (v ∷ locals) rest = local_tokens at v (locals_tokens (at + 1) locals rest)

abbrev pub param_tokens : ℕ → Variable → List Placed → List Placed
param_tokens at v rest = class_tokens at v.class (variable_tokens at v.type v.name rest)

abbrev pub some_params_tokens : ℕ → List Variable → List Placed → List Placed
some_params_tokens at [] rest = rest
some_params_tokens at (v ∷ []) rest = param_tokens at v rest
some_params_tokens at (v ∷ w ∷ params) rest =
    param_tokens at v (mark at (codes ",") ∷ some_params_tokens at (w ∷ params) rest)

abbrev pub params_tokens : ℕ → List Variable → List Placed → List Placed
params_tokens at [] rest = word at (codes "void") ∷ rest
params_tokens at (v ∷ params) rest = some_params_tokens at (v ∷ params) rest

-- the result and the name in a function's head
abbrev pub head_tokens : ℕ → Option CType → Word → List Placed → List Placed
head_tokens at None name rest = word at (codes "void") ∷ word at name ∷ rest
head_tokens at (Some type) name rest = variable_tokens at type name rest

-- a function whose head stands in this line
abbrev pub function_tokens : ℕ → Function → List Placed → List Placed
function_tokens at f rest =
    let first = at + 2 + length f.locals in
    let last = first + rows (written_lines 1 2 f.body) in
    head_tokens at f.result f.name (mark at (codes "(") ∷ params_tokens at f.params
    (mark at (codes ")") ∷ mark (at + 1) (codes "{") ∷ locals_tokens (at + 2) f.locals
    (lines_tokens 2 first f.body (mark last (codes "}") ∷ rest))))

abbrev pub functions_tokens : ℕ → List Function → List Placed
functions_tokens at [] = []
functions_tokens at (f ∷ functions) =
    function_tokens at f (functions_tokens ((numbered_function at f).last + 1) functions)

abbrev pub numbers_tokens : ℕ → List ℕ → List Placed → List Placed
numbers_tokens at [] rest = rest
numbers_tokens at (n ∷ []) rest = placed at (Decimal n plain_number) ∷ rest
numbers_tokens at (n ∷ m ∷ ns) rest =
    placed at (Decimal n plain_number) ∷ mark at (codes ",") ∷ numbers_tokens at (m ∷ ns) rest

-- initial values; those of an array stand in braces
abbrev pub initial_tokens : ℕ → Option ℕ → List ℕ → List Placed → List Placed
initial_tokens at len [] rest = rest
initial_tokens at None (n ∷ ns) rest = mark at (codes "=") ∷ numbers_tokens at (n ∷ ns) rest
initial_tokens at (Some len) (n ∷ ns) rest =
    mark at (codes "=") ∷ mark at (codes "{") ∷ numbers_tokens at (n ∷ ns) (mark at (codes "}") ∷ rest)

abbrev pub global_tokens : ℕ → Global → List Placed → List Placed
global_tokens at g rest =
    variable_tokens at g.type g.name (size_tokens at g.len (initial_tokens at g.len g.init (mark at (codes ";") ∷ rest)))

-- the line with the address of a global variable, where the one before does not end there
abbrev pub place_tokens : ℕ → Option ℕ → ℕ → List Placed → List Placed
place_tokens at None address rest =
    placed at (Pragma place_line) ∷ placed at (Decimal address plain_number) ∷ rest
place_tokens at (Some following) address rest =
    if following == address then rest
    else placed at (Pragma place_line) ∷ placed at (Decimal address plain_number) ∷ rest

-- global variables, the one before them ending here
abbrev pub globals_tokens : Option ℕ → ℕ → List Global → List Placed → List Placed
globals_tokens following at [] rest = rest
globals_tokens following at (g ∷ globals) rest =
    let here = at + rows (written_place following g.at) in
    place_tokens at following g.at (global_tokens here g
    (globals_tokens (Some (after_global g)) (here + 1) globals rest))

-- the tokens of a text in its written form
abbrev pub tree_tokens : Tree → List Placed
tree_tokens tree =
    placed 1 (Pragma version_line) ∷ placed 2 (Pragma stack_line) ∷ placed 2 (Decimal tree.lo plain_number)
    ∷ placed 2 (Decimal tree.hi plain_number)
    ∷ globals_tokens None 3 tree.globals (functions_tokens (3 + rows (written_globals None tree.globals)) tree.functions)
