-- A text has at least as many tokens as its functions have steps, with one for each function.
use Rattle.std.proofs.Common.{ℕ, suc, ◌+◌, ◌<◌, ◌≤◌, Bool, List, length, Option, ap, arith}
use Rattle.dcc_c.specs.declared.syntax.Class.{Class}
use Rattle.dcc_c.specs.declared.syntax.CType.{CType}
use Rattle.dcc_c.specs.Token.{Token}
use Rattle.dcc_c.specs.Lexing.{Placed}
use Rattle.dcc_c.specs.Tree.{Word, Expr, Stmt, Lines, Arms, Global, Variable, Function, Tree}
use Rattle.dcc_c.specs.Grammar.{Begins, none, one, IsExpr, number, name, parentheses, unary, cast, binary, conditional, stronger, IsPlace, name_place, deref_place, AreArguments, no_argument, last_argument, more_arguments, IsCall, call, Around, AreCases, last_case, more_cases, IsStmt, assign, call_alone, call_into, if_alone, if_else, while, do_while, for_ever, switch, break, continue, goto, empty, return_nothing, return_value, IsBlock, block, AreLines, no_more, depth_pragma, label, statement, AreArms, no_arm, case_arm, default_arm, HasSize, no_size, size, AreNumbers, last_number, more_numbers, AreInitial, no_value, one_value, values, IsGlobal, AreGlobals, no_global, placed_at, one_global, HasClass, no_class, auto_class, register_class, IsParam, AreSomeParams, last_param, more_params, AreParams, no_param, some_params, IsLocal, AreLocals, no_local, one_local, HasResult, no_result, result, IsFunction, AreFunctions, last_function, more_functions, IsUnit}
use Rattle.dcc_plan.specs.Programs.{text_size}
use Rattle.dcc_plan.specs.Steps.{steps_in, stmt_steps, arm_steps}

-- Expressions.

begins-short : {all rest : List Placed} {tokens : List Token} → Begins all tokens rest → length rest ≤ length all
begins-short none = omega arith
begins-short (one b) = omega (arith, begins-short b)

expr-short : {strength : ℕ} {tokens rest : List Placed} {e : Expr} → IsExpr strength tokens e rest → length rest < length tokens
expr-short (number is) = omega arith
expr-short (name bytes is) = omega arith
expr-short (parentheses a) = omega (arith, expr-short a)
expr-short (unary operator a) = omega (arith, expr-short a)
expr-short (cast type b a) = omega (arith, begins-short b, expr-short a)
expr-short (binary operator a b) = omega (arith, expr-short a, expr-short b)
expr-short (conditional a b c) = omega (arith, expr-short a, expr-short b, expr-short c)
expr-short (stronger a) = expr-short a

place-short : {tokens rest : List Placed} {e : Expr} → IsPlace tokens e rest → length rest < length tokens
place-short (name_place bytes is) = omega arith
place-short (deref_place a) = omega (arith, expr-short a)

arguments-short : {tokens rest : List Placed} {es : List Expr} → AreArguments tokens es rest → length rest ≤ length tokens
arguments-short no_argument = omega arith
arguments-short (last_argument a) = omega (arith, expr-short a)
arguments-short (more_arguments a others) = omega (arith, expr-short a, arguments-short others)

call-short : {tokens rest : List Placed} {function : Word} {es : List Expr} → IsCall tokens function es rest → length rest < length tokens
call-short (call function is arguments) = omega (arith, arguments-short arguments)

cases-short : {tokens rest : List Placed} {cases : List ℕ} → AreCases tokens cases rest → length rest ≤ length tokens
cases-short (last_case is) = omega arith
cases-short (more_cases is others) = omega (arith, cases-short others)

-- Statements.

mutual
  stmt-count : {limit : ℕ} {around : Around} {depth after : ℕ} {tokens rest : List Placed} {stmt : Stmt}
      → IsStmt limit around depth tokens stmt after rest → stmt_steps stmt + length rest ≤ length tokens
  stmt-count (assign p e) = omega (arith, place-short p, expr-short e)
  stmt-count (call_alone c) = omega (arith, call-short c)
  stmt-count (call_into p c) = omega (arith, place-short p, call-short c)
  stmt-count (if_alone e b) = omega (arith, expr-short e, block-count b)
  stmt-count (if_else e b c) = omega (arith, expr-short e, block-count b, block-count c)
  stmt-count (while e b) = omega (arith, expr-short e, block-count b)
  stmt-count (do_while b e) = omega (arith, block-count b, expr-short e)
  stmt-count (for_ever h b) = omega (arith, begins-short h, block-count b)
  stmt-count (switch e arms some) = omega (arith, expr-short e, arms-count arms)
  stmt-count (break is) = omega arith
  stmt-count (continue is) = omega arith
  stmt-count (goto to is) = omega arith
  stmt-count empty = omega arith
  stmt-count return_nothing = omega arith
  stmt-count (return_value e) = omega (arith, expr-short e)

  block-count : {limit : ℕ} {around : Around} {depth after : ℕ} {tokens rest : List Placed} {lines : Lines}
      → IsBlock limit around depth tokens lines after rest → steps_in lines + length rest < length tokens
  block-count (block lines) = omega (arith, lines-count lines)

  lines-count : {limit : ℕ} {around : Around} {labelled : Bool} {depth after : ℕ} {tokens rest : List Placed} {lines : Lines}
      → AreLines limit around labelled depth tokens lines after rest → steps_in lines + length rest ≤ length tokens
  lines-count no_more = omega arith
  lines-count (depth_pragma few lines) = omega (arith, lines-count lines)
  lines-count (label word is few lines) = omega (arith, lines-count lines)
  lines-count (statement few first lines) = omega (arith, stmt-count first, lines-count lines)

  arms-count : {limit : ℕ} {around : Around} {depth after : ℕ} {tokens rest : List Placed} {arms last : Arms}
      → AreArms limit around depth tokens arms last after rest → (arm_steps arms + arm_steps last) + length rest ≤ length tokens
  arms-count no_arm = omega arith
  arms-count (case_arm cases few lines arms) = omega (arith, cases-short cases, lines-count lines, arms-count arms)
  arms-count (default_arm few lines arms) = omega (arith, lines-count lines, arms-count arms)

-- Declarations.

size-short : {tokens rest : List Placed} {len : Option ℕ} → HasSize tokens len rest → length rest ≤ length tokens
size-short no_size = omega arith
size-short size = omega arith

numbers-short : {tokens rest : List Placed} {ns : List ℕ} → AreNumbers tokens ns rest → length rest ≤ length tokens
numbers-short last_number = omega arith
numbers-short (more_numbers others) = omega (arith, numbers-short others)

initial-short : {tokens rest : List Placed} {ns : List ℕ} → AreInitial tokens ns rest → length rest ≤ length tokens
initial-short no_value = omega arith
initial-short one_value = omega arith
initial-short (values numbers) = omega (arith, numbers-short numbers)

global-short : {tokens rest : List Placed} {g : Global} → IsGlobal tokens g rest → length rest ≤ length tokens
global-short g = omega (arith, begins-short g.type_is, size-short g.len_is, initial-short g.init_is)

globals-short : {place : Option ℕ} {tokens rest : List Placed} {globals : List Global} → AreGlobals place tokens globals rest → length rest ≤ length tokens
globals-short no_global = omega arith
globals-short (placed_at others) = omega (arith, globals-short others)
globals-short (one_global g others) = omega (arith, global-short g, globals-short others)

class-short : {tokens rest : List Placed} {class : Class} → HasClass tokens class rest → length rest ≤ length tokens
class-short no_class = omega arith
class-short auto_class = omega arith
class-short register_class = omega arith

local-short : {tokens rest : List Placed} {v : Variable} → IsLocal tokens v rest → length rest ≤ length tokens
local-short l = omega (arith, class-short l.class_is, begins-short l.type_is, size-short l.len_is)

locals-short : {tokens rest : List Placed} {vs : List Variable} → AreLocals tokens vs rest → length rest ≤ length tokens
locals-short no_local = omega arith
locals-short (one_local l others) = omega (arith, local-short l, locals-short others)

param-short : {tokens rest : List Placed} {v : Variable} → IsParam tokens v rest → length rest ≤ length tokens
param-short l = omega (arith, class-short l.class_is, begins-short l.type_is)

some-params-short : {tokens rest : List Placed} {vs : List Variable} → AreSomeParams tokens vs rest → length rest ≤ length tokens
some-params-short (last_param p) = param-short p
some-params-short (more_params p others) = omega (arith, param-short p, some-params-short others)

params-short : {tokens rest : List Placed} {vs : List Variable} → AreParams tokens vs rest → length rest ≤ length tokens
params-short no_param = omega arith
params-short (some_params p) = some-params-short p

result-short : {tokens rest : List Placed} {type : Option CType} → HasResult tokens type rest → length rest ≤ length tokens
result-short no_result = omega arith
result-short (result type b) = begins-short b

function-count : {limit : ℕ} {tokens rest : List Placed} {f : Function} → IsFunction limit tokens f rest
    → suc (steps_in f.body) + length rest ≤ length tokens
function-count x = omega (arith, result-short x.result_is, params-short x.params_are, locals-short x.locals_are, lines-count x.body_is)

functions-count : {limit : ℕ} {tokens : List Placed} {functions : List Function} → AreFunctions limit tokens functions
    → text_size functions ≤ length tokens
functions-count (last_function x) = let count = function-count x in omega (arith, count)
functions-count (more_functions x others) =
    let count = function-count x in
    let rest = functions-count others in
    omega (arith, count, rest)

-- the functions of a text
pub unit-count : (limit : ℕ) (tokens : List Placed) (tree : Tree) → IsUnit limit tokens tree
    → text_size tree.functions ≤ length tokens
unit-count limit tokens tree unit =
    omega (arith, ap length unit.head_is, globals-short unit.globals_are, functions-count unit.functions_are)
