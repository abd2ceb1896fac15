-- The grammar allows neither the version line after the first line nor a keyword that it does not have: declarations,
-- functions and whole texts.
use Rattle.std.proofs.Common.{◌≡◌, ℕ, true, List, [], ◌∷◌, refl, sym, subst, Option}
use Rattle.std.proofs.lemmas.Bool.{and_from}
use Rattle.dcc_c.specs.declared.syntax.CType.{CType}
use Rattle.dcc_c.specs.declared.syntax.Class.{Class}
use Rattle.dcc_c.specs.Lexing.{Placed}
use Rattle.dcc_c.specs.Tree.{Global, Variable, Function, Tree}
use Rattle.dcc_c.specs.Grammar.{HasSize, no_size, size, AreNumbers, last_number, more_numbers, AreInitial, no_value, one_value, values, IsGlobal, AreGlobals, no_global, placed_at, one_global, HasClass, no_class, auto_class, register_class, IsParam, AreSomeParams, last_param, more_params, AreParams, no_param, some_params, IsLocal, AreLocals, no_local, one_local, HasResult, no_result, result, IsFunction, AreFunctions, last_function, more_functions, IsUnit}
use Rattle.dcc_c.proofs.reading.Statements.{with_version}
use Rattle.dcc_lex.proofs.laws.Used.{all_used, name_used, type_used, begins_used, lines_used}

size_used : {tokens rest : List Placed} {len : Option ℕ} → HasSize tokens len rest → all_used rest ≡ true → all_used tokens ≡ true
size_used no_size after = after
size_used size after = after

numbers_used : {tokens rest : List Placed} {ns : List ℕ} → AreNumbers tokens ns rest → all_used rest ≡ true → all_used tokens ≡ true
numbers_used last_number after = after
numbers_used (more_numbers others) after = numbers_used others after

initial_used : {tokens rest : List Placed} {init : List ℕ} → AreInitial tokens init rest → all_used rest ≡ true → all_used tokens ≡ true
initial_used no_value after = after
initial_used one_value after = after
initial_used (values numbers) after = numbers_used numbers after

global_used : {tokens rest : List Placed} {g : Global} → IsGlobal tokens g rest → all_used rest ≡ true → all_used tokens ≡ true
global_used {g} is after =
    begins_used is.type_is (type_used g.type) (and_from _ _ (name_used g.name is.name_is) (size_used is.len_is (initial_used is.init_is after)))

globals_used : {place : Option ℕ} {tokens rest : List Placed} {globals : List Global} → AreGlobals place tokens globals rest → all_used rest ≡ true → all_used tokens ≡ true
globals_used no_global after = after
globals_used (placed_at others) after = globals_used others after
globals_used (one_global is others) after = global_used is (globals_used others after)

class_used : {tokens rest : List Placed} {class : Class} → HasClass tokens class rest → all_used rest ≡ true → all_used tokens ≡ true
class_used no_class after = after
class_used auto_class after = after
class_used register_class after = after

param_used : {tokens rest : List Placed} {v : Variable} → IsParam tokens v rest → all_used rest ≡ true → all_used tokens ≡ true
param_used {v} is after =
    class_used is.class_is (begins_used is.type_is (type_used v.type) (and_from _ _ (name_used v.name is.name_is) after))

some_used : {tokens rest : List Placed} {params : List Variable} → AreSomeParams tokens params rest → all_used rest ≡ true → all_used tokens ≡ true
some_used (last_param is) after = param_used is after
some_used (more_params is others) after = param_used is (some_used others after)

params_used : {tokens rest : List Placed} {params : List Variable} → AreParams tokens params rest → all_used rest ≡ true → all_used tokens ≡ true
params_used no_param after = after
params_used (some_params are) after = some_used are after

local_used : {tokens rest : List Placed} {v : Variable} → IsLocal tokens v rest → all_used rest ≡ true → all_used tokens ≡ true
local_used {v} is after =
    class_used is.class_is (begins_used is.type_is (type_used v.type) (and_from _ _ (name_used v.name is.name_is) (size_used is.len_is after)))

locals_used : {tokens rest : List Placed} {locals : List Variable} → AreLocals tokens locals rest → all_used rest ≡ true → all_used tokens ≡ true
locals_used no_local after = after
locals_used (one_local is others) after = local_used is (locals_used others after)

result_used : {tokens rest : List Placed} {type : Option CType} → HasResult tokens type rest → all_used rest ≡ true → all_used tokens ≡ true
result_used no_result after = after
result_used (result type begins) after = begins_used begins (type_used type) after

function_used : {limit : ℕ} {tokens rest : List Placed} {f : Function} → IsFunction limit tokens f rest → all_used rest ≡ true → all_used tokens ≡ true
function_used {f} is after =
    let body = locals_used is.locals_are (lines_used is.body_is after) in
    result_used is.result_is (and_from _ _ (name_used f.name is.name_is) (params_used is.params_are body))

functions_used : {limit : ℕ} {tokens : List Placed} {functions : List Function} → AreFunctions limit tokens functions → all_used tokens ≡ true
functions_used (last_function is) = function_used is refl
functions_used (more_functions is others) = function_used is (functions_used others)

abbrev pub after_first : List Placed → List Placed
after_first [] = []
after_first (t ∷ tokens) = tokens

-- each token after the version line of a text may stand there
pub unit_used : {limit : ℕ} (tokens : List Placed) {tree : Tree} → IsUnit limit (with_version tokens) tree → all_used tokens ≡ true
unit_used tokens unit = subst (λ ts. all_used (after_first ts) ≡ true) (sym unit.head_is) (globals_used unit.globals_are (functions_used unit.functions_are))
