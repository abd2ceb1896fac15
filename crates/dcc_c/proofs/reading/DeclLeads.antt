-- What a derivation says of the tokens of declarations: each leads to fewer, and its parentheses are in pairs.
use Rattle.std.proofs.Common.{ℕ, List, refl, arith, Option}
use Rattle.dcc_c.specs.declared.syntax.CType.{CType}
use Rattle.dcc_c.specs.declared.syntax.Class.{Class}
use Rattle.dcc_c.specs.Lexing.{Placed}
use Rattle.dcc_c.specs.Tree.{Global, Variable, Function}
use Rattle.dcc_c.specs.Grammar.{type_tokens, Begins, HasSize, no_size, size, AreNumbers, last_number, more_numbers, AreInitial, no_value, one_value, values, HasClass, no_class, auto_class, register_class, IsParam, AreSomeParams, last_param, more_params, AreParams, no_param, some_params, IsLocal, AreLocals, no_local, one_local, HasResult, no_result, result, IsGlobal, IsFunction}
use Rattle.dcc_c.proofs.reading.Derivations.{begins-length, begins-enclosed, flat_type}
use Rattle.dcc_c.proofs.reading.Leads.{Leads, then_leads, some_leads, no_leads, token_leads, opening_leads, closing_leads, lines_leads}

pub type_leads : {opened : ℕ} {all rest : List Placed} (type : CType) → Begins all (type_tokens type) rest → Leads 0 opened opened all rest
type_leads {opened} type words = record { less = omega (arith, begins-length words); enclosed = λ few. begins-enclosed words (flat_type type) opened few }

class_leads : {opened : ℕ} {tokens rest : List Placed} {class : Class} → HasClass tokens class rest → Leads 0 opened opened tokens rest
class_leads no_class = no_leads
class_leads auto_class = some_leads (token_leads refl)
class_leads register_class = some_leads (token_leads refl)

pub size_leads : {tokens rest : List Placed} {len : Option ℕ} → HasSize tokens len rest → Leads 0 0 0 tokens rest
size_leads no_size = no_leads
size_leads size = some_leads (then_leads (token_leads refl) (then_leads (token_leads refl) (token_leads refl)))

numbers_leads : {tokens rest : List Placed} {ns : List ℕ} → AreNumbers tokens ns rest → Leads 0 0 0 tokens rest
numbers_leads last_number = some_leads (token_leads refl)
numbers_leads (more_numbers others) = some_leads (then_leads (token_leads refl) (then_leads (token_leads refl) (numbers_leads others)))

pub initial_leads : {tokens rest : List Placed} {ns : List ℕ} → AreInitial tokens ns rest → Leads 0 0 0 tokens rest
initial_leads no_value = no_leads
initial_leads one_value = some_leads (then_leads (token_leads refl) (token_leads refl))
initial_leads (values numbers) = some_leads (then_leads (token_leads refl) (then_leads (token_leads refl) (then_leads (numbers_leads numbers) (token_leads refl))))

param_leads : {tokens rest : List Placed} {v : Variable} → IsParam tokens v rest → Leads 0 1 1 tokens rest
param_leads {v} is = then_leads (class_leads is.class_is) (then_leads (type_leads v.type is.type_is) (token_leads refl))

some_params_leads : {tokens rest : List Placed} {vs : List Variable} → AreSomeParams tokens vs rest → Leads 0 1 1 tokens rest
some_params_leads (last_param is) = param_leads is
some_params_leads (more_params is others) = then_leads (param_leads is) (then_leads (token_leads refl) (some_params_leads others))

pub params_leads : {tokens rest : List Placed} {vs : List Variable} → AreParams tokens vs rest → Leads 0 1 1 tokens rest
params_leads no_param = some_leads (token_leads refl)
params_leads (some_params some) = some_params_leads some

local_leads : {tokens rest : List Placed} {v : Variable} → IsLocal tokens v rest → Leads 0 0 0 tokens rest
local_leads {v} is =
    then_leads (class_leads is.class_is) (then_leads (type_leads v.type is.type_is) (then_leads (token_leads refl) (then_leads (size_leads is.len_is) (token_leads refl))))

pub locals_leads : {tokens rest : List Placed} {vs : List Variable} → AreLocals tokens vs rest → Leads 0 0 0 tokens rest
locals_leads no_local = no_leads
locals_leads (one_local is others) = then_leads (local_leads is) (locals_leads others)

pub result_leads : {tokens rest : List Placed} {r : Option CType} → HasResult tokens r rest → Leads 0 0 0 tokens rest
result_leads no_result = some_leads (token_leads refl)
result_leads (result type words) = type_leads type words

pub global_leads : {tokens rest : List Placed} {g : Global} → IsGlobal tokens g rest → Leads 0 0 0 tokens rest
global_leads {g} is =
    then_leads (type_leads g.type is.type_is) (then_leads (token_leads refl) (then_leads (size_leads is.len_is) (then_leads (initial_leads is.init_is) (token_leads refl))))

-- the tokens of a function before its body, and the whole of it
pub before_body : {limit : ℕ} {tokens rest : List Placed} {f : Function} (is : IsFunction limit tokens f rest) → Leads 0 0 0 tokens is.body
before_body is =
    then_leads (result_leads is.result_is) (then_leads (some_leads (token_leads refl)) (then_leads (some_leads opening_leads) (then_leads (params_leads is.params_are) (then_leads (some_leads closing_leads) (then_leads (some_leads (token_leads refl)) (locals_leads is.locals_are))))))

pub function_leads : {limit : ℕ} {tokens rest : List Placed} {f : Function} → IsFunction limit tokens f rest → Leads 0 0 0 tokens rest
function_leads is = then_leads (before_body is) (then_leads (lines_leads is.body_is) (some_leads (token_leads refl)))
