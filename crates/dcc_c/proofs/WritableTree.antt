-- A tree that a text stands for is writable.
use Rattle.std.proofs.Common.{◌≡◌, ℕ, ◌+◌, ◌≤◌, Bool, true, false, ◌&&◌, not, List, [], ◌∷◌, ◌++◌, length, Option, Some, None, is_some, refl, ap, subst, arith}
use Rattle.std.specs.Prelude.{nat_le}
use Rattle.std.specs.List.{list_all}
use Rattle.std.proofs.lemmas.Bool.{and_parts, and_from, leb-true, le-leb}
use Rattle.dcc_c.specs.declared.syntax.CType.{CType}
use Rattle.dcc_c.specs.declared.syntax.Class.{Class}
use Rattle.dcc_c.specs.Lexing.{Placed}
use Rattle.dcc_c.specs.Tree.{Expr, Stmt, Assign, Call, If, While, DoWhile, Switch, Return, Global, Variable, Function, Tree}
use Rattle.dcc_c.specs.Placement.{elements, bytes_of, after_global}
use Rattle.dcc_c.specs.Parts.{stmts_in, expr_if}
use Rattle.dcc_c.specs.Grammar.{HasSize, no_size, size, AreNumbers, last_number, more_numbers, AreInitial, no_value, one_value, values, IsGlobal, AreGlobals, no_global, placed_at, one_global, HasClass, no_class, auto_class, register_class, IsParam, AreSomeParams, last_param, more_params, AreParams, no_param, some_params, IsLocalClass, plain_local, array_local, auto_local, IsLocal, AreLocals, no_local, one_local, HasResult, no_result, result, IsFunction, AreFunctions, last_function, more_functions}
use Rattle.dcc_c.specs.Types.{promoted_type}
use Rattle.dcc_c.specs.Typing.{Declared, type_of, place_type}
use Rattle.dcc_c.specs.Dos.{Signature}
use Rattle.dcc_c.specs.Rules.{declared_in, converts, fits, is_number, is_word_base, is_switch_value, fit_all, result_fits, signature_in, call_fits, cases_of, differ, at_most_one, allows_stmt, has_element, allows_global, IsAllowedFunction, AreAllowed, one_more}
use Rattle.dcc_c.specs.Text.{StandsFor}
use Rattle.dcc_c.proofs.Writable.{is_small, is_small_if, is_writable_global, is_writable_param, is_local_class, is_writable_local, is_writable_function, IsWritable}
use Rattle.dcc_c.proofs.SmallTokens.{AreSmall, tail_small, head_small, lexed_small}
use Rattle.dcc_c.proofs.WritableExprs.{takes_names, begins_small, typed_takes, placed_takes}
use Rattle.dcc_c.proofs.WritableLines.{is_sound, are_sound, lines_kept}

-- An allowed statement is sound.

-- what is good has a type
type_if_good : (good : CType → Bool) (type : Option CType) → (elim type [ Some from ↦ good from | None ↦ false ]) ≡ true → is_some type ≡ true
type_if_good good None no_type = absurd cc
type_if_good good (Some from) is = refl

module _ (names : List Declared) where
  fitting_takes : (to : CType) (e : Expr) → fits names to e ≡ true → takes_names e ≡ true
  fitting_takes to e is = typed_takes names e (type_if_good (λ from. converts from to) (type_of names e) is)

  number_takes : (e : Expr) → is_number names e ≡ true → takes_names e ≡ true
  number_takes e is = typed_takes names e (type_if_good (λ type. not type.pointer) (type_of names e) is)

  fitting_all : (types : List CType) (es : List Expr) → fit_all names types es ≡ true → list_all takes_names es ≡ true
  fitting_all [] [] is = refl
  fitting_all [] (e ∷ es) is = absurd cc
  fitting_all (type ∷ types) [] is = absurd cc
  fitting_all (type ∷ types) (e ∷ es) is =
      let (first, others) = and_parts (fits names type e) (fit_all names types es) is in
      and_from _ _ (fitting_takes type e first) (fitting_all types es others)

  value_takes : (type : Option CType) (e : Expr) → (elim type [ Some to ↦ fits names to e | None ↦ false ]) ≡ true → (is_some type ≡ true) × (takes_names e ≡ true)
  value_takes None e no_type = absurd cc
  value_takes (Some to) e is = (refl, fitting_takes to e is)

  call_takes : (place : Option Expr) (arguments : List Expr) (known : Option Signature) → call_fits names place arguments known ≡ true → list_all takes_names (expr_if place ++ arguments) ≡ true
  call_takes place arguments None no_function = absurd cc
  call_takes None arguments (Some known) is =
      fitting_all known.params arguments (and_parts (result_fits names None known.result) (fit_all names known.params arguments) is).1
  call_takes (Some place) arguments (Some known) is =
      let (first, others) = and_parts (result_fits names (Some place) known.result) (fit_all names known.params arguments) is in
      and_from _ _ (result_takes known.result first) (fitting_all known.params arguments others)
    where
      result_takes : (result : Option CType) → result_fits names (Some place) result ≡ true → takes_names place ≡ true
      result_takes None lacks = absurd cc
      result_takes (Some from) good = placed_takes names place (type_if_good (λ to. converts from to) (place_type names place) good)

allowed_sound : (tree : Tree) (f : Function) (stmt : Stmt) → allows_stmt tree f stmt ≡ true → is_sound stmt ≡ true
allowed_sound tree f (Assign place e) is =
    let (first, second) = value_takes (declared_in tree f) (place_type (declared_in tree f) place) e is in
    and_from _ true (and_from _ _ (placed_takes (declared_in tree f) place first) (and_from _ true second refl)) refl
allowed_sound tree f (Call place function arguments depth) is =
    and_from _ true (call_takes (declared_in tree f) place arguments (signature_in tree function) is) refl
allowed_sound tree f (If e body otherwise) is =
    and_from _ true (and_from _ true (number_takes (declared_in tree f) e is) refl) refl
allowed_sound tree f (While e body) is =
    and_from _ true (and_from _ true (number_takes (declared_in tree f) e is) refl) refl
allowed_sound tree f (DoWhile body e) is =
    and_from _ true (and_from _ true (number_takes (declared_in tree f) e is) refl) refl
allowed_sound tree f (Switch e arms last) is =
    let names = declared_in tree f in
    let (first, others) = and_parts (is_switch_value names e) (differ (cases_of arms) && at_most_one last) is in
    let takes = typed_takes names e (type_if_good (λ type. not type.pointer && is_word_base (promoted_type type.base)) (type_of names e) first) in
    and_from _ _ (and_from _ true takes refl) (and_parts (differ (cases_of arms)) (at_most_one last) others).1
allowed_sound tree f (Return None) is = refl
allowed_sound tree f (Return (Some e)) is =
    and_from _ true (and_from _ true (value_takes (declared_in tree f) f.result e is).1 refl) refl
allowed_sound tree f _ is = refl

all_sound : (tree : Tree) (f : Function) (stmts : List Stmt) → list_all (allows_stmt tree f) stmts ≡ true → are_sound stmts
all_sound tree f [] is = refl
all_sound tree f (stmt ∷ stmts) is =
    let (first, others) = and_parts (allows_stmt tree f stmt) (list_all (allows_stmt tree f) stmts) is in
    and_from _ _ (allowed_sound tree f stmt first) (all_sound tree f stmts others)

-- Declarations.

-- a number and what stands after it in small tokens
abbrev Holds : Bool → List Placed → Type 0
Holds good rest = (good ≡ true) × AreSmall rest

size_small : {tokens rest : List Placed} {len : Option ℕ} → HasSize tokens len rest → AreSmall tokens → Holds (is_small_if len) rest
size_small no_size small = (refl, small)
size_small size small = (head_small (tail_small small), tail_small (tail_small (tail_small small)))

numbers_small : {tokens rest : List Placed} {ns : List ℕ} → AreNumbers tokens ns rest → AreSmall tokens → Holds (list_all is_small ns) rest
numbers_small (last_number {n}) small = (and_from (is_small n) true (head_small small) refl, tail_small small)
numbers_small (more_numbers {n} {ns} others) small =
    let (each, following) = numbers_small others (tail_small (tail_small small)) in
    (and_from (is_small n) (list_all is_small ns) (head_small small) each, following)

initial_small : {tokens rest : List Placed} {init : List ℕ} → AreInitial tokens init rest → AreSmall tokens → Holds (list_all is_small init) rest
initial_small no_value small = (refl, small)
initial_small (one_value {n}) small =
    (and_from (is_small n) true (head_small (tail_small small)) refl, tail_small (tail_small small))
initial_small (values numbers) small =
    let (each, following) = numbers_small numbers (tail_small (tail_small small)) in (each, tail_small following)

-- a global variable that ends within memory has a small address
address_small : (g : Global) → allows_global g ≡ true → is_small g.at ≡ true
address_small g allowed =
    let (some, others) = and_parts (has_element g.len) (nat_le (after_global g) 65536 && nat_le (length g.init) (elements g.len)) allowed in
    let ends = leb-true (after_global g) 65536 (and_parts (nat_le (after_global g) 65536) (nat_le (length g.init) (elements g.len)) others).0 in
    le-leb g.at 4294967295 (below g.at (bytes_of g.type g.len) ends)
  where
    below : (at bytes : ℕ) → at + bytes ≤ 65536 → at ≤ 4294967295
    below at bytes ends = omega arith

global_writable : {tokens rest : List Placed} {g : Global} → IsGlobal tokens g rest → AreSmall tokens → allows_global g ≡ true → Holds (is_writable_global g) rest
global_writable {g} is small allowed =
    let (len, after_len) = size_small is.len_is (tail_small (begins_small is.type_is small)) in
    let (init, following) = initial_small is.init_is after_len in
    (and_from _ _ is.name_is (and_from _ _ (address_small g allowed) (and_from _ _ len init)), tail_small following)

globals_writable : {place : Option ℕ} {tokens rest : List Placed} {globals : List Global} → AreGlobals place tokens globals rest → AreSmall tokens → list_all allows_global globals ≡ true → Holds (list_all is_writable_global globals) rest
globals_writable no_global small allowed = (refl, small)
globals_writable (placed_at others) small allowed = globals_writable others (tail_small (tail_small small)) allowed
globals_writable (one_global {g} {globals} is others) small allowed =
    let (first, later) = and_parts (allows_global g) (list_all allows_global globals) allowed in
    let (here, following) = global_writable is small first in
    let (there, rest) = globals_writable others following later in
    (and_from _ _ here there, rest)

class_small : {tokens rest : List Placed} {class : Class} → HasClass tokens class rest → AreSmall tokens → AreSmall rest
class_small no_class small = small
class_small auto_class small = tail_small small
class_small register_class small = tail_small small

no_len-not : (len : Option ℕ) → len ≡ None → not (is_some len) ≡ true
no_len-not len is = ap (λ l. not (is_some l)) is

param_writable : {tokens rest : List Placed} {v : Variable} → IsParam tokens v rest → AreSmall tokens → Holds (is_writable_param v) rest
param_writable {v} is small =
    (and_from _ _ is.name_is (no_len-not v.len is.no_len), tail_small (begins_small is.type_is (class_small is.class_is small)))

some_writable : {tokens rest : List Placed} {params : List Variable} → AreSomeParams tokens params rest → AreSmall tokens → Holds (list_all is_writable_param params) rest
some_writable (last_param {v} is) small = let (first, following) = param_writable is small in (and_from (is_writable_param v) true first refl, following)
some_writable (more_params {v} {params} is others) small =
    let (first, following) = param_writable is small in
    let (later, rest) = some_writable others (tail_small following) in
    (and_from (is_writable_param v) (list_all is_writable_param params) first later, rest)

params_writable : {tokens rest : List Placed} {params : List Variable} → AreParams tokens params rest → AreSmall tokens → Holds (list_all is_writable_param params) rest
params_writable no_param small = (refl, tail_small small)
params_writable (some_params are) small = some_writable are small

class_writable : {spelled class : Class} {len : Option ℕ} → IsLocalClass spelled len class → is_local_class class len ≡ true
class_writable plain_local = refl
class_writable array_local = refl
class_writable auto_local = refl

local_writable : {tokens rest : List Placed} {v : Variable} → IsLocal tokens v rest → AreSmall tokens → Holds (is_writable_local v) rest
local_writable {v} is small =
    let (len, following) = size_small is.len_is (tail_small (begins_small is.type_is (class_small is.class_is small))) in
    (and_from _ _ is.name_is (and_from _ _ len (class_writable is.stored_is)), tail_small following)

locals_writable : {tokens rest : List Placed} {locals : List Variable} → AreLocals tokens locals rest → AreSmall tokens → Holds (list_all is_writable_local locals) rest
locals_writable no_local small = (refl, small)
locals_writable (one_local {v} {locals} is others) small =
    let (first, following) = local_writable is small in
    let (later, rest) = locals_writable others following in
    (and_from (is_writable_local v) (list_all is_writable_local locals) first later, rest)

result_small : {tokens rest : List Placed} {type : Option CType} → HasResult tokens type rest → AreSmall tokens → AreSmall rest
result_small no_result small = tail_small small
result_small (result type begins) small = begins_small begins small

function_writable : {tree : Tree} {tokens rest : List Placed} {f : Function} → IsFunction 200 tokens f rest → AreSmall tokens → IsAllowedFunction tree f → Holds (is_writable_function f) rest
function_writable {tree} {f} is small allowed =
    let (params, after_params) = params_writable is.params_are (tail_small (tail_small (result_small is.result_is small))) in
    let (locals, after_locals) = locals_writable is.locals_are (tail_small (tail_small after_params)) in
    let kept = lines_kept is.body_is after_locals refl in
    let body = kept.writable (all_sound tree f (stmts_in f.body) allowed.types) in
    (and_from _ _ is.name_is (and_from _ _ params (and_from _ _ locals body)), tail_small kept.following)

functions_writable : {tree : Tree} {tokens : List Placed} {functions : List Function} → AreFunctions 200 tokens functions → AreSmall tokens → AreAllowed tree functions → list_all is_writable_function functions ≡ true
functions_writable (last_function {f} is) small (one_more first others) = and_from (is_writable_function f) true (function_writable is small first).0 refl
functions_writable (more_functions {f} {functions} is later) small (one_more first others) =
    let (here, following) = function_writable is small first in
    and_from (is_writable_function f) (list_all is_writable_function functions) here (functions_writable later following others)

-- a tree that a text stands for is writable
pub stands_writable : (text : List ℕ) (tree : Tree) → StandsFor text tree → IsWritable tree
stands_writable text tree stands =
    let unit = stands.formed in
    let small : AreSmall stands.tokens = lexed_small stands.lexed in
    let in_globals : AreSmall unit.globals = tail_small (tail_small (tail_small (tail_small (subst AreSmall unit.head_is small)))) in
    let (globals, following) = globals_writable unit.globals_are in_globals stands.allowed.globals in
    record {
      version = unit.version_is;
      globals = globals;
      functions = functions_writable unit.functions_are following stands.allowed.functions;
      allowed = stands.allowed;
    }
