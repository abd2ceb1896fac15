-- The tokens of a tree's written form are a text of the grammar that has the numbered tree.
use Rattle.std.proofs.Common.{◌≡◌, ℕ, suc, ◌+◌, Bool, true, false, ◌&&◌, not, if◌then◌else◌, List, [], ◌∷◌, length, Option, Some, None, is_some, refl, sym, subst, arith}
use Rattle.std.specs.Prelude.{codes, nat_le, ◌==◌}
use Rattle.std.specs.List.{list_all}
use Rattle.std.proofs.lemmas.Bool.{and_parts, eqb-true, leb-true}
use Rattle.dcc_c.specs.declared.syntax.CType.{CType}
use Rattle.dcc_c.specs.declared.syntax.Class.{Class}
use Rattle.dcc_c.specs.declared.syntax.Class.TheVariants.{Plain, Auto, Register}
use Rattle.dcc_c.specs.Token.{Decimal, Pragma, plain_number, place_line}
use Rattle.dcc_c.specs.Lexing.{Placed, placed}
use Rattle.dcc_c.specs.Tree.{Word, Global, Variable, Function, Tree}
use Rattle.dcc_c.specs.Placement.{elements, after_global}
use Rattle.dcc_c.specs.Parts.{stmts_in}
use Rattle.dcc_c.specs.Grammar.{word, mark, is_name, type_tokens, outermost, HasSize, no_size, size, AreNumbers, last_number, more_numbers, AreInitial, no_value, one_value, values, IsGlobal, AreGlobals, no_global, placed_at, one_global, HasClass, no_class, auto_class, register_class, IsParam, AreSomeParams, last_param, more_params, AreParams, no_param, some_params, IsLocalClass, plain_local, auto_local, IsLocal, AreLocals, no_local, one_local, HasResult, no_result, result, IsFunction, AreFunctions, last_function, more_functions, IsUnit}
use Rattle.dcc_c.specs.Rules.{has_element, allows_global}
use Rattle.dcc_c.specs.Written.{depth_after, written_lines, written_place, written_globals}
use Rattle.dcc_c.specs.Numbered.{rows, numbered_function, numbered_functions, numbered}
use Rattle.dcc_c.proofs.Writable.{is_small, is_small_if, is_writable_global, is_writable_param, is_local_class, is_writable_local, is_writable_function, are_writable_lines, IsWritable}
use Rattle.dcc_c.proofs.WrittenTokens.{variable_tokens, size_tokens, class_tokens, local_tokens, locals_tokens, param_tokens, some_params_tokens, params_tokens, head_tokens, function_tokens, functions_tokens, numbers_tokens, initial_tokens, global_tokens, place_tokens, globals_tokens, tree_tokens}
use Rattle.dcc_c.proofs.FormedExprs.{begins_formed}
use Rattle.dcc_c.proofs.FormedLines.{lines_formed}

size_formed : (at : ℕ) (len : Option ℕ) (rest : List Placed) → HasSize (size_tokens at len rest) len rest
size_formed at None rest = no_size
size_formed at (Some len) rest = size

class_formed : (at : ℕ) (class : Class) (rest : List Placed) → HasClass (class_tokens at class rest) class rest
class_formed at Plain rest = no_class
class_formed at Auto rest = auto_class
class_formed at Register rest = register_class

-- Global variables.

numbers_formed : (at n : ℕ) (ns : List ℕ) (rest : List Placed) → AreNumbers (numbers_tokens at (n ∷ ns) rest) (n ∷ ns) rest
numbers_formed at n [] rest = last_number
numbers_formed at n (m ∷ ns) rest = more_numbers (numbers_formed at m ns rest)

-- a variable that is no array has one initial value at most
initial_formed : (at : ℕ) (len : Option ℕ) (init : List ℕ) → nat_le (length init) (elements len) ≡ true → (rest : List Placed) → AreInitial (initial_tokens at len init rest) init rest
initial_formed at None [] fits rest = no_value
initial_formed at (Some len) [] fits rest = no_value
initial_formed at None (n ∷ []) fits rest = one_value
initial_formed at None (n ∷ m ∷ ns) fits rest = let few = leb-true (suc (suc (length ns))) 1 fits in absurd (omega (arith, few))
initial_formed at (Some len) (n ∷ ns) fits rest = values (numbers_formed at n ns _)

global_formed : (at : ℕ) (g : Global) → is_name g.name ≡ true → allows_global g ≡ true → (rest : List Placed) → IsGlobal (global_tokens at g rest) g rest
global_formed at g is allowed rest = record {
  name_at = at;
  end_at = at;
  after_name = size_tokens at g.len (initial_tokens at g.len g.init (mark at (codes ";") ∷ rest));
  after_size = initial_tokens at g.len g.init (mark at (codes ";") ∷ rest);
  type_is = begins_formed at (type_tokens g.type) _;
  name_is = is;
  len_is = size_formed at g.len _;
  init_is = initial_formed at g.len g.init (and_parts (nat_le (after_global g) 65536) (nat_le (length g.init) (elements g.len)) (and_parts (has_element g.len) (nat_le (after_global g) 65536 && nat_le (length g.init) (elements g.len)) allowed).1).1 _;
}

-- the global variable stands where the line before it says, or where the one before it ends
at_place : (at : ℕ) {address : ℕ} {tokens rest : List Placed} {globals : List Global} (following : Option ℕ) → AreGlobals (Some address) tokens globals rest → AreGlobals following (place_tokens at following address tokens) globals rest
at_place at None formed = placed_at formed
at_place at {address} {tokens} {rest} {globals} (Some following) formed = by_test (following == address) refl
  where
    by_test : (same : Bool) → (following == address) ≡ same → AreGlobals (Some following) (if same then tokens else placed at (Pragma place_line) ∷ placed at (Decimal address plain_number) ∷ tokens) globals rest
    by_test true is = subst (λ b. AreGlobals (Some b) tokens globals rest) (sym (eqb-true following address is)) formed
    by_test false is = placed_at formed

globals_formed : (globals : List Global) → list_all is_writable_global globals ≡ true → list_all allows_global globals ≡ true → (following : Option ℕ) (at : ℕ) (rest : List Placed) → AreGlobals following (globals_tokens following at globals rest) globals rest
globals_formed [] good allowed following at rest = no_global
globals_formed (g ∷ globals) good allowed following at rest =
    let (first, others) = and_parts (is_writable_global g) (list_all is_writable_global globals) good in
    let (fits, others_fit) = and_parts (allows_global g) (list_all allows_global globals) allowed in
    let here = at + rows (written_place following g.at) in
    let is = (and_parts (is_name g.name) (is_small g.at && (is_small_if g.len && list_all is_small g.init)) first).0 in
    at_place at following (one_global (global_formed here g is fits _) (globals_formed globals others others_fit (Some (after_global g)) (here + 1) rest))

-- Functions.

none_from : (len : Option ℕ) → not (is_some len) ≡ true → len ≡ None
none_from None no_len = refl
none_from (Some n) no_len = absurd cc

param_formed : (at : ℕ) (v : Variable) → is_writable_param v ≡ true → (rest : List Placed) → IsParam (param_tokens at v rest) v rest
param_formed at v good rest = record {
  name_at = at;
  typed = variable_tokens at v.type v.name rest;
  class_is = class_formed at v.class _;
  type_is = begins_formed at (type_tokens v.type) _;
  name_is = (and_parts (is_name v.name) (not (is_some v.len)) good).0;
  no_len = none_from v.len (and_parts (is_name v.name) (not (is_some v.len)) good).1;
}

some_formed : (at : ℕ) (v : Variable) (params : List Variable) → list_all is_writable_param (v ∷ params) ≡ true → (rest : List Placed) → AreSomeParams (some_params_tokens at (v ∷ params) rest) (v ∷ params) rest
some_formed at v [] good rest = last_param (param_formed at v (and_parts (is_writable_param v) true good).0 rest)
some_formed at v (w ∷ params) good rest =
    let (first, others) = and_parts (is_writable_param v) (list_all is_writable_param (w ∷ params)) good in
    more_params (param_formed at v first _) (some_formed at w params others rest)

params_formed : (at : ℕ) (params : List Variable) → list_all is_writable_param params ≡ true → (rest : List Placed) → AreParams (params_tokens at params rest) params rest
params_formed at [] good rest = no_param
params_formed at (v ∷ params) good rest = some_params (some_formed at v params good rest)

local_class_formed : (class : Class) (len : Option ℕ) → is_local_class class len ≡ true → IsLocalClass class len class
local_class_formed Plain None good = plain_local
local_class_formed Plain (Some n) good = absurd cc
local_class_formed Auto len good = auto_local
local_class_formed Register len good = absurd cc

local_formed : (at : ℕ) (v : Variable) → is_writable_local v ≡ true → (rest : List Placed) → IsLocal (local_tokens at v rest) v rest
local_formed at v good rest = record {
  name_at = at;
  end_at = at;
  spelled = v.class;
  typed = variable_tokens at v.type v.name (size_tokens at v.len (mark at (codes ";") ∷ rest));
  after_name = size_tokens at v.len (mark at (codes ";") ∷ rest);
  class_is = class_formed at v.class _;
  type_is = begins_formed at (type_tokens v.type) _;
  name_is = (and_parts (is_name v.name) (is_small_if v.len && is_local_class v.class v.len) good).0;
  len_is = size_formed at v.len _;
  stored_is = local_class_formed v.class v.len (and_parts (is_small_if v.len) (is_local_class v.class v.len) (and_parts (is_name v.name) (is_small_if v.len && is_local_class v.class v.len) good).1).1;
}

locals_formed : (locals : List Variable) → list_all is_writable_local locals ≡ true → (at : ℕ) (rest : List Placed) → AreLocals (locals_tokens at locals rest) locals rest
locals_formed [] good at rest = no_local
locals_formed (v ∷ locals) good at rest =
    let (first, others) = and_parts (is_writable_local v) (list_all is_writable_local locals) good in
    one_local (local_formed at v first _) (locals_formed locals others (at + 1) rest)

head_formed : (at : ℕ) (type : Option CType) (name : Word) (rest : List Placed) → HasResult (head_tokens at type name rest) type (word at name ∷ rest)
head_formed at None name rest = no_result
head_formed at (Some type) name rest = result type (begins_formed at (type_tokens type) _)

function_formed : (at : ℕ) (f : Function) → is_writable_function f ≡ true → (rest : List Placed) → IsFunction 200 (function_tokens at f rest) (numbered_function at f) rest
function_formed at f good rest =
    let (is, parts) = and_parts (is_name f.name) (list_all is_writable_param f.params && (list_all is_writable_local f.locals && are_writable_lines outermost false f.body)) good in
    let (params, others) = and_parts (list_all is_writable_param f.params) (list_all is_writable_local f.locals && are_writable_lines outermost false f.body) parts in
    let (locals, body) = and_parts (list_all is_writable_local f.locals) (are_writable_lines outermost false f.body) others in
    let first = at + 2 + length f.locals in
    let last = first + rows (written_lines 1 2 f.body) in
    record {
      name_at = at;
      open_at = at;
      close_at = at;
      brace_at = at + 1;
      depth = depth_after 2 (stmts_in f.body);
      params = _;
      locals = _;
      body = _;
      result_is = head_formed at f.result f.name _;
      name_is = is;
      params_are = params_formed at f.params params _;
      locals_are = locals_formed f.locals locals (at + 2) _;
      body_is = lines_formed f.body outermost false 2 first (mark last (codes "}") ∷ rest) body (λ f. absurd cc);
    }

functions_formed : (f : Function) (functions : List Function) → list_all is_writable_function (f ∷ functions) ≡ true → (at : ℕ) → AreFunctions 200 (functions_tokens at (f ∷ functions)) (numbered_functions at (f ∷ functions))
functions_formed f [] good at = last_function (function_formed at f (and_parts (is_writable_function f) true good).0 [])
functions_formed f (g ∷ functions) good at =
    let (first, others) = and_parts (is_writable_function f) (list_all is_writable_function (g ∷ functions)) good in
    more_functions (function_formed at f first _) (functions_formed g functions others ((numbered_function at f).last + 1))

some_functions : (functions : List Function) {f : Function} {others : List Function} → functions ≡ f ∷ others → list_all is_writable_function functions ≡ true → (at : ℕ) → AreFunctions 200 (functions_tokens at functions) (numbered_functions at functions)
some_functions [] is good at = absurd cc
some_functions (f ∷ functions) is good at = functions_formed f functions good at

-- the tokens of a writable tree are a text that has the numbered tree
pub tokens_formed : (tree : Tree) → IsWritable tree → IsUnit 200 (tree_tokens tree) (numbered tree)
tokens_formed tree writable =
    let at = 3 + rows (written_globals None tree.globals) in
    record {
      stack_at = 2;
      globals = globals_tokens None 3 tree.globals (functions_tokens at tree.functions);
      functions = functions_tokens at tree.functions;
      head_is = refl;
      version_is = writable.version;
      globals_are = globals_formed tree.globals writable.globals writable.allowed.globals None 3 _;
      functions_are = some_functions tree.functions writable.allowed.first writable.functions at;
    }
