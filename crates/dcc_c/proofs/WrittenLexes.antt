-- The written form of a tree is read as its tokens.
use Rattle.std.proofs.Common.{◌≡◌, ℕ, suc, ◌+◌, ◌≤◌, Bool, true, false, ◌==◌, List, [], ◌∷◌, ◌++◌, length, None, Some, refl, subst, arith}
use Rattle.std.specs.Prelude.{codes, not, Option, is_some}
use Rattle.std.specs.List.{list_all, flat_map}
use Rattle.std.specs.Fmt.{decimal}
use Rattle.std.proofs.lemmas.Bool.{and_parts, and_from, le-leb}
use Rattle.std.proofs.lemmas.List.{append-nil}
use Rattle.dcc_c.specs.declared.syntax.CType.{CType}
use Rattle.dcc_c.specs.declared.syntax.Class.{Class}
use Rattle.dcc_c.specs.declared.syntax.Class.TheVariants.{Plain, Auto, Register}
use Rattle.dcc_c.specs.Token.{Decimal, plain_number, place_line}
use Rattle.dcc_c.specs.Lexing.{Placed, placed, Lexes, ends}
use Rattle.dcc_c.specs.Tree.{Word, Global, Variable, Function, Tree}
use Rattle.dcc_c.specs.Grammar.{is_name, outermost}
use Rattle.dcc_c.specs.Placement.{after_global}
use Rattle.dcc_c.specs.Written.{written_size, written_class, written_local, written_param, written_params, written_head_params, written_head, written_function, written_functions, written_numbers, written_initial, written_global, written_place, written_globals, written_form}
use Rattle.dcc_c.specs.Numbered.{rows, numbered_function}
use Rattle.dcc_c.proofs.LexingLaws.{header_lexes}
use Rattle.dcc_c.proofs.WrittenLaws.{is_word-name, is_free}
use Rattle.dcc_c.proofs.Writable.{is_small, is_small_if, is_writable_global, is_writable_param, is_local_class, is_writable_local, are_writable_lines, is_writable_function, IsWritable}
use Rattle.dcc_c.proofs.WrittenTokens.{size_tokens, class_tokens, local_tokens, locals_tokens, param_tokens, some_params_tokens, params_tokens, head_tokens, function_tokens, functions_tokens, numbers_tokens, initial_tokens, global_tokens, place_tokens, globals_tokens, tree_tokens}
use Rattle.dcc_c.proofs.WrittenReads.{Ending, Inside, LineAfter, Reads, nothing, space_then, reads_then, line_feed, no_line, lines_then, counted_as}
use Rattle.dcc_c.proofs.WrittenExprs.{word_then, mark_then, lone_then, opening_then, closing_then, number_then, word_reads, variable_reads}
use Rattle.dcc_c.proofs.WrittenParts.{at_start, indented_then, after_rows, by_rows, semicolon_line, closing_line, pragma_reads, pragma_unless}
use Rattle.dcc_c.proofs.WrittenStmts.{lines_read}

-- Numbers.

decimal_reads : {at : ℕ} (n : ℕ) → is_small n ≡ true →
    Reads false at Inside (decimal n) (λ others. placed at (Decimal n plain_number) ∷ others)
decimal_reads {at} n small =
    subst (λ bytes. Reads false at Inside bytes (λ others. placed at (Decimal n plain_number) ∷ others)) (append-nil (decimal n)) (number_then n small (λ rest fits. fits) nothing)

numbers_read : {at : ℕ} (ns : List ℕ) → list_all is_small ns ≡ true →
    Reads false at Inside (written_numbers ns) (numbers_tokens at ns)
numbers_read [] small = nothing
numbers_read (n ∷ []) small = decimal_reads n (and_parts (is_small n) _ small).0
numbers_read (n ∷ m ∷ ns) small =
    let (first, others) = and_parts (is_small n) (list_all is_small (m ∷ ns)) small in
    number_then n first (λ rest fits. refl) (mark_then (codes ",") refl (λ rest fits. refl) (space_then (numbers_read (m ∷ ns) others)))

size_reads : {at : ℕ} (len : Option ℕ) → is_small_if len ≡ true →
    Reads false at Inside (written_size len) (size_tokens at len)
size_reads None small = nothing
size_reads (Some len) small =
    lone_then (codes "[") refl (λ c. refl) (number_then len small (λ rest fits. refl) (lone_then (codes "]") refl (λ c. refl) nothing))

initial_reads : {at : ℕ} (len : Option ℕ) (ns : List ℕ) → list_all is_small ns ≡ true →
    Reads false at Inside (written_initial len ns) (initial_tokens at len ns)
initial_reads len [] small = nothing
initial_reads None (n ∷ ns) small =
    space_then (mark_then (codes "=") refl (λ rest fits. refl) (space_then (numbers_read (n ∷ ns) small)))
initial_reads (Some len) (n ∷ ns) small =
    space_then (mark_then (codes "=") refl (λ rest fits. refl) (space_then (lone_then (codes "{") refl (λ c. refl) (reads_then (numbers_read (n ∷ ns) small) (λ rest fits. refl) (lone_then (codes "}") refl (λ c. refl) nothing)))))

size_free : (len : Option ℕ) (bytes rest : List ℕ) → is_free (bytes ++ rest) ≡ true → is_free ((written_size len ++ bytes) ++ rest) ≡ true
size_free None bytes rest free = free
size_free (Some n) bytes rest free = refl

initial_free : (len : Option ℕ) (ns rest : List ℕ) → is_free ((written_initial len ns ++ codes ";\n") ++ rest) ≡ true
initial_free len [] rest = refl
initial_free None (n ∷ ns) rest = refl
initial_free (Some len) (n ∷ ns) rest = refl

-- Global variables.

global_reads : {at : ℕ} (g : Global) → is_writable_global g ≡ true →
    Reads true at (LineAfter (at + 1)) (written_global g) (global_tokens at g)
global_reads g good =
    let (named, others) = and_parts (is_name g.name) _ good in
    let (placed, rest) = and_parts (is_small g.at) _ others in
    let (sized, valued) = and_parts (is_small_if g.len) (list_all is_small g.init) rest in
    reads_then (variable_reads g.type g.name named) (λ rest fits. size_free g.len _ rest (initial_free g.len g.init rest)) (reads_then (size_reads g.len sized) (λ rest fits. initial_free g.len g.init rest) (reads_then (initial_reads g.len g.init valued) (λ rest fits. refl) semicolon_line))

place_reads : {at : ℕ} (following : Option ℕ) (address : ℕ) → is_small address ≡ true →
    Reads true at (LineAfter (at + rows (written_place following address))) (written_place following address) (place_tokens at following address)
place_reads None address small = by_rows (pragma_reads place_line address (and_from _ _ small refl) small)
place_reads (Some following) address small = pragma_unless (following == address) place_line address (λ differ. (and_from _ _ small refl, small))

globals_read : (following : Option ℕ) (at : ℕ) (globals : List Global) → list_all is_writable_global globals ≡ true →
    Reads true at (LineAfter (at + rows (written_globals following globals))) (written_globals following globals) (globals_tokens following at globals)
globals_read following at [] good = after_rows 0 refl no_line
globals_read following at (g ∷ globals) good =
    let (first, others) = and_parts (is_writable_global g) (list_all is_writable_global globals) good in
    let (named, rest) = and_parts (is_name g.name) _ first in
    let (small, more) = and_parts (is_small g.at) _ rest in
    by_rows (lines_then (place_reads following g.at small) (lines_then (global_reads g first) (globals_read (Some (after_global g)) _ globals others)))

-- Functions.

class_then : {at : ℕ} {ending : Ending} {b : List ℕ} {g : List Placed → List Placed} (class : Class) →
    Reads false at ending b g → Reads false at ending (written_class class ++ b) (λ others. class_tokens at class (g others))
class_then Plain r = r
class_then Auto r = word_then (codes "auto") refl (λ rest fits. refl) (space_then r)
class_then Register r = word_then (codes "register") refl (λ rest fits. refl) (space_then r)

local_reads : {at : ℕ} (v : Variable) → is_writable_local v ≡ true →
    Reads true at (LineAfter (at + 1)) (written_local v) (local_tokens at v)
local_reads v good =
    let (named, others) = and_parts (is_name v.name) _ good in
    let (sized, class) = and_parts (is_small_if v.len) (is_local_class v.class v.len) others in
    indented_then 1 (class_then v.class (reads_then (variable_reads v.type v.name named) (λ rest fits. size_free v.len _ rest refl) (reads_then (size_reads v.len sized) (λ rest fits. refl) semicolon_line)))

locals_read : (at : ℕ) (locals : List Variable) → list_all is_writable_local locals ≡ true →
    Reads true at (LineAfter (at + length locals)) (flat_map written_local locals) (locals_tokens at locals)
locals_read at [] good = after_rows 0 refl no_line
locals_read at (v ∷ locals) good =
    let (first, others) = and_parts (is_writable_local v) (list_all is_writable_local locals) good in
    counted_as (at + suc (length locals)) (omega arith) (lines_then (local_reads v first) (locals_read (at + 1) locals others))

param_reads : {at : ℕ} (v : Variable) → is_writable_param v ≡ true →
    Reads false at Inside (written_param v) (param_tokens at v)
param_reads v good =
    class_then v.class (variable_reads v.type v.name (and_parts (is_name v.name) (not (is_some v.len)) good).0)

some_params_read : {at : ℕ} (params : List Variable) → list_all is_writable_param params ≡ true →
    Reads false at Inside (written_params params) (some_params_tokens at params)
some_params_read [] good = nothing
some_params_read (v ∷ []) good = param_reads v (and_parts (is_writable_param v) _ good).0
some_params_read (v ∷ w ∷ params) good =
    let (first, others) = and_parts (is_writable_param v) (list_all is_writable_param (w ∷ params)) good in
    reads_then (param_reads v first) (λ rest fits. refl) (mark_then (codes ",") refl (λ rest fits. refl) (space_then (some_params_read (w ∷ params) others)))

params_read : {at : ℕ} (params : List Variable) → list_all is_writable_param params ≡ true →
    Reads false at Inside (written_head_params params) (params_tokens at params)
params_read [] good = word_reads (codes "void") refl
params_read (v ∷ params) good = some_params_read (v ∷ params) good

head_reads : {at : ℕ} (result : Option CType) (name : Word) → is_name name ≡ true →
    Reads true at Inside (written_head result name) (head_tokens at result name)
head_reads None name is =
    word_then (codes "void") refl (λ rest fits. refl) (space_then (word_reads name (is_word-name name is)))
head_reads (Some type) name is = variable_reads type name is

-- the end of a line before others
feed_then : {fresh : Bool} {at last : ℕ} {b : List ℕ} {g : List Placed → List Placed} (next : ℕ) → at + 1 ≡ next →
    Reads true next (LineAfter last) b g → Reads fresh at (LineAfter last) (10 ∷ b) g
feed_then next is r = lines_then (counted_as next is line_feed) r

function_reads : (at : ℕ) (f : Function) → is_writable_function f ≡ true →
    Reads true at (LineAfter ((numbered_function at f).last + 1)) (written_function f) (function_tokens at f)
function_reads at f good =
    let (named, others) = and_parts (is_name f.name) _ good in
    let (given, rest) = and_parts (list_all is_writable_param f.params) _ others in
    let (local, inner) = and_parts (list_all is_writable_local f.locals) (are_writable_lines outermost false f.body) rest in
    let body = lines_then (lines_read f.body outermost false inner 1 2 (at + 2 + length f.locals)) (at_start closing_line) in
    let block = lone_then (codes "{") refl (λ c. refl) (feed_then (at + 2) (omega arith) (lines_then (locals_read (at + 2) f.locals local) body)) in
    reads_then (head_reads f.result f.name named) (λ rest fits. refl) (opening_then (reads_then (params_read f.params given) (λ rest fits. refl) (closing_then (feed_then (at + 1) refl block))))

functions_read : (at : ℕ) (functions : List Function) → list_all is_writable_function functions ≡ true →
    Lexes true at (written_functions functions) (functions_tokens at functions)
functions_read at [] good = ends
functions_read at (f ∷ functions) good =
    let (first, others) = and_parts (is_writable_function f) (list_all is_writable_function functions) good in
    (function_reads at f first).lexed (written_functions functions) _ tt (functions_read ((numbered_function at f).last + 1) functions others)

-- The written form of a writable tree is read as its tokens.
pub written_lexes : (tree : Tree) → IsWritable tree → Lexes true 1 (written_form tree) (tree_tokens tree)
written_lexes tree is =
    let low : tree.lo ≤ 65535 = is.allowed.lo in
    let high : tree.hi ≤ 65535 = is.allowed.hi in
    let numbers = and_from _ _ (le-leb tree.lo 4294967295 (omega arith)) (and_from _ _ (le-leb tree.hi 4294967295 (omega arith)) refl) in
    let following = functions_read (3 + rows (written_globals None tree.globals)) tree.functions is.functions in
    header_lexes tree.lo tree.hi numbers ((globals_read None 3 tree.globals is.globals).lexed (written_functions tree.functions) _ tt following)
